-- Demand 3: what holds of every accepted copy between a buffer, or memory, and a texture with no size of 0, of all the regions that its
-- plan hands back, of the ranges and of the required bytes that it reports. Every range is half-open.
use Rattle.std.specs.Prelude.{◌≡◌, List, ◌∷◌, ◌⊎◌, ◌↔◌, ℕ, ◌+◌, ◌-◌, ◌*◌, ◌/◌, ◌^◌, ◌≤◌, ◌<◌, length, get_or, Some, Ok}
use Rattle.rule_init_ranges.specs.declared.MemoryInitKind.{MemoryInitKind}
use Rattle.rule_init_ranges.specs.declared.MemoryInitKind.TheVariants.{ImplicitlyInitialized, NeedsInitializedMemory}
use Rattle.rule_init_ranges.specs.declared.BufferInitRange.{BufferInitRange}
use Rattle.plan_buffer_texture.specs.declared.BufferTextureCopy.{BufferTextureCopy}
use Rattle.plan_buffer_texture.specs.declared.BufferTexturePlan.{BufferTexturePlan}
use Rattle.records.specs.declared.Buffer.{Buffer}
use Rattle.copy_buffer_texture.specs.declared.UploadSource.TheVariants as S
use Rattle.claim_ownership.specs.Regions.{Place, Within, Names, puts}
use Rattle.claim_ownership.specs.Asking.{Gives}
use Rattle.copy_buffer_texture.specs.Copy.{Upload, Download, Copy}
use Rattle.claim_ownership.specs.Copy.{planned, byte_size, LengthFits, depth, aspects, bytes, block, wide, high, row, image, total, layer_at, depth_at, count, region_at, regions_of}
use Rattle.claim_ownership.specs.Ranges.{texture_range, buffer_ranges, listed}

-- ---- who owns a byte

-- the block in column i, row j, image k of the copied box
pub record Block : Type 0 where
  pub i : ℕ
  pub j : ℕ
  pub k : ℕ

abbrev pub InBox : Copy → Block → Type 0
InBox c b = (b.i < wide c) × (b.j < high c) × (b.k < depth c)

unfoldable pub first_byte : Copy → Block → ℕ
first_byte c b = c.layout.offset + b.k * image c + b.j * row c + b.i * bytes c

-- a block of the box owns as many bytes as a block has, from its first on
pub record Owns (c : Copy) (b : Block) (byte : ℕ) : Type 0 where
  pub boxed : InBox c b
  pub from : first_byte c b ≤ byte
  pub before : byte < first_byte c b + bytes c

abbrev pub Owned : Copy → ℕ → Type 0
Owned c byte = (b : Block) × Owns c b byte

-- ---- where a block stands in the texture, and which regions name it

abbrev pub place_of : Copy → Block → Place
place_of c b =
    record {
      level = c.view.mip_level;
      aspects = aspects c;
      layer = layer_at c b.k;
      x = c.view.origin.x.0 + b.i * block c;
      y = c.view.origin.y.0 + b.j * block c;
      z = depth_at c b.k;
    }

-- a place in the copied box
pub record Boxed (c : Copy) (p : Place) : Type 0 where
  pub level : p.level ≡ c.view.mip_level
  pub aspects : p.aspects ≡ aspects c
  pub x : Within p.x c.view.origin.x.0 c.size.width.0
  pub y : Within p.y c.view.origin.y.0 c.size.height.0
  pub image : (k : ℕ) × (k < depth c) × (p.layer ≡ layer_at c k) × (p.z ≡ depth_at c k)

-- the n-th region alone names the block, and puts it at the bytes it owns
pub record NamedBy (c : Copy) (rs : List BufferTextureCopy) (b : Block) (n : ℕ) : Type 0 where
  pub there : n < length rs
  pub named : Names (get_or rs n (region_at c 0)) (place_of c b)
  pub put : puts (block c) (block c) (bytes c) (get_or rs n (region_at c 0)) (place_of c b) ≡ first_byte c b
  pub only : (m : ℕ) → m < length rs → Names (get_or rs m (region_at c 0)) (place_of c b) → m ≡ n

-- ---- what the ranges say of a byte

-- a range of the kind, among those of a list, holds the byte
pub data Reported (kind : MemoryInitKind) (byte : ℕ) : List BufferInitRange → Type 0 where
  here : {r : BufferInitRange} {rs : List BufferInitRange} → r.kind ≡ kind → r.start ≤ byte → byte < r.end → Reported kind byte (r ∷ rs)
  later : {r : BufferInitRange} {rs : List BufferInitRange} → Reported kind byte rs → Reported kind byte (r ∷ rs)

-- an owned byte below and one above; an owned byte in the byte's word of four
abbrev pub Between : Copy → ℕ → Type 0
Between c byte = (below above : ℕ) × Owned c below × (below < byte) × Owned c above × (byte < above)

abbrev pub Beside : Copy → ℕ → Type 0
Beside c byte = (near : ℕ) × Owned c near × (near / 4 ≡ byte / 4)

-- ---- the demand

pub record Demand3 (c : Copy) (p : BufferTexturePlan) : Type 0 where
  -- at most one block owns a byte, and an owned byte lies inside the required span and the buffer, or the block of memory
  pub one_owner : (byte : ℕ) (b b' : Block) → Owns c b byte → Owns c b' byte → b ≡ b'
  pub inside : (byte : ℕ) → Owned c byte → (c.layout.offset ≤ byte) × (byte < c.layout.offset + total c) × (byte < byte_size c.direction)
  -- asking until none is left gives the copy's regions, in order, and no others, none of them at the number that stands for absent; the
  -- ranges are the copy's and no others, and the bytes are those of the required span
  pub asked : (rs : List BufferTextureCopy) → Gives p rs ↔ (rs ≡ regions_of c)
  pub offsets : (n : ℕ) → n < count c → (region_at c n).offset < 2 ^ 64 - 1
  pub reported : p.ranges ≡ Some ((texture_range c), (buffer_ranges c))
  pub required : p.bytes_checked ≡ total c
  -- each block is named by exactly one of the regions that asking gave, which puts it at the bytes it owns; none of them names a
  -- place outside the box
  pub named : (rs : List BufferTextureCopy) → Gives p rs → (b : Block) → InBox c b → (n : ℕ) × NamedBy c rs b n
  pub outside : (rs : List BufferTextureCopy) → Gives p rs → (n : ℕ) → n < length rs → (q : Place) → Names (get_or rs n (region_at c 0)) q → Boxed c q
  -- what is implicitly initialised is owned; where a buffer is read, what is owned needs memory; where it is written, so does every
  -- unowned byte with an owned one below and one above it, or with one in its word
  pub implicit : (byte : ℕ) → Reported ImplicitlyInitialized byte (listed p.ranges) → Owned c byte
  pub read : (b : Buffer) → c.direction ≡ Upload (S.Buffer b) → (byte : ℕ) → Owned c byte → Reported NeedsInitializedMemory byte (listed p.ranges)
  pub written : (b : Buffer) → c.direction ≡ Download b → (byte : ℕ) → (Owned c byte → ⊥) → Between c byte ⊎ Beside c byte → Reported NeedsInitializedMemory byte (listed p.ranges)

-- of every device, record and figure, and every accepted copy, from a buffer, from memory or into a buffer, whose width, height and depth
-- are above 0
abbrev pub EveryCopy : Type 0
EveryCopy =
    (c : Copy) (p : BufferTexturePlan) → LengthFits c.direction → planned c ≡ Ok p
    → 0 < c.size.width.0 → 0 < c.size.height.0 → 0 < depth c → Demand3 c p
