-- An accident: two copies were to fill the layers of a level, and the loader took the end of a range for its last layer. Of the ranges from 0 to 4
-- and from 4 on it counted layer 4 as filled by both, and did not clear it for the second; of those from 0 to 4 and from 5 to 9 layer 4 is in
-- neither. The book tells.
use Rattle.std.specs.Prelude.{Ok, ◌≡◌, false, ℕ, ◌≤◌, ◌<◌, List, [], ◌∷◌, length, drop}
use Rattle.records.specs.declared.Texture.{Texture}
use Rattle.rule_init_ranges.specs.declared.MemoryInitKind.{MemoryInitKind}
use Rattle.rule_init_ranges.specs.declared.MemoryInitKind.TheVariants.{NeedsInitializedMemory}
use Rattle.rule_init_ranges.specs.declared.TextureInitRange.{TextureInitRange}
use Rattle.book_marks.specs.declared.Book.{Book}
use Rattle.claim_webgpu_copies.specs.Bounds.{TextureInBounds}
use Rattle.claim_book.specs.Created.{layers_of}
use Rattle.claim_book.specs.History.{History, Marked}
-- what is judged
use Rattle.book_marks.specs.Book.{is_filled}
use Rattle.book_marks.specs.Update.{updated}

-- layers of level 0, from a first one up to, not including, an end
abbrev pub layers : ℕ → ℕ → MemoryInitKind → TextureInitRange
layers start end kind = record { mip_level = 0; layers = record { start = start; end = end }; kind = kind }

-- layer 4 alone, to be read or written in part
abbrev pub layer_4 : TextureInitRange
layer_4 = layers 4 5 NeedsInitializedMemory

pub record FourLeft (b : Book) : Type 0 where
  pub unmarked : Marked b 0 4 → ⊥
  pub unfilled : is_filled b ≡ false
  pub answered : (out : List ℕ) → 2 ≤ length out → (updated b layer_4 out).answer ≡ Ok 1
  pub written : (out : List ℕ) → 2 ≤ length out → (updated b layer_4 out).out ≡ 0 ∷ 4 ∷ drop 2 out

-- the two copies, whether they write their layers wholly or not
abbrev pub lower : MemoryInitKind → TextureInitRange
lower kind = layers 0 4 kind

abbrev pub upper : MemoryInitKind → TextureInitRange
upper kind = layers 5 9 kind

-- the last first, as in a history
abbrev pub two_ranges : MemoryInitKind → MemoryInitKind → List TextureInitRange
two_ranges one other = upper other ∷ lower one ∷ []

pub record Happens (t : Texture) (one other : MemoryInitKind) : Type 0 where
  pub book : Book
  pub history : History t book (two_ranges one other)

-- of the n places that are told, the first is layer 4 of level 0
pub record FourFirst (b : Book) (r : TextureInitRange) (out : List ℕ) (n : ℕ) : Type 0 where
  pub some : 1 ≤ n
  pub rest : List ℕ
  pub told : (updated b r out).out ≡ 0 ∷ 4 ∷ rest

-- an update with layers from 4 on that need memory tells layer 4 first
pub record FourNext (b : Book) : Type 0 where
  pub unmarked : Marked b 0 4 → ⊥
  pub first :
      (end : ℕ) (out : List ℕ) (n : ℕ) → 4 < end → (updated b (layers 4 end NeedsInitializedMemory) out).answer ≡ Ok n
      → FourFirst b (layers 4 end NeedsInitializedMemory) out n

-- a copy of layers 0 to 4, and then an update with layers 4 to 8 that is applied
pub record Meets (t : Texture) (one : MemoryInitKind) : Type 0 where
  pub book : Book
  pub history : History t book (lower one ∷ [])
  pub out : List ℕ
  pub n : ℕ
  pub answered : (updated book (layers 4 8 NeedsInitializedMemory) out).answer ≡ Ok n

-- both can happen to each texture that has the layers, and whenever they happen the book tells
pub record LayerFour : Type 0 where
  pub happens : (t : Texture) (one other : MemoryInitKind) → TextureInBounds t → 9 ≤ layers_of t → Happens t one other
  pub meets : (t : Texture) (one : MemoryInitKind) → TextureInBounds t → 8 ≤ layers_of t → Meets t one
  pub adjacent : (t : Texture) (b : Book) (one : MemoryInitKind) → History t b (lower one ∷ []) → FourNext b
  pub left : (t : Texture) (b : Book) (one other : MemoryInitKind) → History t b (two_ranges one other) → FourLeft b
