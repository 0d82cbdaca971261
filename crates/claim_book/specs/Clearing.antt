-- What an update writes into the slice that it is lent: the layers that have to be cleared before the copy.
use Rattle.std.specs.Prelude.{Ok, ◌≡◌, ◌⊎◌, ◌↔◌, ⊤, ℕ, ◌*◌, ◌<◌, ◌≤◌, List, [], ◌∷◌, ◌++◌, length, drop}
use Rattle.records.specs.declared.Texture.{Texture}
use Rattle.rule_init_ranges.specs.declared.MemoryInitKind.TheVariants.{ImplicitlyInitialized, NeedsInitializedMemory}
use Rattle.rule_init_ranges.specs.declared.TextureInitRange.{TextureInitRange}
use Rattle.book_marks.specs.declared.Book.{Book}
use Rattle.claim_book.specs.History.{History, Holds, HeldBy, Marked}
-- what is judged
use Rattle.book_marks.specs.Update.{updated}

abbrev pub Among : List ℕ → ℕ → Type 0
Among [] z = ⊥
Among (y ∷ ys) z = (y ≡ z) ⊎ Among ys z

-- each number is less than all after it
abbrev pub Rising : List ℕ → Type 0
Rising [] = ⊤
Rising (z ∷ zs) = ((y : ℕ) → Among zs y → z < y) × Rising zs

-- level and layer of each
abbrev pub places : ℕ → List ℕ → List ℕ
places level [] = []
places level (z ∷ zs) = level ∷ z ∷ places level zs

-- Some n layers zs are written from the slice's start, rising, and nothing past them. For a range that needs memory they are those of its layers
-- that were not written before; for an implicit one there are none.
pub record Clears (Written : ℕ → Type 0) (r : TextureInitRange) (out after : List ℕ) (n : ℕ) : Type 0 where
  pub zs : List ℕ
  pub counted : n ≡ length zs
  pub rising : Rising zs
  pub fit : 2 * n ≤ length out
  pub written : after ≡ places r.mip_level zs ++ drop (2 * n) out
  pub needed : r.kind ≡ NeedsInitializedMemory → (z : ℕ) → Among zs z ↔ (Holds r r.mip_level z × (Written z → ⊥))
  pub implicit : r.kind ≡ ImplicitlyInitialized → zs ≡ []

pub record EveryClearing : Type 0 where
  -- earlier applied ranges tell what was written
  pub of_textures :
      (t : Texture) (b : Book) (rs : List TextureInitRange) → History t b rs
      → (r : TextureInitRange) (out : List ℕ) (n : ℕ) → (updated b r out).answer ≡ Ok n
      → Clears (HeldBy rs r.mip_level) r out (updated b r out).out n
  -- and of any book that a caller lends, its marks
  pub of_books :
      (b : Book) (r : TextureInitRange) (out : List ℕ) (n : ℕ) → (updated b r out).answer ≡ Ok n
      → Clears (Marked b r.mip_level) r out (updated b r out).out n
