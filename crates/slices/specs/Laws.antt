-- What callers use of `Put` in place of its text.
use Rattle.std.specs.Prelude.{◌≡◌, List, [], ◌++◌, ℕ, ◌+◌, ◌≤◌, length, take}
use Rattle.slices.specs.Put.{Put}

pub record PutLaws : Type 0 where
  -- the slice keeps its length
  pub same : (l m : List ℕ) (at : ℕ) (a : List ℕ) (r : ℕ) → Put l m at a r → length m ≡ length l
  -- no numbers may be put anywhere, and numbers put after others go on with them
  pub none : (l : List ℕ) (at : ℕ) → Put l l at [] at
  pub join : (l m k : List ℕ) (at : ℕ) (a : List ℕ) (r : ℕ) (b : List ℕ) (q : ℕ) → Put l m at a r → Put m k r b q → Put l k at (a ++ b) q
  -- up to their end stand what stood before their place, and the numbers
  pub front : (l m : List ℕ) (at : ℕ) (a : List ℕ) (r : ℕ) → Put l m at a r → at + length a ≤ length l → take r m ≡ take at l ++ a
