-- What callers use of `blocks_of` and `rounded_up` in place of their text.
use Rattle.std.specs.Prelude.{◌≡◌, ℕ, ◌+◌, ◌*◌, ◌/◌, ◌%◌, ◌≤◌, ◌<◌}
use Rattle.measures.specs.Measure.{blocks_of, rounded_up}

pub record BlockLaws (size : ℕ) : Type 0 where
  -- whole blocks are counted exactly
  pub exact : (n : ℕ) → n % size ≡ 0 → blocks_of n size * size ≡ n
  pub quotient : (n : ℕ) → n % size ≡ 0 → blocks_of n size ≡ n / size
  -- the blocks hold the texels, and one block fewer does not
  pub holds : (n : ℕ) → n ≤ rounded_up n size
  pub least : (n k : ℕ) → n ≤ k * size → blocks_of n size ≤ k
  pub tight : (n : ℕ) → rounded_up n size < n + size
  -- what is rounded up is whole blocks, and more texels never take fewer
  pub whole : (n : ℕ) → rounded_up n size % size ≡ 0
  pub rising : (n m : ℕ) → n ≤ m → blocks_of n size ≤ blocks_of m size

-- the laws hold for every block size of at least 1
abbrev pub EveryBlockSize : Type 0
EveryBlockSize = (size : ℕ) → 0 < size → BlockLaws size
