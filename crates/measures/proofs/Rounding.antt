-- The laws of blocks, over any block size of at least 1.
-- Assumes nothing.
use mathlib.Core.Path.{◌≡◌, sym, ap, ◌∙◌}
use mathlib.Core.Logic.{◌⊎◌, inl, inr}
use Prim.Native.Nat.{ℕ, ◌+◌, ◌-◌, ◌*◌, ◌/◌, ◌%◌, ◌≤◌, ◌<◌}
use native.Mathlib.Omega.{arith}
use native.Mathlib.Nat.{add-mul, div-add-mod', div-lt_iff_lt-mul, div-mul-le_self, div-one, eq-zero-or-pos, lt-div-mul-add, mod-eq_of_lt, mod-lt, mod_self, mul-mod_left, mul-one}
use lib.Arith.{digits_div}
use Rattle.std.specs.Int.{div_ceil, next_multiple_of}
use Rattle.measures.specs.declared.Texels.{Texels}
use Rattle.measures.specs.Measure.{texels, blocks, blocks_of, rounded_up}
use Rattle.measures.specs.Laws.{EveryBlockSize}

-- blocks of one texel
pub single_blocks : (n size : ℕ) → size ≡ 1 → n ≡ blocks_of n size
unfolding blocks_of
single_blocks n size e = rw (e, div-one) (omega arith)

pub single_texels : (n size : ℕ) → size ≡ 1 → n ≡ rounded_up n size
unfolding rounded_up
single_texels n size e = single_blocks n size e ∙ rw (e, mul-one)

module _ (size : ℕ) (pos : 0 < size) where
  -- the quotient, and one more where a rest is left
  pub blocks_of_whole : (n : ℕ) → n % size ≡ 0 → blocks_of n size ≡ n / size
  unfolding blocks_of
  blocks_of_whole n e =
      let whole : n / size * size + (size - 1) ≡ n + (size - 1) = omega (arith, div-add-mod' n size) in
      ap (λ (k : ℕ). k / size) (sym whole) ∙ digits_div (n / size) (omega arith)

  pub blocks_of_rest : (n : ℕ) → 0 < n % size → blocks_of n size ≡ n / size + 1
  unfolding blocks_of
  blocks_of_rest n h =
      let low : n % size < size = mod-lt n pos in
      let over : (n / size + 1) * size + (n % size - 1) ≡ n + (size - 1) = omega (arith, div-add-mod' n size, add-mul (n / size) 1 size) in
      ap (λ (k : ℕ). k / size) (sym over) ∙ digits_div (n / size + 1) (omega arith)

  -- and so the quotient rounded up
  pub blocks_ceil : (n : ℕ) → div_ceil n size ≡ blocks_of n size
  blocks_ceil n = go (eq-zero-or-pos (n % size))
    where
      go : (n % size ≡ 0) ⊎ (0 < n % size) → div_ceil n size ≡ blocks_of n size
      go (inl e) = omega (arith, blocks_of_whole n e)
      go (inr h) = omega (arith, blocks_of_rest n h)

  -- as the code says it, of a block's side
  pub counted : (side n : Texels) → size ≡ side.0 → blocks (div_ceil n.0 size) ≡ blocks (blocks_of n.0 side.0)
  counted side n e = rw (← e) (ap blocks (blocks_ceil n.0))

  exact : (n : ℕ) → n % size ≡ 0 → blocks_of n size * size ≡ n
  exact n e = ap (λ (k : ℕ). k * size) (blocks_of_whole n e) ∙ omega (arith, div-add-mod' n size)

  -- the multiple of std
  pub next_multiple : (n : ℕ) → next_multiple_of n size ≡ rounded_up n size
  unfolding rounded_up
  next_multiple n = go (eq-zero-or-pos (n % size))
    where
      go : (n % size ≡ 0) ⊎ (0 < n % size) → next_multiple_of n size ≡ blocks_of n size * size
      go (inl e) =
          let none : size - n % size ≡ size = omega (arith, e) in
          ap (λ (r : ℕ). n + r % size) none ∙ ap (λ (r : ℕ). n + r) (mod_self size) ∙ omega (arith, exact n e)
      go (inr h) =
          let less : (size - n % size) % size ≡ size - n % size = mod-eq_of_lt (omega arith) in
          rw (less, blocks_of_rest n h) (omega (arith, mod-lt n pos, div-add-mod' n size, add-mul (n / size) 1 size))

  pub rounded : (side n : Texels) → size ≡ side.0 → texels (next_multiple_of n.0 size) ≡ texels (rounded_up n.0 side.0)
  rounded side n e = rw (← e) (ap texels (next_multiple n.0))

  holds : (n : ℕ) → n ≤ rounded_up n size
  unfolding blocks_of rounded_up
  holds n = let over = lt-div-mul-add {a = n + (size - 1)} pos in omega arith

  pub tight : (n : ℕ) → rounded_up n size < n + size
  unfolding blocks_of rounded_up
  tight n = omega (arith, div-mul-le_self (n + (size - 1)) size)

  least : (n k : ℕ) → n ≤ k * size → blocks_of n size ≤ k
  unfolding blocks_of
  least n k h =
      let below : n + (size - 1) < (k + 1) * size = omega (arith, add-mul k 1 size) in
      let fewer : (n + (size - 1)) / size < k + 1 = (div-lt_iff_lt-mul pos).1 below in
      omega arith

  rising : (n m : ℕ) → n ≤ m → blocks_of n size ≤ blocks_of m size
  unfolding rounded_up
  rising n m h = least n (blocks_of m size) (omega (arith, holds m))

  whole : (n : ℕ) → rounded_up n size % size ≡ 0
  unfolding rounded_up
  whole n = mul-mod_left (blocks_of n size) size

pub block_laws : EveryBlockSize
block_laws size pos =
    record {
      exact = exact size pos;
      quotient = blocks_of_whole size pos;
      holds = holds size pos;
      least = least size pos;
      tight = tight size pos;
      whole = whole size pos;
      rising = rising size pos;
    }
