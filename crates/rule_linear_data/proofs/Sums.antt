-- Products and sums that 64 bits hold, or not; the bytes of a block.
-- Assumes nothing.
use Rattle.std.specs.Prelude.{Option, Some, None, SomeIff}
use mathlib.Core.Path.{◌≡◌, refl}
use mathlib.Core.Bool.{Bool, true, false}
use Prim.Native.Nat.{ℕ, ◌*◌, ◌^◌, ◌≤◌, ◌<◌}
use native.Mathlib.Omega.{arith}
use native.Mathlib.Nat.{mul-le-mul_left}
use borrow.Author.Tests.{lt-ltb, le-ltb, ltb-false}
use lib.Dec.{ltb}
use Rattle.conditions.specs.Conditions.{pick}
use Rattle.measures.specs.Measure.{or_else}
use Rattle.formats.specs.declared.TextureAspect.{TextureAspect}
use Rattle.formats.specs.Aspects.{block_copy_size}
use Rattle.formats.specs.Laws.{max_block_bytes}
use Rattle.formats.proofs.Rows.{every_format}
use Rattle.rule_linear_data.specs.Linear.{block_bytes}
use Rattle.rule_linear_data.specs.Stages.{fitting}

pub fits : {n : ℕ} → n < 2 ^ 64 → Some n ≡ fitting n
unfolding fitting
fits {n} h = rw (lt-ltb n (2 ^ 64) h)

pub over : (n : ℕ) → 2 ^ 64 ≤ n → None ≡ fitting n
unfolding fitting
over n h = rw (le-ltb n (2 ^ 64) h)

-- the other way
pub fits_of : (n : ℕ) {w : Option ℕ} {v : ℕ} → w ≡ fitting n → w ≡ Some v → n ≡ v
unfolding fitting
fits_of n {w} {v} e q = go (ltb n (2 ^ 64)) e
  where
    go : (t : Bool) → w ≡ pick t (Some n) None → n ≡ v
    go true p = cc
    go false p = let z : ◌≡◌ {A = ℕ} 0 1 = cc in absurd (omega arith)

pub over_of : (n : ℕ) {w : Option ℕ} → w ≡ fitting n → w ≡ None → 2 ^ 64 ≤ n
unfolding fitting
over_of n {w} e q = go (ltb n (2 ^ 64)) refl e
  where
    go : (t : Bool) → ltb n (2 ^ 64) ≡ t → w ≡ pick t (Some n) None → 2 ^ 64 ≤ n
    go true f p = let z : ◌≡◌ {A = ℕ} 0 1 = cc in absurd (omega arith)
    go false f p = ltb-false n (2 ^ 64) f

-- a sum or a product as std checks it
pub fitting_of : (n : ℕ) (w : Option ℕ) → SomeIff w (n < 2 ^ 64) n → w ≡ fitting n
fitting_of n None h = over n (by_cases n h)
  where
    by_cases : (n : ℕ) → (n < 2 ^ 64 → ⊥) → 2 ^ 64 ≤ n
    by_cases n h = omega arith
fitting_of n (Some v) h = rw h.1 (fits h.0)

-- a row of blocks is far from 2 ^ 64 bytes
pub row_fits : (blocks bytes : ℕ) → blocks < 2 ^ 32 → bytes ≤ max_block_bytes → blocks * bytes < 2 ^ 64
row_fits blocks bytes h few = let p : blocks * bytes ≤ blocks * max_block_bytes = mul-le-mul_left blocks few in omega arith

pub bytes_few : (format : ℕ) (aspect : TextureAspect) → block_bytes format aspect ≤ max_block_bytes
unfolding block_bytes or_else
bytes_few format aspect = go (block_copy_size format aspect) refl
  where
    go : (o : Option ℕ) → block_copy_size format aspect ≡ o → or_else o 0 ≤ max_block_bytes
    go (Some n) e = (every_format format).bytes_few aspect n e
    go None e = omega arith
