-- A word contains a single flag exactly where that binary digit of the word is 1.
-- Assumes nothing.
use mathlib.Core.Path.{◌≡◌, sym, ap, ◌∙◌}
use Prim.Native.Nat.{ℕ, zero, suc, ◌+◌, ◌-◌, ◌*◌, ◌/◌, ◌%◌, ◌^◌, ◌<◌}
use native.Mathlib.Nat.{mod-lt, one-mul, zero-mul, pow-suc}
use native.Mathlib.Numerals.{one-add}
use native.Mathlib.Omega.{arith}
use lib.Bits.{bit_and, and_high}
use lib.Dec.{eqb}
use lib.Pow.{pow_pos}
use borrow.Author.Tests.{eq-eqb, ne_eqb}
use Rattle.flags.specs.Flags.{contains}

-- the digit, in its place
meet_single : (word k : ℕ) → bit_and word (2 ^ k) ≡ word / 2 ^ k % 2 * 2 ^ k
meet_single word k =
    let single : 2 ^ (1 + k) - 2 ^ k ≡ 2 ^ k = rw (one-add k, pow-suc 2 k) (omega arith) in
    ap (bit_and word) (sym single) ∙ and_high word 1 k

placed : (flag digit : ℕ) → 0 < flag → digit < 2 → eqb (digit * flag) flag ≡ eqb digit 1
placed flag zero some h = rw (zero-mul flag) (ne_eqb 0 flag (λ e. omega arith))
placed flag (suc zero) some h = eq-eqb (1 * flag) flag (one-mul flag)
placed flag (suc (suc digit)) some h = absurd (omega arith)

pub contains_single : (word k : ℕ) → contains word (2 ^ k) ≡ eqb (word / 2 ^ k % 2) 1
unfolding contains
contains_single word k = rw (meet_single word k) (placed (2 ^ k) (word / 2 ^ k % 2) (pow_pos k) (mod-lt (word / 2 ^ k) (omega arith)))
