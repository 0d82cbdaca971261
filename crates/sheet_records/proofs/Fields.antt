-- Fields of a line by their places, past its last too.
-- Assumes nothing.
use mathlib.Core.Path.{◌≡◌, refl, sym, ap, ◌∙◌}
use mathlib.Core.Bool.{Bool, true, false}
use Prim.Native.Nat.{ℕ, ◌+◌, ◌-◌, ◌^◌, ◌≤◌, min}
use native.Mathlib.Omega.{arith}
use native.Mathlib.Nat.{min-eq_left, min-eq_right}
use borrow.Author.Tests.{leb-true, leb-false}
use lib.Dec.{leb}
use lib.ListN.{length, get_or-eq_default}
use Rattle.std.specs.Prelude.{Option, Some, unwrap_or}
use Rattle.sheet_fields.specs.declared.Line.{Line}
use Rattle.sheet_records.specs.Records.{value_of}

-- past a line's room 0 is read
past : (l : Line) (i : ℕ) → length l.values ≤ i → value_of l i ≡ 0
unfolding value_of
past l i h = ap (λ (o : Option ℕ). unwrap_or o (2 ^ 64 - 1)) (get_or-eq_default l.values (Some 0) h)

-- a sum that 64 bits do not hold is past it, and so is their largest number
pub saturated : (l : Line) (i k at : ℕ) → length l.values ≡ 16 → at ≡ min (i + k) (2 ^ 64 - 1) → value_of l at ≡ value_of l (i + k)
saturated l i k at room is = go (leb (i + k) (2 ^ 64 - 1)) refl
  where
    go : (t : Bool) → leb (i + k) (2 ^ 64 - 1) ≡ t → value_of l at ≡ value_of l (i + k)
    go true e = ap (value_of l) (is ∙ min-eq_left (leb-true _ _ e))
    go false e =
        let over = leb-false (i + k) (2 ^ 64 - 1) e in
        let most : at ≡ 2 ^ 64 - 1 = is ∙ min-eq_right (omega (arith, over)) in
        past l at (omega (arith, room, most)) ∙ sym (past l (i + k) (omega (arith, room, over)))
