-- A plan that has so many regions left, asked for its next one.
-- Assumes nothing.
use Rattle.std.specs.Prelude.{Option, Some, None, SomeIff}
use mathlib.Core.Path.{◌≡◌}
use Prim.Native.Nat.{ℕ, ◌-◌, ◌≤◌}
use native.Mathlib.Omega.{arith}
use borrow.Author.Tests.{eq-eqb, ne_eqb}
use lib.Dec.{eqb}
use Rattle.conditions.specs.Conditions.{stop_if}

-- one is left, and one fewer after it
pub one_fewer : {A : Type 0} (o : Option ℕ) (left n : ℕ) (end more asked : A) → SomeIff o (1 ≤ left) (left - 1) → o ≡ Some n → (n ≡ left - 1 → asked ≡ more) → asked ≡ stop_if (eqb left 0) end more
unfolding stop_if
one_fewer o left n end more asked is e f =
    let both : (1 ≤ left) × (n ≡ left - 1) = rw e at is in
    rw (ne_eqb left 0 (λ z. omega arith)) (f both.1)

pub none_left : {A : Type 0} (o : Option ℕ) (left : ℕ) (end more : A) → SomeIff o (1 ≤ left) (left - 1) → o ≡ None → end ≡ stop_if (eqb left 0) end more
unfolding stop_if
none_left o left end more is e = let no : ¬ (1 ≤ left) = rw e at is in rw (eq-eqb left 0 (omega arith))
