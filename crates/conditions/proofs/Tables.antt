-- A table: a rule of it, by one test that is computed over all of its rows, and a `match` with an arm for each row.
-- Assumes nothing.
use mathlib.Core.Path.{◌≡◌, refl}
use mathlib.Core.Bool.{Bool, true, false, ◌&&◌}
use mathlib.Core.List.{List, [], ◌∷◌, map}
use Prim.Native.Nat.{ℕ, zero, suc, ◌<◌}
use native.Mathlib.Omega.{arith}
use lib.Dec.{eqb}
use lib.ListN.{get_or}
use borrow.Author.Tests.{eqb-true, eqb-false}
use Rattle.conditions.specs.Conditions.{every}
use Rattle.conditions.proofs.Rules.{AllTrue, all_true, both_true}

-- a test that every row passes, and the row that stands for those past the end, is passed at every index
pub at_each :
    {A : Type 0} (test : A → Bool) (rows : List A) (past : A) → every (map test rows) ≡ true → test past ≡ true
    → (n : ℕ) → test (get_or rows n past) ≡ true
at_each {A} test rows past all = from rows (all_true (map test rows) all)
  where
    from : (rows : List A) → AllTrue (map test rows) → test past ≡ true → (n : ℕ) → test (get_or rows n past) ≡ true
    from [] t last n = last
    from (r ∷ rows) t last zero = t.0
    from (r ∷ rows) t last (suc n) = from rows t.1 last n

-- a test that is computed of every number below k
abbrev pub every_below : (ℕ → Bool) → ℕ → Bool
every_below test zero = true
every_below test (suc k) = test k && every_below test k

below_step : (test : ℕ → Bool) (k n : ℕ) (t : Bool) → eqb n k ≡ t → test k ≡ true → n < suc k → (n < k → test n ≡ true) → test n ≡ true
below_step test k n true e last h rest = rw (eqb-true n k e) last
below_step test k n false e last h rest = let other = eqb-false n k e in rest (omega arith)

pub at_below : (test : ℕ → Bool) (k : ℕ) → every_below test k ≡ true → (n : ℕ) → n < k → test n ≡ true
at_below test zero all n h = absurd (omega arith)
at_below test (suc k) all n h =
    let p = both_true (test k) (every_below test k) all in
    below_step test k n (eqb n k) refl p.0 h (at_below test k p.1 n)
