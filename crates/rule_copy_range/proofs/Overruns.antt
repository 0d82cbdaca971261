-- A run passes its limit exactly where its start does, or its size what is left.
-- Assumes nothing.
use Rattle.std.proofs.Common.{◌≡◌, ℕ, ◌+◌, ◌-◌, Bool, true, false, ◌||◌, ltb, refl, arith, ltb-false, ltb-true, le-ltb, lt-ltb}
use Rattle.rule_copy_range.specs.Range.{end_of, overruns}

passes :
    (start size limit : ℕ) (s t : Bool) → ltb limit start ≡ s → ltb (limit - start) size ≡ t
    → ltb limit (start + size) ≡ (s || t)
passes start size limit true t p q = lt-ltb limit (start + size) (omega (arith, ltb-true limit start p))
passes start size limit false true p q = lt-ltb limit (start + size) (omega (arith, ltb-false limit start p, ltb-true (limit - start) size q))
passes start size limit false false p q = le-ltb limit (start + size) (omega (arith, ltb-false limit start p, ltb-false (limit - start) size q))

pub overrun_of : (start size limit : ℕ) → ltb limit (end_of start size) ≡ overruns start size limit
unfolding end_of overruns
overrun_of start size limit = passes start size limit _ _ refl refl
