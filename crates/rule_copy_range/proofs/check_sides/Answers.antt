-- What the check does not find alone for `check_sides`.
use Rattle.conditions.specs.Conditions.{◌$◌}
use Rattle.refusals.specs.Order.{decided}
use Rattle.refusals.proofs.Order.{rule_passes, rule_hands}
use Rattle.rule_copy_range.specs.Range.{side_checks}
use Rattle.rule_copy_range.proofs.check_sides.Goals as goal

pub returns-in_err-check_dimension : goal.returns-in_err-check_dimension
unfolding side_checks decided
returns-in_err-check_dimension c = rule_hands _ _ _ c.check_dimension.ensures c.in_err-check_dimension.was c.from_residual.ensures.1

pub returns-in_err-check_dimension-2 : goal.returns-in_err-check_dimension-2
unfolding side_checks decided
returns-in_err-check_dimension-2 c =
    rule_passes _ _ _ c.check_dimension.ensures c.in_ok-check_dimension.was $
    rule_hands _ _ _ c.check_dimension-2.ensures c.in_err-check_dimension-2.was c.from_residual-in_err-check_dimension-2.ensures.1

pub returns-in_err-check_dimension-3 : goal.returns-in_err-check_dimension-3
unfolding side_checks decided
returns-in_err-check_dimension-3 c =
    rule_passes _ _ _ c.check_dimension.ensures c.in_ok-check_dimension.was $
    rule_passes _ _ _ c.check_dimension-2.ensures c.in_ok-check_dimension-2.was $
    rule_hands _ _ _ c.check_dimension-3.ensures c.in_err-check_dimension-3.was c.from_residual-in_err-check_dimension-3.ensures.1
