-- What the check does not find alone for `validate_texture_copy_range`.
use borrow.Author.Tests.{lt-leb}
use Rattle.conditions.specs.Conditions.{◌$◌}
use Rattle.refusals.specs.Order.{decided}
use Rattle.refusals.proofs.Order.{test_passes, rule_passes, rule_hands}
use Rattle.rule_copy_range.specs.Range.{range_checks, range_checked}
use Rattle.rule_copy_range.proofs.validate_texture_copy_range.Goals as goal

pub returns-in_err-check_extent : goal.returns-in_err-check_extent
unfolding range_checked range_checks decided
returns-in_err-check_extent c =
    test_passes _ _ _ _ _ (lt-leb _ _ c.if-level-texture.false) $
    rule_hands _ _ _ c.check_extent.ensures c.in_err-check_extent.was c.from_residual.ensures.1

pub returns-in_err-check_alignment : goal.returns-in_err-check_alignment
unfolding range_checked range_checks decided
returns-in_err-check_alignment c =
    test_passes _ _ _ _ _ (lt-leb _ _ c.if-level-texture.false) $
    rule_passes _ _ _ c.check_extent.ensures c.in_ok-check_extent.was $
    rule_hands _ _ _ c.check_alignment.ensures c.in_err-check_alignment.was c.from_residual-in_err-check_alignment.ensures.1
