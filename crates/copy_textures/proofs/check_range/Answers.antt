-- What the check does not find alone for `check_range`.
use Rattle.copy_textures.proofs.Rules.{only_hands, only_tested}
use Rattle.rule_copy_range.specs.Range.{range_checked}
use Rattle.copy_textures.proofs.check_range.Goals as goal

pub returns-in_err-validate_texture_copy_range : goal.returns-in_err-validate_texture_copy_range
unfolding range_checked
returns-in_err-validate_texture_copy_range c =
    only_hands _ _ c.validate_texture_copy_range.ensures c.in_err-validate_texture_copy_range.was c.from_residual.ensures.1

pub returns-else-not-is_in_range : goal.returns-else-not-is_in_range
unfolding range_checked
returns-else-not-is_in_range c = only_tested _ _ _ (c.is_in_range.ensures c.args.of) c.if-not-is_in_range.false
