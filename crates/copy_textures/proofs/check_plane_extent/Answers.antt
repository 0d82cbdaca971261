-- What the check does not find alone for `check_plane_extent`.
use Rattle.conditions.specs.Conditions.{◌$◌}
use Rattle.refusals.specs.Order.{decided}
use Rattle.refusals.proofs.Order.{rule_passes, rule_hands}
use Rattle.copy_textures.specs.Copy.{plane_width, plane_height}
use Rattle.copy_textures.specs.Plan.{plane_checks}
use Rattle.copy_textures.proofs.check_plane_extent.Goals as goal

pub returns-in_err-check_dimension : goal.returns-in_err-check_dimension
unfolding plane_checks plane_width decided
returns-in_err-check_dimension c =
    rule_hands _ _ _ (rw (← c.subject_of-source.ensures, ← c.logical_extent-level.ensures, ← c.subsampling_factor-factor.ensures, ← c.divided_by.ensures) c.check_dimension.ensures) c.in_err-check_dimension.was c.from_residual.ensures.1

pub returns-in_err-check_dimension-2 : goal.returns-in_err-check_dimension-2
unfolding plane_checks plane_width plane_height decided
returns-in_err-check_dimension-2 c =
    rule_passes _ _ _ (rw (← c.subject_of-source.ensures, ← c.logical_extent-level.ensures, ← c.subsampling_factor-factor.ensures, ← c.divided_by.ensures) c.check_dimension.ensures) c.in_ok-check_dimension.was $
    rule_hands _ _ _ (rw (← c.subject_of-source.ensures, ← c.logical_extent-level.ensures, ← c.subsampling_factor-factor.ensures, ← c.divided_by-2.ensures) c.check_dimension-2.ensures) c.in_err-check_dimension-2.was c.from_residual-in_err-check_dimension-2.ensures.1
