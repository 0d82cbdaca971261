-- What the check does not find alone for `texture_part`.
use mathlib.Core.Path.{refl}
use Rattle.conditions.specs.Conditions.{◌$◌}
use Rattle.refusals.proofs.Stages.{after_goes, after_hands}
use Rattle.copy_buffer_texture.specs.Stages.{part_checked}
use Rattle.copy_buffer_texture.proofs.texture_part.Goals as goal

pub returns-in_err-extent : goal.returns-in_err-extent
unfolding part_checked
returns-in_err-extent c = after_hands _ c.validate_texture_copy_range.ensures c.in_err-extent.was c.from_residual.ensures.1

pub returns-in_err-base : goal.returns-in_err-base
unfolding part_checked
returns-in_err-base c =
    after_goes _ c.validate_texture_copy_range.ensures c.in_ok-extent.was $
    after_hands _ c.extract_texture_selector.ensures c.in_err-base.was c.from_residual-in_err-base.ensures.1

pub returns : goal.returns
unfolding part_checked
returns c =
    after_goes _ c.validate_texture_copy_range.ensures c.in_ok-extent.was $
    after_goes _ c.extract_texture_selector.ensures c.in_ok-base.was refl
