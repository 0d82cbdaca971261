-- What the check does not find alone for `allowed`.
use mathlib.Core.Path.{sym, ◌∙◌}
use Rattle.conditions.specs.Conditions.{◌$◌}
use Rattle.conditions.proofs.Rules.{not_no, line_passes}
use Rattle.refusals.proofs.Stages.{after_goes, after_hands}
use Rattle.copy_buffer_texture.specs.Stages.{download_allowed}
use Rattle.copy_buffer_texture.proofs.Download.allowed.Goals as goal

pub returns-in_err-validate_texture_copy_src_format : goal.returns-in_err-validate_texture_copy_src_format
unfolding download_allowed
returns-in_err-validate_texture_copy_src_format c =
    line_passes _ _ _ _ _ (not_no _ (sym c.contains.ensures ∙ c.if-not-contains.false)) $
    after_hands _ c.validate_texture_copy_src_format.ensures c.in_err-validate_texture_copy_src_format.was c.from_residual.ensures.1

pub returns-in_err-check_layout : goal.returns-in_err-check_layout
unfolding download_allowed
returns-in_err-check_layout c =
    line_passes _ _ _ _ _ (not_no _ (sym c.contains.ensures ∙ c.if-not-contains.false)) $
    after_goes _ c.validate_texture_copy_src_format.ensures c.in_ok-validate_texture_copy_src_format.was $
    after_hands _ c.check_layout.ensures c.in_err-check_layout.was c.from_residual-in_err-check_layout.ensures.1

pub returns : goal.returns
unfolding download_allowed
returns c =
    line_passes _ _ _ _ _ (not_no _ (sym c.contains.ensures ∙ c.if-not-contains.false)) $
    after_goes _ c.validate_texture_copy_src_format.ensures c.in_ok-validate_texture_copy_src_format.was $
    after_goes _ c.check_layout.ensures c.in_ok-check_layout.was c.placed.ensures
