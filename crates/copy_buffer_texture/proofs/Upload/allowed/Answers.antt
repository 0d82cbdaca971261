-- What the check does not find alone for `allowed`.
use mathlib.Core.Path.{sym, ◌∙◌}
use Rattle.conditions.specs.Conditions.{◌$◌}
use Rattle.conditions.proofs.Rules.{not_no, line_passes, line_passes_flag}
use Rattle.refusals.proofs.Stages.{after_goes, after_hands}
use Rattle.copy_buffer_texture.specs.Stages.{upload_allowed}
use Rattle.copy_buffer_texture.proofs.Upload.allowed.Goals as goal

pub returns-in_err-validate_texture_copy_dst_format : goal.returns-in_err-validate_texture_copy_dst_format
unfolding upload_allowed
returns-in_err-validate_texture_copy_dst_format c =
    line_passes_flag _ _ _ _ _ _ c.lacks_copy_src.ensures c.if-lacks_copy_src.false $
    line_passes _ _ _ _ _ (not_no _ (sym c.contains.ensures ∙ c.if-not-contains.false)) $
    after_hands _ c.validate_texture_copy_dst_format.ensures c.in_err-validate_texture_copy_dst_format.was c.from_residual.ensures.1

pub returns-in_err-check_layout : goal.returns-in_err-check_layout
unfolding upload_allowed
returns-in_err-check_layout c =
    let layout = c.check_layout.ensures in
    line_passes_flag _ _ _ _ _ _ c.lacks_copy_src.ensures c.if-lacks_copy_src.false $
    line_passes _ _ _ _ _ (not_no _ (sym c.contains.ensures ∙ c.if-not-contains.false)) $
    after_goes _ c.validate_texture_copy_dst_format.ensures c.in_ok-validate_texture_copy_dst_format.was $
    after_hands _ (rw c.is_aligned-is_aligned.ensures at layout) c.in_err-check_layout.was c.from_residual-in_err-check_layout.ensures.1

pub returns : goal.returns
unfolding upload_allowed
returns c =
    let layout = c.check_layout.ensures in
    line_passes_flag _ _ _ _ _ _ c.lacks_copy_src.ensures c.if-lacks_copy_src.false $
    line_passes _ _ _ _ _ (not_no _ (sym c.contains.ensures ∙ c.if-not-contains.false)) $
    after_goes _ c.validate_texture_copy_dst_format.ensures c.in_ok-validate_texture_copy_dst_format.was $
    after_goes _ (rw c.is_aligned-is_aligned.ensures at layout) c.in_ok-check_layout.was c.placed.ensures
