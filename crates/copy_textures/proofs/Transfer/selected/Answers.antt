-- What the check does not find alone for `selected`.
use Rattle.conditions.specs.Conditions.{◌$◌}
use Rattle.conditions.proofs.Rules.{flag_lines}
use Rattle.refusals.proofs.Stages.{after_goes, after_hands}
use Rattle.copy_textures.specs.Stages.{selected_copy}
use Rattle.copy_textures.proofs.Transfer.selected.Goals as goal

pub returns-in_err-src_base : goal.returns-in_err-src_base
unfolding selected_copy
returns-in_err-src_base c = after_hands _ c.extract_texture_selector.ensures c.in_err-src_base.was c.from_residual.ensures.1

pub returns-in_err-dst_base : goal.returns-in_err-dst_base
unfolding selected_copy
returns-in_err-dst_base c =
    after_goes _ c.extract_texture_selector.ensures c.in_ok-src_base.was $
    after_hands _ c.extract_texture_selector-2.ensures c.in_err-dst_base.was c.from_residual-in_err-dst_base.ensures.1

pub returns-then-lacks_src_aspects : goal.returns-then-lacks_src_aspects
unfolding selected_copy
returns-then-lacks_src_aspects c =
    after_goes _ c.extract_texture_selector.ensures c.in_ok-src_base.was $
    after_goes _ c.extract_texture_selector-2.ensures c.in_ok-dst_base.was (search flag_lines)

pub returns-then-lacks_aspects : goal.returns-then-lacks_aspects
unfolding selected_copy
returns-then-lacks_aspects c =
    after_goes _ c.extract_texture_selector.ensures c.in_ok-src_base.was $
    after_goes _ c.extract_texture_selector-2.ensures c.in_ok-dst_base.was (search flag_lines)

pub returns : goal.returns
unfolding selected_copy
returns c =
    after_goes _ c.extract_texture_selector.ensures c.in_ok-src_base.was $
    after_goes _ c.extract_texture_selector-2.ensures c.in_ok-dst_base.was (search flag_lines)
