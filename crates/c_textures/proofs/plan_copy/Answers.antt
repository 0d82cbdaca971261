-- What the check does not find alone for `plan_copy`.
use mathlib.Core.Path.{◌∙◌}
use Rattle.conditions.specs.Conditions.{◌$◌}
use Rattle.refusals.specs.Order.{decided}
use Rattle.c_records.proofs.Passing.{check_passes, check_hands}
use Rattle.c_textures.specs.Answer.{answer}
use Rattle.c_textures.proofs.plan_copy.Goals as goal

pub returns-in_err-from : goal.returns-in_err-from
unfolding answer decided
returns-in_err-from c = check_hands _ _ _ c.side_from.ensures c.in_err-from.was c.from_residual.ensures.1

pub returns-in_err-to : goal.returns-in_err-to
unfolding answer decided
returns-in_err-to c =
    check_passes _ _ _ c.side_from.ensures c.in_ok-from.was $
    λ _. check_hands _ _ _ c.side_from-2.ensures c.in_err-to.was c.from_residual-in_err-to.ensures.1

pub returns : goal.returns
unfolding answer decided
returns c =
    check_passes _ _ _ c.side_from.ensures c.in_ok-from.was $
    λ from. check_passes _ _ _ c.side_from-2.ensures c.in_ok-to.was $
    λ to. c.copy_texture_to_texture.ensures ∙ rw (c.size_from-s.ensures, c.dst_index-dst_index.ensures, from, to)
