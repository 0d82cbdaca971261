-- What the check does not find alone for `plan_textures`.
use mathlib.Core.Path.{◌∙◌}
use Rattle.refusals.specs.Order.{decided}
use Rattle.sheet_copies.specs.CopyLines.{textures_planned, index_checks, named_textures}
use Rattle.sheet_copies.proofs.Named.{index_hands, named_passes}
use Rattle.sheet_copies.proofs.Sheet.plan_textures.Goals as goal

pub returns-in_err-i : goal.returns-in_err-i
unfolding textures_planned index_checks decided
returns-in_err-i c = index_hands _ _ _ c.texture_side_at.ensures c.in_err-i.was c.from_residual.ensures.1

pub returns-in_err-j : goal.returns-in_err-j
unfolding textures_planned index_checks decided
returns-in_err-j c =
    named_passes _ _ _ _ c.texture_side_at.ensures c.in_ok-i.was λ i a.
    index_hands _ _ _ c.texture_side_at-2.ensures c.in_err-j.was c.from_residual-in_err-j.ensures.1

pub returns : goal.returns
unfolding textures_planned index_checks decided named_textures
returns c =
    named_passes _ _ _ _ c.texture_side_at.ensures c.in_ok-i.was λ i a.
    named_passes _ _ _ _ c.texture_side_at-2.ensures c.in_ok-j.was λ j b.
    c.plan_textures.ensures ∙ rw (c.extent_of-size.ensures, i, j, a, b)
