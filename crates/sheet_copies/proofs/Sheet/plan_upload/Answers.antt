-- What the check does not find alone for `plan_upload`.
use mathlib.Core.Path.{◌∙◌}
use Rattle.refusals.specs.Order.{decided}
use Rattle.sheet_copies.specs.CopyLines.{index_checks, texture_side_at}
use Rattle.sheet_copies.proofs.Named.{index_hands, named_passes}
use Rattle.sheet_copies.proofs.Sheet.plan_upload.Goals as goal

pub returns-in_err-i : goal.returns-in_err-i
unfolding index_checks decided
returns-in_err-i c = index_hands _ _ _ c.buffer_at.ensures c.in_err-i.was c.from_residual.ensures.1

pub returns-in_err-j : goal.returns-in_err-j
unfolding index_checks decided
returns-in_err-j c =
    named_passes _ _ _ _ c.buffer_at.ensures c.in_ok-i.was λ i a.
    index_hands _ _ _ c.texture_side_at.ensures c.in_err-j.was c.from_residual-in_err-j.ensures.1

pub returns : goal.returns
unfolding index_checks decided texture_side_at
returns c =
    named_passes _ _ _ _ c.buffer_at.ensures c.in_ok-i.was λ i a.
    named_passes _ _ _ _ c.texture_side_at.ensures c.in_ok-j.was λ j b.
    c.plan_upload.ensures ∙ rw (c.linear_copy.ensures, i, j, a, b)
