-- What the check does not find alone for `plan_memory`.
use mathlib.Core.Path.{◌∙◌}
use Rattle.refusals.specs.Order.{decided}
use Rattle.sheet_copies.specs.CopyLines.{memory_planned, named_memory, texture_side_at}
use Rattle.sheet_copies.proofs.Named.{index_hands, named_passes}
use Rattle.sheet_copies.proofs.Sheet.plan_memory.Goals as goal

pub returns-in_err-j : goal.returns-in_err-j
unfolding memory_planned decided
returns-in_err-j c = index_hands _ _ _ c.texture_side_at.ensures c.in_err-j.was c.from_residual.ensures.1

pub returns : goal.returns
unfolding memory_planned decided named_memory texture_side_at
returns c =
    named_passes _ _ _ _ c.texture_side_at.ensures c.in_ok-j.was λ j b.
    c.plan_memory_upload.ensures ∙ rw (c.value_of-length.ensures, c.linear_copy.ensures, j, b)
