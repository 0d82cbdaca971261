-- What the check does not find alone for `plan_buffers`.
use mathlib.Core.Path.{◌∙◌}
use Rattle.refusals.specs.Order.{decided}
use Rattle.sheet_copies.specs.CopyLines.{buffer_side_at, buffers_planned, index_checks, named_buffers}
use Rattle.sheet_copies.proofs.Named.{index_hands, index_passes}
use Rattle.sheet_copies.proofs.Sheet.plan_buffers.Goals as goal

pub returns-in_err-src : goal.returns-in_err-src
unfolding buffers_planned index_checks decided
returns-in_err-src c = index_hands _ _ _ c.buffer_side_at.ensures c.in_err-src.was c.from_residual.ensures.1

pub returns-in_err-dst : goal.returns-in_err-dst
unfolding buffers_planned index_checks decided
returns-in_err-dst c =
    index_passes _ _ _ c.buffer_side_at.ensures c.in_ok-src.was λ a.
    index_hands _ _ _ c.buffer_side_at-2.ensures c.in_err-dst.was c.from_residual-in_err-dst.ensures.1

pub returns : goal.returns
unfolding buffers_planned index_checks decided named_buffers buffer_side_at
returns c =
    index_passes _ _ _ c.buffer_side_at.ensures c.in_ok-src.was λ a.
    index_passes _ _ _ c.buffer_side_at-2.ensures c.in_ok-dst.was λ b.
    c.plan_buffers.ensures ∙ rw (c.size_of-size.ensures, a, b)
