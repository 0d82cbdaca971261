-- The stages answer the first refusal of the list, or the plan.
-- Assumes nothing.
use Rattle.std.specs.Prelude.{Option, Result, Err}
use mathlib.Core.Path.{◌≡◌, ◌∙◌}
use mathlib.Core.Bool.{Bool}
use Prim.Native.Nat.{ℕ}
use Rattle.conditions.specs.Conditions.{stop_if}
use Rattle.refusals.specs.declared.TransferError.{TransferError}
use Rattle.refusals.specs.Order.{refuse_if, first, decided}
use Rattle.refusals.proofs.Order.{line}
use Rattle.records.specs.declared.Device.{Device}
use Rattle.refusals.proofs.Stages.{past_rule}
use Rattle.copy_buffers.specs.Plan.{buffer_copy_checks, planned, buffer_to_buffer}
use Rattle.copy_buffers.specs.Stages.{fitting_copy, sized_copy, buffer_copy_staged}
use Rattle.copy_buffers.specs.declared.BufferSide.{BufferSide}
use Rattle.plan_buffers.specs.declared.BufferPlan.{BufferPlan}

line_p : (t : Bool) (e : TransferError) (rest : Result BufferPlan TransferError) → stop_if t (Err e) rest ≡ first (refuse_if t e) rest
line_p t e rest = line BufferPlan t e rest

copy_law :
    (device : Device) (src dst : BufferSide) (size : Option ℕ)
    → buffer_copy_staged device src dst size ≡ buffer_to_buffer device src.index src.buffer src.offset dst.index dst.buffer dst.offset size
unfolding buffer_copy_staged sized_copy fitting_copy buffer_to_buffer planned buffer_copy_checks decided
copy_law device src dst size = simp (line_p, past_rule)

-- for an answer that a function gave
pub by_copy_law :
    (device : Device) (src dst : BufferSide) (size : Option ℕ) (x : Result BufferPlan TransferError)
    → x ≡ buffer_copy_staged device src dst size → x ≡ buffer_to_buffer device src.index src.buffer src.offset dst.index dst.buffer dst.offset size
by_copy_law device src dst size x h = h ∙ copy_law device src dst size
