-- What the check does not find alone for `plan_buffers`.
use mathlib.Core.Path.{refl}
use Rattle.copy_kinds.specs.Planned.{of_buffers}
use Rattle.copy_kinds.proofs.Rules.{plan_goes, plan_hands}
use Rattle.copy_kinds.proofs.plan_buffers.Goals as goal

pub returns-in_err-plan : goal.returns-in_err-plan
unfolding of_buffers
returns-in_err-plan c = plan_hands (of_buffers _ _) c.copy_buffer_to_buffer.ensures c.in_err-plan.was refl c.from_residual.ensures.1

pub returns : goal.returns
unfolding of_buffers
returns c = plan_goes (of_buffers _ _) _ _ _ c.copy_buffer_to_buffer.ensures c.in_ok-plan.was refl c.buffer_ranges-ranges.ensures refl
