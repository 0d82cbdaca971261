-- What the check does not find alone for `plan_memory_upload`.
use mathlib.Core.Path.{refl}
use Rattle.copy_kinds.specs.Planned.{of_memory}
use Rattle.copy_kinds.proofs.Rules.{plan_goes, plan_hands}
use Rattle.copy_kinds.proofs.plan_memory_upload.Goals as goal

pub returns-in_err-plan : goal.returns-in_err-plan
unfolding of_memory
returns-in_err-plan c = plan_hands (of_memory _) c.copy_memory_to_texture.ensures c.in_err-plan.was refl c.from_residual.ensures.1

pub returns : goal.returns
unfolding of_memory
returns c = plan_goes (of_memory _) _ _ _ c.copy_memory_to_texture.ensures c.in_ok-plan.was refl c.memory_ranges-ranges.ensures refl
