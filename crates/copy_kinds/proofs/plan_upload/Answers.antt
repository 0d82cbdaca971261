-- What the check does not find alone for `plan_upload`.
use mathlib.Core.Path.{refl}
use Rattle.copy_kinds.specs.Planned.{of_buffer_texture}
use Rattle.copy_kinds.proofs.Rules.{plan_goes, plan_hands}
use Rattle.copy_kinds.proofs.plan_upload.Goals as goal

pub returns-in_err-plan : goal.returns-in_err-plan
unfolding of_buffer_texture
returns-in_err-plan c = plan_hands (of_buffer_texture _ _) c.copy_buffer_to_texture.ensures c.in_err-plan.was refl c.from_residual.ensures.1

pub returns : goal.returns
unfolding of_buffer_texture
returns c = plan_goes (of_buffer_texture _ _) _ _ _ c.copy_buffer_to_texture.ensures c.in_ok-plan.was refl c.copy_ranges-ranges.ensures refl
