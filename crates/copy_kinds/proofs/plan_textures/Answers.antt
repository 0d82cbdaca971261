-- What the check does not find alone for `plan_textures`.
use mathlib.Core.Path.{refl}
use Rattle.copy_kinds.specs.Planned.{of_textures}
use Rattle.copy_kinds.proofs.Rules.{plan_goes, plan_hands}
use Rattle.copy_kinds.proofs.plan_textures.Goals as goal

pub returns-in_err-plan : goal.returns-in_err-plan
unfolding of_textures
returns-in_err-plan c = plan_hands (of_textures _ _) c.copy_texture_to_texture.ensures c.in_err-plan.was refl c.from_residual.ensures.1

pub returns : goal.returns
unfolding of_textures
returns c = plan_goes (of_textures _ _) _ _ _ c.copy_texture_to_texture.ensures c.in_ok-plan.was refl c.texture_ranges-ranges.ensures refl
