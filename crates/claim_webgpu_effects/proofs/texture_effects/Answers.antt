-- What the check does not find alone for `texture_effects`.
use Rattle.claim_webgpu_effects.proofs.TextureEffects.{every_texture_effect}
use Rattle.claim_webgpu_effects.proofs.texture_effects.Goals as goal

pub returns : goal.returns
returns c = every_texture_effect
