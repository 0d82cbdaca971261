-- What the check does not find alone for `buffer_effects`.
use Rattle.claim_webgpu_effects.proofs.BufferEffects.{every_buffer_copy}
use Rattle.claim_webgpu_effects.proofs.buffer_effects.Goals as goal

pub returns : goal.returns
returns c = every_buffer_copy
