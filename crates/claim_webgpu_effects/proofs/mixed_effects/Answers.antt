-- What the check does not find alone for `mixed_effects`.
use Rattle.claim_webgpu_effects.proofs.MixedEffects.{slices_into_layers, layers_into_slices, images_missed, they_differ, exhaustive}
use Rattle.claim_webgpu_effects.proofs.MixedAccepted.{mixed_accepted}
use Rattle.claim_webgpu_effects.proofs.mixed_effects.Goals as goal

pub returns : goal.returns
returns c = record { slices = slices_into_layers; layers = layers_into_slices; missed = images_missed; apart = they_differ; accepted = mixed_accepted; exhaustive = exhaustive }
