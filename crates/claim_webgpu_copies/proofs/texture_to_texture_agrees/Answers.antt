-- What the check does not find alone for `texture_to_texture_agrees`.
use Rattle.claim_webgpu_copies.proofs.TextureCopies.{textures_agree, textures_agree_with_layers, onto_itself_parts}
use Rattle.claim_webgpu_copies.proofs.texture_to_texture_agrees.Goals as goal

pub returns : goal.returns
returns c = record { one_layer = textures_agree; layers = textures_agree_with_layers; onto_itself = onto_itself_parts }
