-- What the check does not find alone for `buffer_texture_agrees`.
use Rattle.claim_webgpu_copies.proofs.Textures.{copies_agree, copies_agree_with_layers}
use Rattle.claim_webgpu_copies.proofs.buffer_texture_agrees.Goals as goal

pub returns : goal.returns
returns c = record { one_layer = copies_agree; layers = copies_agree_with_layers }
