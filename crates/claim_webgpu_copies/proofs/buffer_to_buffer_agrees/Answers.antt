-- What the check does not find alone for `buffer_to_buffer_agrees`.
use Rattle.claim_webgpu_copies.proofs.Buffers.{buffer_to_buffer_lem}
use Rattle.claim_webgpu_copies.proofs.buffer_to_buffer_agrees.Goals as goal

pub returns : goal.returns
returns c = buffer_to_buffer_lem
