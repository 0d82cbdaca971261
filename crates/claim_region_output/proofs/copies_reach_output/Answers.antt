-- What the check does not find alone for `copies_reach_output`.
use Rattle.claim_region_output.proofs.Joined.{buffer_copies, buffer_texture_copies, empty_copies, texture_copies}
use Rattle.claim_region_output.proofs.copies_reach_output.Goals as goal

pub returns : goal.returns
returns c = record { buffers = buffer_copies; buffer_texture = buffer_texture_copies; empty = empty_copies; textures = texture_copies }
