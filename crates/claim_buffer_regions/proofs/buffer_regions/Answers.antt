-- What the check does not find alone for `buffer_regions`.
use Rattle.claim_buffer_regions.proofs.Claims.{every_buffer_copy}
use Rattle.claim_buffer_regions.proofs.buffer_regions.Goals as goal

pub returns : goal.returns
returns c = every_buffer_copy
