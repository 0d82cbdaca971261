-- What the check does not find alone for `buffer_copies_agree`.
use Rattle.claim_webgpu_rules.proofs.BufferCopies.{buffer_copies}
use Rattle.claim_webgpu_rules.proofs.buffer_copies_agree.Goals as goal

pub returns : goal.returns
returns c = buffer_copies
