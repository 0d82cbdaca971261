-- What the check does not find alone for `empty_copies`.
use Rattle.claim_ownership.proofs.Empty.{every_empty_copy}
use Rattle.claim_ownership.proofs.empty_copies.Goals as goal

pub returns : goal.returns
returns c = every_empty_copy
