-- What the check does not find alone for `demand3`.
use Rattle.claim_ownership.proofs.Claims.{every_copy}
use Rattle.claim_ownership.proofs.demand3.Goals as goal

pub returns : goal.returns
returns c = every_copy
