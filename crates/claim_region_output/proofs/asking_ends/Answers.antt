-- What the check does not find alone for `asking_ends`.
use Rattle.claim_region_output.proofs.Asks.{every_plan_ends}
use Rattle.claim_region_output.proofs.asking_ends.Goals as goal

pub returns : goal.returns
returns c = every_plan_ends
