-- What the check does not find alone for `regions_written`.
use Rattle.claim_region_output.proofs.Slices.{every_plan_writes}
use Rattle.claim_region_output.proofs.regions_written.Goals as goal

pub returns : goal.returns
returns c = every_plan_writes
