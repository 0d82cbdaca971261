-- What the check does not find alone for `regions_printed`.
use Rattle.claim_region_output.proofs.Prints.{every_plan_prints}
use Rattle.claim_region_output.proofs.regions_printed.Goals as goal

pub returns : goal.returns
returns c = every_plan_prints
