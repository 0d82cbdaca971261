-- What the check does not find alone for `step_laws`.
use Rattle.c_regions.proofs.Steps.{every_step}
use Rattle.c_regions.proofs.step_laws.Goals as goal

pub returns : goal.returns
returns c = every_step
