-- What the check does not find alone for `regions_asked_by_words`.
use Rattle.claim_region_output.proofs.ByWords.{every_plan_steps}
use Rattle.claim_region_output.proofs.regions_asked_by_words.Goals as goal

pub returns : goal.returns
returns c = every_plan_steps
