-- What the check does not find alone for `linear_data_agrees`.
use Rattle.claim_webgpu_rules.proofs.Linears.{linear_rules}
use Rattle.claim_webgpu_rules.proofs.linear_data_agrees.Goals as goal

pub returns : goal.returns
returns c = linear_rules
