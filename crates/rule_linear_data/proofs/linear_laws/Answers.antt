-- What the check does not find alone for `linear_laws`.
use Rattle.rule_linear_data.proofs.Accepted.{every_linear}
use Rattle.rule_linear_data.proofs.linear_laws.Goals as goal

pub returns : goal.returns
returns c = every_linear
