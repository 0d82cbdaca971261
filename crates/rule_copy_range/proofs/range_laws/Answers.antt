-- What the check does not find alone for `range_laws`.
use Rattle.rule_copy_range.proofs.Accepted.{every_range}
use Rattle.rule_copy_range.proofs.range_laws.Goals as goal

pub returns : goal.returns
returns c = every_range
