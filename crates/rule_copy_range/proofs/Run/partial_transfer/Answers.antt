-- What the check does not find alone for `partial_transfer`.
use Rattle.rule_copy_range.specs.Range.{partial_transfer}
use Rattle.rule_copy_range.proofs.Run.partial_transfer.Goals as goal

pub returns : goal.returns
unfolding partial_transfer
returns c = rw c.end.ensures
