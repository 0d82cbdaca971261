-- What the check does not find alone for `texture_overrun`.
use Rattle.rule_copy_range.specs.Range.{texture_overrun}
use Rattle.rule_copy_range.proofs.Run.texture_overrun.Goals as goal

pub returns : goal.returns
unfolding texture_overrun
returns c = rw c.end.ensures
