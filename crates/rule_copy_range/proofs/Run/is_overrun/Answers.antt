-- What the check does not find alone for `is_overrun`.
use Rattle.rule_copy_range.proofs.Overruns.{overrun_of}
use Rattle.rule_copy_range.proofs.Run.is_overrun.Goals as goal

pub returns : goal.returns
returns c = rw c.end.ensures (overrun_of c.args.self.start.0 c.args.self.size.0 c.args.self.limit.0)
