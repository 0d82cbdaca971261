use Rattle.std.proofs.Common.{length}
use Rattle.sheet_replay.proofs.Lists.{Replaying}
use Rattle.sheet_replay.proofs.replay.Given as goal

abbrev pub invariant-loop-rest : goal.invariant-loop-rest
invariant-loop-rest g l = Replaying l.s l.rest l.counts.items l.counts.differ

abbrev pub decreases-loop-rest : goal.decreases-loop-rest
decreases-loop-rest g l = length l.rest
