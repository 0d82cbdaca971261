use Rattle.sheet_io.specs.Output.{calls_left}
use Rattle.sheet_calls.proofs.CallLaws.{Sending}
use Rattle.sheet_calls.proofs.send.Given as goal

abbrev pub invariant-loop-from : goal.invariant-loop-from
invariant-loop-from g l = Sending l.bytes l.p

abbrev pub decreases-loop-from : goal.decreases-loop-from
decreases-loop-from g l = calls_left l.p
