-- What lasts from turn to turn in `write_each`.
use Rattle.plan_kinds.specs.Regions.{left_of}
use Rattle.plan_writer.proofs.Writes.{Underway}
use Rattle.plan_writer.proofs.write_each.Given as goal

abbrev pub invariant-loop-asked : goal.invariant-loop-asked
invariant-loop-asked g l = let held = g.P.Regions.held in Underway l.initial.out l.out (held l.initial.p) (held l.p) l.at

abbrev pub decreases-loop-asked : goal.decreases-loop-asked
decreases-loop-asked g l = left_of (g.P.Regions.held l.p)
