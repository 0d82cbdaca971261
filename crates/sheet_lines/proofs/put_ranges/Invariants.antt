-- What lasts from turn to turn in `put_ranges`.
use Rattle.sheet_lines.proofs.LineLaws.{Underway}
use Rattle.sheet_lines.proofs.put_ranges.Given as goal

abbrev pub invariant-loop-slot : goal.invariant-loop-slot
invariant-loop-slot l = Underway l.initial.out l.out l.at l.next l.slot-items l.slot-index
