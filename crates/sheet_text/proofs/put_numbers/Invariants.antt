-- What lasts from turn to turn in `put_numbers`.
use Rattle.sheet_text.proofs.Puts.{Underway}
use Rattle.sheet_text.proofs.put_numbers.Given as goal

abbrev pub invariant-loop-n : goal.invariant-loop-n
invariant-loop-n l = Underway l.dash l.initial.out l.out l.at l.next l.ns l.n-index
