use Rattle.sheet_books.proofs.Slots.{Slotting}
use Rattle.sheet_books.proofs.put_slots.Given as goal

abbrev pub invariant-loop-slot : goal.invariant-loop-slot
invariant-loop-slot l = Slotting l.fn.out l.out l.at l.next l.fn.books l.books l.slot-items l.slot-index
