use borrow.Author.Rules.{rules}
use Rattle.sheet_books.proofs.Slots.{slotting_on, slotting_text, slotting_books, slotting_within}
use Rattle.sheet_books.proofs.put_slots.Goals as goal

pub loop-slot-preserved : goal.loop-slot-preserved
loop-slot-preserved c = slotting_on c.loop-slot.invariant (search rules) _ _ _ c.loop-slot-test.true c.put_slot-next.ensures.put c.put_slot-next.ensures.books_after

pub returns-clause-put : goal.returns-clause-put
returns-clause-put c = slotting_text c.loop-slot.invariant (search rules) c.loop-slot-test.false

pub returns-clause-books_after : goal.returns-clause-books_after
returns-clause-books_after c = slotting_books c.loop-slot.invariant (search rules) c.loop-slot-test.false

pub returns-clause-within : goal.returns-clause-within
returns-clause-within c =
    slotting_within c.loop-slot.invariant (search rules) c.loop-slot-test.false
