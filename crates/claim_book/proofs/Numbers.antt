-- The numbers of the book's refusals.
-- Assumes nothing.
use mathlib.Core.Path.{refl}
use Rattle.book_marks.specs.Book.{refusal_of}
use Rattle.claim_book.specs.Numbers.{EveryNumber}

pub every_number : EveryNumber
unfolding refusal_of
every_number = record { ill_record = refl; ill_range = refl; no_room = refl }
