use Rattle.std.proofs.Common.{◌≡◌, ◌<◌, ℕ, get_or, length}
use Rattle.book_marks.specs.declared.Book.{Book}
use Rattle.sheet_books.specs.Books.{book_at}
use Rattle.sheet_books.proofs.create.Given as goal

abbrev pub invariant-loop-i : goal.invariant-loop-i
invariant-loop-i l = (length l.books ≡ length l.places) × ((k : ℕ) (d : Book) → k < l.i → get_or l.books k d ≡ book_at l.s (get_or l.places k 0))
