use Rattle.std.proofs.Common.{arith, false, []}
use mathlib.Core.Path.{refl}
use Rattle.slices.proofs.Puts.{put_then, put_length}
use Rattle.sheet_text.proofs.Puts.{line_few}
use Rattle.sheet_lines.specs.Lines.{ok_word}
use Rattle.sheet_lines.proofs.LineLaws.{copy_few, refusal_few}
use Rattle.sheet_books.specs.Books.{copy_text_with, copy_books}
use Rattle.sheet_books.proofs.put_copy.Goals as goal

pub put_line-b-requires : goal.put_line-b-requires
put_line-b-requires c =
    omega (arith, copy_few c.args.k, c.put_copy-a.ensures.next, put_length c.put_copy-a.ensures)

pub put_slots-requires : goal.put_slots-requires
put_slots-requires c =
    omega (arith, copy_few c.args.k, c.put_copy-a.ensures.next, line_few ok_word false [], c.put_line-b.ensures.next, put_length c.put_copy-a.ensures, put_length c.put_line-b.ensures)

pub returns-in-Ok-clause-put : goal.returns-in-Ok-clause-put
unfolding copy_text_with
returns-in-Ok-clause-put c =
    rw c.in-Ok.is (put_then c.put_copy-a.ensures (put_then c.put_line-b.ensures c.put_slots.ensures.put))

pub returns-in-Ok-clause-books_after : goal.returns-in-Ok-clause-books_after
unfolding copy_books
returns-in-Ok-clause-books_after c =
    rw c.in-Ok.is c.put_slots.ensures.books_after

pub returns-in-Err-clause-put : goal.returns-in-Err-clause-put
unfolding copy_text_with
returns-in-Err-clause-put c =
    rw c.in-Err.is c.put_refusal.ensures

pub returns-in-Err-clause-books_after : goal.returns-in-Err-clause-books_after
unfolding copy_books
returns-in-Err-clause-books_after c =
    rw c.in-Err.is refl

pub returns-in-Ok-clause-within : goal.returns-in-Ok-clause-within
returns-in-Ok-clause-within c =
    c.put_slots.ensures.within

pub returns-in-Err-clause-within : goal.returns-in-Err-clause-within
returns-in-Err-clause-within c =
    omega (arith, c.put_refusal.ensures.next, put_length c.put_refusal.ensures, refusal_few c.args.k c.in-Err.why)
