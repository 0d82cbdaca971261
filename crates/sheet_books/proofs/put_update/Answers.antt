use Rattle.std.proofs.Common.{arith, ◌≤◌}
use Rattle.std.proofs.lemmas.List.{get_or_default}
use mathlib.Core.Path.{sym, ◌∙◌}
use Rattle.sheet_books.proofs.Slots.{no_text, no_books, update_put, update_none, update_marks}
use Rattle.book_marks.proofs.Updates.{few_places}
use Rattle.sheet_books.proofs.put_update.Goals as goal

pub returns-then-i-books-clause-put : goal.returns-then-i-books-clause-put
returns-then-i-books-clause-put c =
    no_text c.args.books.now c.args.texture c.args.range c.if-i-books.true _ _

pub returns-then-i-books-clause-books_after : goal.returns-then-i-books-clause-books_after
returns-then-i-books-clause-books_after c =
    no_books c.args.books.now c.args.texture c.args.range c.if-i-books.true

pub put_places-requires-clause-room : goal.put_places-requires-clause-room
put_places-requires-clause-room c =
    let few : c.in-Ok.count ≤ 256 = few_places _ _ _ _ (sym c.update.ensures.answer ∙ c.in-Ok.is) in
    omega (arith, c.requires, few)

pub put_places-requires-clause-there : goal.put_places-requires-clause-there
put_places-requires-clause-there c =
    let few : c.in-Ok.count ≤ 256 = few_places _ _ _ _ (sym c.update.ensures.answer ∙ c.in-Ok.is) in
    omega (arith, c.update.auto.out, few)

pub returns-in-Ok-clause-put : goal.returns-in-Ok-clause-put
returns-in-Ok-clause-put c = update_put c.args.books.now c.args.texture c.args.range _ (get_or_default _ _ _ _ c.if-i-books.false) _ _ _ _ c.in-Ok.count _ (sym c.update.ensures.answer ∙ c.in-Ok.is) c.update.ensures.out_after c.put_places.ensures

pub returns-in-Ok-clause-books_after : goal.returns-in-Ok-clause-books_after
returns-in-Ok-clause-books_after c = update_marks c.args.books.now c.args.texture c.args.range _ (get_or_default _ _ _ _ c.if-i-books.false) _ c.update.ensures.book_after

pub returns-in-Err-clause-put : goal.returns-in-Err-clause-put
returns-in-Err-clause-put c = update_none c.args.books.now c.args.texture c.args.range _ (get_or_default _ _ _ _ c.if-i-books.false) _ _ _ (sym c.update.ensures.answer ∙ c.in-Err.is)

pub returns-in-Err-clause-books_after : goal.returns-in-Err-clause-books_after
returns-in-Err-clause-books_after c = update_marks c.args.books.now c.args.texture c.args.range _ (get_or_default _ _ _ _ c.if-i-books.false) _ c.update.ensures.book_after
