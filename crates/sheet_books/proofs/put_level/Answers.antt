use Rattle.std.proofs.Common.{arith}
use mathlib.Core.Path.{sym, ◌∙◌}
use Rattle.sheet_books.specs.Books.{missing_word, level_text, room}
use Rattle.sheet_books.proofs.Lines.{answered_put, answered_none}
use Rattle.book_marks.specs.Update.{whole_level}
use Rattle.book_marks.proofs.Updates.{few_places}
use Rattle.sheet_books.proofs.put_level.Goals as goal

pub put_places-requires-clause-room : goal.put_places-requires-clause-room
put_places-requires-clause-room c = omega (arith, c.requires, few_places c.args.book.now (whole_level c.args.book.now c.args.level) room _ (sym c.missing.ensures.answer ∙ c.in-Ok.is))

pub put_places-requires-clause-there : goal.put_places-requires-clause-there
put_places-requires-clause-there c =
    omega (arith, c.missing.auto.out, few_places c.args.book.now (whole_level c.args.book.now c.args.level) room _ (sym c.missing.ensures.answer ∙ c.in-Ok.is))

pub returns-in-Ok : goal.returns-in-Ok
unfolding level_text
returns-in-Ok c =
    rw (← c.missing.ensures.answer, ← c.missing.ensures.out_after) (answered_put missing_word c.args.texture c.missing.new.out _ _ _ _ c.in-Ok.count _ c.in-Ok.is c.put_places.ensures)

pub returns-in-Err : goal.returns-in-Err
unfolding level_text
returns-in-Err c =
    rw (← c.missing.ensures.answer) (answered_none missing_word c.args.texture _ _ _ c.in-Err.field-0 _ c.in-Err.is)
