use Rattle.std.proofs.Common.{false, true}
use mathlib.Core.Path.{sym, ◌∙◌}
use lib.Seq.{length-take-le}
use Rattle.sheet_sections.proofs.PlaceLaws.{textures_few}
use Rattle.sheet_program.proofs.Copies.{on_err, good_places, ill_written, ill_outcome, good_whole, good_broken}
use Rattle.sheet_program.proofs.books.write.Goals as goal

pub slice_bounds-books-end : goal.slice_bounds-books-end
slice_bounds-books-end g c =
    textures_few c.args.s.now c.in-Ok.p (sym c.in-Ok.is ∙ c.read_sheet.ensures)

pub slice_bounds-lent-end : goal.slice_bounds-lent-end
slice_bounds-lent-end g c =
    sym (length-take-le _ _ (textures_few c.args.s.now c.in-Ok.p (sym c.in-Ok.is ∙ c.read_sheet.ensures)))

pub write_good-requires-clause-places : goal.write_good-requires-clause-places
write_good-requires-clause-places g c =
    good_places c.args.s.now c.in-Ok.p (sym c.in-Ok.is ∙ c.read_sheet.ensures) _ c.find-textures.ensures

pub write_good-requires-clause-room : goal.write_good-requires-clause-room
write_good-requires-clause-room g c =
    length-take-le _ _ (textures_few c.args.s.now c.in-Ok.p (sym c.in-Ok.is ∙ c.read_sheet.ensures))

pub returns-in_err-write_ill-in-Err-clause-broken : goal.returns-in_err-write_ill-in-Err-clause-broken
returns-in_err-write_ill-in-Err-clause-broken g c =
    on_err _ (ill_written c.args.s.now _ c.read_sheet.ensures c.in-Err.e c.in-Err.is _ c.line.ensures false c.in_err-write_ill-in-Err.ensures)

pub returns-in-Ok-clause-whole : goal.returns-in-Ok-clause-whole
returns-in-Ok-clause-whole g c =
    good_whole c.args.s.now _ c.read_sheet.ensures c.in-Ok.p c.in-Ok.is _ c.write_good.ensures.whole

pub returns-in-Ok-clause-broken : goal.returns-in-Ok-clause-broken
returns-in-Ok-clause-broken g c =
    good_broken c.args.s.now _ c.read_sheet.ensures c.in-Ok.p c.in-Ok.is _ c.write_good.ensures.broken

pub returns-in_ok-write_ill-in-Err-clause-whole : goal.returns-in_ok-write_ill-in-Err-clause-whole
returns-in_ok-write_ill-in-Err-clause-whole g c =
    (ill_outcome c.args.s.now _ c.read_sheet.ensures c.in-Err.e c.in-Err.is _ c.line.ensures, ill_written c.args.s.now _ c.read_sheet.ensures c.in-Err.e c.in-Err.is _ c.line.ensures true c.in_ok-write_ill-in-Err.ensures)
