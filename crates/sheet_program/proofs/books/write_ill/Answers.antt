use Rattle.std.proofs.Common.{arith}
use mathlib.Core.Path.{sym}
use lib.Seq.{length-take-le}
use Rattle.sheet_program.proofs.Copies.{sheet_within, sent_text}
use Rattle.sheet_calls.proofs.WrittenParts.{delivered_one}
use Rattle.sheet_program.proofs.books.write_ill.Goals as goal

pub slice_bounds-piece-end : goal.slice_bounds-piece-end
slice_bounds-piece-end g c =
    sheet_within c.args.line c.put_sheet-n.ensures (omega arith)

pub slice_bounds-send-end : goal.slice_bounds-send-end
slice_bounds-send-end g c =
    sym (length-take-le _ _ (sheet_within c.args.line c.put_sheet-n.ensures (omega arith)))

pub returns : goal.returns
returns g c =
    delivered_one _ _ (sent_text c.put_sheet-n.ensures (sheet_within c.args.line c.put_sheet-n.ensures (omega arith)) c.send.ensures)
