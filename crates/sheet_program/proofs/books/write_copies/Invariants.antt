use Rattle.sheet_program.proofs.Copies.{Copying}
use Rattle.sheet_program.proofs.books.write_copies.Given as goal

abbrev pub invariant-loop-k : goal.invariant-loop-k
invariant-loop-k g l =
    Copying l.fn.sheet.text.now l.fn.sheet.textures.now l.fn.sheet.buffers.now l.fn.sheet.device l.fn.copies.count l.fn.copies.first l.fn.books l.k l.at l.books
