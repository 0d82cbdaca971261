use lib.ListN.{drop}
use Rattle.sheet_calls.proofs.WrittenParts.{Onto}
use Rattle.sheet_program.specs.Books.{textures_text}
use Rattle.sheet_program.proofs.books.write_textures.Given as goal

abbrev pub invariant-loop-i : goal.invariant-loop-i
invariant-loop-i g l = Onto (textures_text 0 l.books) (textures_text l.i (drop l.i l.books))
