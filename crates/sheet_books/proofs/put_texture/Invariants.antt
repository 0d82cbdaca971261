use Rattle.std.proofs.Common.{◌≤◌}
use Rattle.sheet_books.specs.Books.{level_text}
use Rattle.sheet_books.proofs.Lines.{Underway}
use Rattle.sheet_books.proofs.Slots.{level_few}
use Rattle.sheet_books.proofs.put_texture.Given as goal

abbrev pub invariant-loop-level : goal.invariant-loop-level
invariant-loop-level l =
    Underway (level_text l.texture l.book) 18176 (level_few l.texture l.book) l.initial.out l.out l.initial.next l.next l.level × l.level ≤ l.level-end
