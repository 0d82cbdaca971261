use Rattle.std.proofs.Common.{◌≤◌}
use Rattle.sheet_books.specs.Books.{place_text}
use Rattle.sheet_books.proofs.Lines.{place_few, places_bound, Underway}
use Rattle.sheet_books.proofs.put_places.Given as goal

abbrev pub invariant-loop-place : goal.invariant-loop-place
invariant-loop-place l =
    Underway (place_text l.word l.texture l.numbers) (places_bound l.word) (place_few l.word l.texture l.numbers) l.fn.out l.out l.at l.next l.place × l.place ≤ l.count
