-- What callers use of an update in place of its text.
use Rattle.std.specs.Prelude.{◌≡◌, ℕ, ◌≤◌, List, Ok}
use Rattle.records.specs.Limits.{max_layers}
use Rattle.rule_init_ranges.specs.declared.TextureInitRange.{TextureInitRange}
use Rattle.book_marks.specs.declared.Book.{Book}
use Rattle.book_marks.specs.Update.{updated}

-- an answer counts no more places than a level has layers
abbrev pub FewPlaces : Type 0
FewPlaces = (b : Book) (r : TextureInitRange) (out : List ℕ) (n : ℕ) → (updated b r out).answer ≡ Ok n → n ≤ max_layers
