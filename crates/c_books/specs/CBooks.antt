-- Ranges and answers of a book as numbers.
use Rattle.std.specs.Prelude.{ℕ, List, eqb, get_or, Option, Some, None, Result, Ok, Err}
use Rattle.conditions.specs.Conditions.{pick}
use Rattle.rule_init_ranges.specs.declared.MemoryInitKind.{MemoryInitKind}
use Rattle.rule_init_ranges.specs.declared.MemoryInitKind.TheVariants.{ImplicitlyInitialized, NeedsInitializedMemory}
use Rattle.rule_init_ranges.specs.declared.TextureInitRange.{TextureInitRange}
use Rattle.book_marks.specs.declared.Book.{Book}
use Rattle.book_marks.specs.declared.BookError.{BookError}
use Rattle.book_marks.specs.Book.{refusal_of, blank}
use Rattle.book_marks.specs.Update.{Updated, updated}

-- ---- a range from its kind, start and end, at a level

-- 1 implicitly initialised, 2 needs memory; so does any other number
unfoldable pub kind_from : ℕ → MemoryInitKind
kind_from kind = pick (eqb kind 1) ImplicitlyInitialized NeedsInitializedMemory

abbrev pub range_with : ℕ → ℕ → ℕ → ℕ → TextureInitRange
range_with level kind start end = record { mip_level = level; layers = record { start = start; end = end }; kind = kind_from kind }

-- kind 0 is none
unfoldable pub range_from : ℕ → List ℕ → Option TextureInitRange
range_from level words =
    pick (eqb (get_or words 0 0) 0) None (Some (range_with level (get_or words 0 0) (get_or words 1 0) (get_or words 2 0)))

-- ---- answers

unfoldable pub book_number : Result ℕ BookError → ℕ
book_number (Ok n) = 0
book_number (Err e) = (refusal_of e).number

unfoldable pub book_count : Result ℕ BookError → ℕ
book_count (Ok n) = n
book_count (Err e) = 0

unfoldable pub created_number : Result Book BookError → ℕ
created_number (Ok b) = 0
created_number (Err e) = (refusal_of e).number

-- without a level or a layer where the record is ill
unfoldable pub created_book : Result Book BookError → Book
created_book (Ok b) = b
created_book (Err e) = blank 0 0

-- where there is no range, nothing has to be cleared and nothing is marked
unfoldable pub updated_with : Book → Option TextureInitRange → List ℕ → Updated
updated_with b (Some r) out = updated b r out
updated_with b None out = record { answer = Ok 0; marks = b.marks; out = out }
