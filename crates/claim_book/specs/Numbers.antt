-- The numbers of the book's refusals. They have no details.
use Rattle.std.specs.Prelude.{◌≡◌, ℕ}
use Rattle.refusals.specs.declared.Refusal.{Refusal}
use Rattle.book_marks.specs.declared.BookError.TheVariants.{InvalidTextureRecord, InvalidBookRange, SliceTooShort}
-- what is judged
use Rattle.book_marks.specs.Book.{refusal_of}

abbrev pub bare : ℕ → Refusal
bare number = record { number = number; side = 0; dimension = 0; start = 0; end = 0; limit = 0 }

pub record EveryNumber : Type 0 where
  pub ill_record : refusal_of InvalidTextureRecord ≡ bare 2
  pub ill_range : refusal_of InvalidBookRange ≡ bare 39
  pub no_room : refusal_of SliceTooShort ≡ bare 38
