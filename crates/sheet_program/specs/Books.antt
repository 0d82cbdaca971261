-- What the program writes of a sheet's books: the copies in their order, then the textures.
use Rattle.std.specs.Prelude.{ℕ, zero, suc, ◌+◌, ◌-◌, List, [], ◌∷◌, ◌++◌, map, Result, Ok, Err}
use Rattle.conditions.specs.Conditions.{pick}
use Rattle.records.specs.declared.Device.{Device}
use Rattle.book_marks.specs.declared.Book.{Book}
use Rattle.sheet_sections.specs.declared.Parts.{Parts}
use Rattle.sheet_sections.specs.declared.SheetError.{SheetError}
use Rattle.sheet_sections.specs.Rows.{copies, section_line}
use Rattle.sheet_sections.specs.Sheet.{sheet_of, line_number}
use Rattle.sheet_copies.specs.Answers.{texture_places, buffer_places, device_at, answer_at}
use Rattle.sheet_lines.specs.Lines.{sheet_text}
use Rattle.sheet_outcome.specs.declared.Outcome.{Outcome}
use Rattle.sheet_outcome.specs.declared.Outcome.TheVariants.{Refused, Ill}
use Rattle.sheet_outcome.specs.Outcome.{outcome_of}
use Rattle.sheet_books.specs.Books.{copy_text_with, copy_books, texture_text, book_at, are_filled}

-- the last n of so many copies, whose lines begin at a place; ts and bs are where texture and buffer lines begin
module _ (s ts bs : List ℕ) (device : Device) (total : ℕ) where
  unfoldable pub copies_books_text : ℕ → ℕ → List Book → List ℕ
  copies_books_text zero at books = []
  copies_books_text (suc n) at books =
      copy_text_with books (total - suc n) (answer_at s ts bs device at)
      ++ copies_books_text n (section_line s copies at).next (copy_books books (answer_at s ts bs device at))

-- the books after n copies
module _ (s ts bs : List ℕ) (device : Device) where
  unfoldable pub books_after : ℕ → ℕ → List Book → List Book
  books_after zero at books = books
  books_after (suc n) at books = books_after n (section_line s copies at).next (copy_books books (answer_at s ts bs device at))

-- the textures from the i-th on
unfoldable pub textures_text : ℕ → List Book → List ℕ
textures_text i [] = []
textures_text i (b ∷ books) = texture_text i b ++ textures_text (i + 1) books

-- the books of a good sheet's textures before its copies, and after them
unfoldable pub first_books : List ℕ → Parts → List Book
first_books s p = map (book_at s) (texture_places s p)

unfoldable pub last_books : List ℕ → Parts → List Book
last_books s p = books_after s (texture_places s p) (buffer_places s p) (device_at s p) p.copies.count p.copies.first (first_books s p)

unfoldable pub books_text_from : List ℕ → Result Parts SheetError → List ℕ
books_text_from s (Ok p) =
    copies_books_text s (texture_places s p) (buffer_places s p) (device_at s p) p.copies.count p.copies.count p.copies.first (first_books s p)
    ++ textures_text 0 (last_books s p)
books_text_from s (Err e) = sheet_text (line_number e)

unfoldable pub books_text_of : List ℕ → List ℕ
books_text_of s = books_text_from s (sheet_of s)

-- a copy that is refused, or a level and layer that is not written
unfoldable pub books_outcome_from : List ℕ → Result Parts SheetError → Outcome
books_outcome_from s (Ok p) = pick (are_filled (last_books s p)) (outcome_of s) Refused
books_outcome_from s (Err e) = Ill

unfoldable pub books_outcome_of : List ℕ → Outcome
books_outcome_of s = books_outcome_from s (sheet_of s)
