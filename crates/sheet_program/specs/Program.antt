-- What the program writes, whatever the system answers to its calls, and its status.
use Rattle.std.specs.Prelude.{true, false, List, [], ◌∷◌, ℕ}
use Rattle.sheet_listing.specs.Listing.{listing_of}
use Rattle.sheet_outcome.specs.declared.Outcome.{Outcome}
use Rattle.sheet_outcome.specs.Outcome.{status_of, outcome_of}
use Rattle.sheet_calls.specs.Calls.{Sends}
use Rattle.sheet_calls.specs.Delivery.{Delivered}
use Rattle.sheet_program.specs.declared.Report.{Report}
use Rattle.sheet_program.specs.declared.Report.TheVariants.{Listing, Books}
use Rattle.sheet_program.specs.declared.Status.{Status}
use Rattle.sheet_program.specs.declared.Status.TheVariants.{Listed, NotWritten, NotRead}
use Rattle.sheet_program.specs.Books.{books_text_of, books_outcome_of}

-- the word `written`, which asks for the report on books
abbrev pub written_word : List ℕ
written_word = 119 ∷ 114 ∷ 105 ∷ 116 ∷ 116 ∷ 101 ∷ 110 ∷ []

-- ---- a report: what it says of a sheet, and what becomes of the sheet by it

unfoldable pub report_text : Report → List ℕ → List ℕ
report_text Listing s = listing_of s
report_text Books s = books_text_of s

unfoldable pub report_outcome : Report → List ℕ → Outcome
report_outcome Listing s = outcome_of s
report_outcome Books s = books_outcome_of s

-- ---- the status

-- the number by which the program says how it went
unfoldable pub number_of : Status → ℕ
number_of (Listed o) = status_of o
number_of NotWritten = 3
number_of NotRead = 4

-- what became of the sheet where heading and report were written whole
pub data StatusFor (report : Report) (s heading : List ℕ) : Status → Type 0 where
  no_heading : Sends heading false → StatusFor report s heading NotWritten
  no_report : Sends heading true → Delivered (report_text report s) false → StatusFor report s heading NotWritten
  listed : Sends heading true → Delivered (report_text report s) true → StatusFor report s heading (Listed (report_outcome report s))
