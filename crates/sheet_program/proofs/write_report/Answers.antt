use Rattle.sheet_program.proofs.Copies.{on_err}
use Rattle.sheet_program.specs.Program.{report_text, report_outcome}
use Rattle.sheet_program.proofs.write_report.Goals as goal

pub returns-in_err-list-in-Listing-clause-broken : goal.returns-in_err-list-in-Listing-clause-broken
unfolding report_text report_outcome
returns-in_err-list-in-Listing-clause-broken g c =
    rw c.in-Listing.is (on_err _ c.in_err-list-in-Listing.ensures)

pub returns-in_ok-list-in-Listing-clause-whole : goal.returns-in_ok-list-in-Listing-clause-whole
unfolding report_text report_outcome
returns-in_ok-list-in-Listing-clause-whole g c =
    rw c.in-Listing.is (c.find_outcome.ensures, c.in_ok-list-in-Listing.ensures)

pub returns-in-Books-clause-whole : goal.returns-in-Books-clause-whole
unfolding report_text report_outcome
returns-in-Books-clause-whole g c =
    rw c.in-Books.is c.write.ensures.whole

pub returns-in-Books-clause-broken : goal.returns-in-Books-clause-broken
unfolding report_text report_outcome
returns-in-Books-clause-broken g c =
    rw c.in-Books.is c.write.ensures.broken
