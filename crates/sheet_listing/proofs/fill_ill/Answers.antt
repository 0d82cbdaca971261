-- What the check does not find alone for `fill_ill`.
use Rattle.sheet_listing.proofs.Parts.{line_fills, line_inside, line_ends}
use Rattle.sheet_listing.proofs.fill_ill.Goals as goal

pub returns-clause-fills : goal.returns-clause-fills
returns-clause-fills c = line_fills c.in-Some.ensures.cases _ c.put_sheet.ensures

pub returns-clause-count_in_bounds : goal.returns-clause-count_in_bounds
returns-clause-count_in_bounds c = line_inside c.in-Some.ensures.cases _ c.put_sheet.ensures

pub returns-clause-ends : goal.returns-clause-ends
returns-clause-ends c = line_ends c.in-Some.ensures.cases _ c.put_sheet.ensures
