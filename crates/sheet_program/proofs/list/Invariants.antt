use Rattle.std.proofs.Common.{length}
use Rattle.sheet_listing.specs.Listing.{rest_of}
use Rattle.sheet_program.proofs.Parts.{ListingOn}
use Rattle.sheet_program.proofs.list.Given as goal

abbrev pub invariant-loop-st : goal.invariant-loop-st
invariant-loop-st g l = ListingOn l.s l.st

-- each turn leaves less to be listed
abbrev pub decreases-loop-st : goal.decreases-loop-st
decreases-loop-st g l = length (rest_of l.s l.st)
