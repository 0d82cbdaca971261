-- What lasts from turn to turn in `copy_planner_list`.
use lib.ListN.{length}
use Rattle.sheet_listing.specs.Listing.{rest_of, listing_of}
use Rattle.c_listing.proofs.Parts.{Putting}
use Rattle.c_listing.proofs.copy_planner_list.Given as goal

abbrev pub invariant-loop-listed : goal.invariant-loop-listed
invariant-loop-listed l = Putting (listing_of l.sheet) l.initial.out (rest_of l.sheet l.st) l.out l.at

abbrev pub decreases-loop-listed : goal.decreases-loop-listed
decreases-loop-listed l = length (rest_of l.sheet l.st)
