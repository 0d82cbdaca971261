use Rattle.std.proofs.Common.{length}
use Rattle.sheet_listing.specs.Listing.{rest_of, listing_of}
use Rattle.sheet_replay.proofs.Lists.{Comparing}
use Rattle.sheet_replay.proofs.lists_as.Given as goal

abbrev pub invariant-loop-part : goal.invariant-loop-part
invariant-loop-part l = Comparing (listing_of l.s) (rest_of l.s l.st) l.recorded l.at

abbrev pub decreases-loop-part : goal.decreases-loop-part
decreases-loop-part l = length (rest_of l.s l.st)
