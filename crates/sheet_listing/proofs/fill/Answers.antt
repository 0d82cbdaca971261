-- What the check does not find alone for `fill`.
use mathlib.Core.Path.{refl}
use Rattle.sheet_listing.specs.Listing.{rest_of}
use Rattle.sheet_listing.proofs.fill.Goals as goal

pub returns-in-Ended-clause-ends : goal.returns-in-Ended-clause-ends
unfolding rest_of
returns-in-Ended-clause-ends c room none = rw c.in-Ended.is refl
