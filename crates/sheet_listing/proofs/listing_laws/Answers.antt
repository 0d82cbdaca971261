-- What the check does not find alone for `listing_laws`.
use Rattle.sheet_listing.proofs.Whole.{listed}
use Rattle.sheet_listing.proofs.listing_laws.Goals as goal

pub returns : goal.returns
returns c = listed
