-- What the check does not find alone for `start`.
use mathlib.Core.Path.{refl}
use Rattle.sheet_listing.specs.Listing.{listing_from, listing_of, rest_of}
use Rattle.sheet_listing.proofs.start.Goals as goal

pub returns-in-Err : goal.returns-in-Err
unfolding listing_of listing_from rest_of
returns-in-Err c = rw (← c.read_sheet.ensures, c.in-Err.is, ← c.line.ensures) refl
