-- What the check does not find alone for `start_good`.
use Rattle.sheet_listing.proofs.Whole.{started_good}
use Rattle.sheet_listing.proofs.start_good.Goals as goal

pub returns : goal.returns
returns c = started_good _ _ _ _ _ c.requires c.find.ensures c.find-2.ensures c.device_at.ensures
