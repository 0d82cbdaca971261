-- What the check does not find alone for `regions_listed`.
use Rattle.claim_region_output.proofs.Sheets.{every_sheet_lists}
use Rattle.claim_region_output.proofs.regions_listed.Goals as goal

pub returns : goal.returns
returns c = every_sheet_lists
