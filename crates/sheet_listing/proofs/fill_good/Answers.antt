-- What the check does not find alone for `fill_good`.
use Rattle.sheet_listing.proofs.Whole.{part_filled}
use Rattle.sheet_listing.proofs.fill_good.Goals as goal

pub returns : goal.returns
returns c =
    let put = c.put_pieces-put.ensures in
    let all = part_filled _ _ _ _ _ c.as_slice.ensures c.as_slice-2.ensures _ _ _ _ (put.fills, (put.count_in_bounds, put.ends)) in
    record { fills = all.0; count_in_bounds = all.1.0; ends = all.1.1 }
