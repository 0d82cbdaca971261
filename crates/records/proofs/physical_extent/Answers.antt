-- What the check does not find alone for `physical_extent`.
use Prim.Native.Nat.{◌≤◌}
use native.Mathlib.Omega.{arith}
use Rattle.records.specs.Extents.{physical_extent}
use Rattle.records.specs.Limits.{max_side}
use Rattle.records.proofs.Bounded.{texture_laws}
use Rattle.records.proofs.physical_extent.Goals as goal

pub physical_size-requires : goal.physical_size-requires
physical_size-requires c =
    let e = (texture_laws c.args.t.side.texture c.args.t.in_bounds).level_sized c.args.t.side.view.mip_level in
    let logical = c.logical_extent in
    let width : logical.result.width.0 ≤ max_side = rw logical.ensures e.width_few in
    let height : logical.result.height.0 ≤ max_side = rw logical.ensures e.height_few in
    omega arith

pub returns : goal.returns
unfolding physical_extent
returns c = cc
