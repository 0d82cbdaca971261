-- What the check does not find alone for `buffer_texture_region`.
use Rattle.std.proofs.Common.{arith}
use Rattle.c_regions.specs.Regions.{buffer_texture_region}
use Rattle.c_regions.proofs.Stores.{stored}
use Rattle.c_regions.proofs.buffer_texture_region.Goals as goal

pub returns : goal.returns
unfolding buffer_texture_region
returns c =
    let a = c.args in
    stored (λ v. v) a.plan.now a.region.now 3 12 (omega arith) (omega arith)
