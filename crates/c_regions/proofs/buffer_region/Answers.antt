-- What the check does not find alone for `buffer_region`.
use Rattle.std.proofs.Common.{take, arith}
use Rattle.c_regions.specs.Regions.{buffer_region}
use Rattle.c_regions.proofs.Stores.{stored}
use Rattle.c_regions.proofs.buffer_region.Goals as goal

pub returns : goal.returns
unfolding buffer_region
returns c =
    let a = c.args in
    stored (λ v. take 3 v) a.plan.now a.region.now 2 4 (omega arith) (omega arith)
