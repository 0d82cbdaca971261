-- What the check does not find alone for `full_region`.
use Rattle.std.proofs.Common.{arith}
use Rattle.c_regions.specs.Regions.{with_aspects}
use Rattle.c_regions.proofs.Stores.{stored}
use Rattle.c_regions.proofs.full_region.Goals as goal

pub returns : goal.returns
unfolding with_aspects
returns c =
    let a = c.args in
    stored (with_aspects a.source a.destination) a.plan.now a.region.now 3 15 (omega arith) (omega arith)
