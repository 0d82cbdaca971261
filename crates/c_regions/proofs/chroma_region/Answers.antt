-- What the check does not find alone for `chroma_region`.
use Rattle.std.proofs.Common.{arith}
use Rattle.flags.specs.FormatAspects.{PLANE_1}
use Rattle.c_regions.specs.Regions.{with_aspects, chroma_halved}
use Rattle.c_regions.proofs.Stores.{stored}
use Rattle.c_regions.proofs.chroma_region.Goals as goal

pub returns : goal.returns
unfolding with_aspects chroma_halved
returns c =
    let a = c.args in
    stored (λ v. chroma_halved (with_aspects PLANE_1 PLANE_1 v)) a.plan.now a.region.now 3 15 (omega arith) (omega arith)
