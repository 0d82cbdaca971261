-- What the check does not find alone for `texels_at`.
use mathlib.Core.Path.{ap}
use Rattle.measures.specs.Measure.{texels}
use Rattle.mip_levels.specs.Level.{texels_at}
use Rattle.mip_levels.proofs.texels_at.Goals as goal

pub returns : goal.returns
unfolding texels_at
returns c = ap texels c.side_at.ensures
