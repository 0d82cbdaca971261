-- What the check does not find alone for `level_laws`.
use Rattle.mip_levels.proofs.Halving as halving
use Rattle.mip_levels.proofs.Thresholds.{threshold}
use Rattle.mip_levels.proofs.level_laws.Goals as goal

pub returns-clause-laws : goal.returns-clause-laws
returns-clause-laws c = halving.level_laws

pub returns-clause-thresholds : goal.returns-clause-thresholds
returns-clause-thresholds c = threshold
