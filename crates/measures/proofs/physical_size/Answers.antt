-- What the check does not find alone for `physical_size`.
use Rattle.measures.specs.Measure.{physical_size}
use Rattle.measures.proofs.physical_size.Goals as goal

pub returns : goal.returns
unfolding physical_size
returns c = cc
