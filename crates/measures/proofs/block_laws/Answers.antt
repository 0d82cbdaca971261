-- What the check does not find alone for `block_laws`.
use Rattle.measures.proofs.Rounding as rounding
use Rattle.measures.proofs.block_laws.Goals as goal

pub returns : goal.returns
returns c = rounding.block_laws
