-- What the check does not find alone for `put_laws`.
use Rattle.slices.proofs.Puts as puts
use Rattle.slices.proofs.put_laws.Goals as goal

pub returns : goal.returns
returns c = puts.put_laws
