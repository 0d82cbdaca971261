-- What the check does not find alone for `record_laws`.
use Rattle.records.proofs.Bounded as bounded
use Rattle.records.proofs.record_laws.Goals as goal

pub returns : goal.returns
returns c = bounded.record_laws
