-- What the check does not find alone for `writer_laws`.
use Rattle.plan_writer.proofs.Writes.{every_entry}
use Rattle.plan_writer.proofs.writer_laws.Goals as goal

pub returns : goal.returns
returns c = every_entry
