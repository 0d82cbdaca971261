-- What the check does not find alone for `format_laws`.
use Rattle.formats.proofs.Rows.{every_format}
use Rattle.formats.proofs.format_laws.Goals as goal

pub returns : goal.returns
returns c = every_format
