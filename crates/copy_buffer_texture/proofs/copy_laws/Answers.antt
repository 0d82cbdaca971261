-- What the check does not find alone for `copy_laws`.
use Rattle.copy_buffer_texture.proofs.Accepted.{every_copy_law}
use Rattle.copy_buffer_texture.proofs.copy_laws.Goals as goal

pub returns : goal.returns
returns c = every_copy_law
