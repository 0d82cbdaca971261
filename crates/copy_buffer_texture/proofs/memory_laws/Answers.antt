-- What the check does not find alone for `memory_laws`.
use Rattle.copy_buffer_texture.proofs.Memory.{every_memory_refusal}
use Rattle.copy_buffer_texture.proofs.memory_laws.Goals as goal

pub returns : goal.returns
returns c = every_memory_refusal
