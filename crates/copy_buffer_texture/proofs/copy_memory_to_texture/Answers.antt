-- What the check does not find alone for `copy_memory_to_texture`.
use Rattle.copy_buffer_texture.proofs.Staged.{by_memory_law}
use Rattle.copy_buffer_texture.proofs.copy_memory_to_texture.Goals as goal

pub returns : goal.returns
returns c = by_memory_law _ _ _ c.copy_source_to_texture.ensures
