-- What the check does not find alone for `lacks_copy_src`.
use mathlib.Core.Path.{sym, ap, ◌∙◌}
use mathlib.Core.Bool.{not}
use Rattle.copy_buffer_texture.specs.Plan.{lacks_copy_src}
use Rattle.copy_buffer_texture.proofs.lacks_copy_src.Goals as goal

pub returns-in-Buffer : goal.returns-in-Buffer
returns-in-Buffer c = ap not c.contains.ensures ∙ sym (ap lacks_copy_src c.in-Buffer.is)

pub returns-in-Memory : goal.returns-in-Memory
returns-in-Memory c = sym (ap lacks_copy_src c.in-Memory.is)
