-- What the check does not find alone for `source_ranges`.
use mathlib.Core.Path.{sym, ap, ◌∙◌}
use Rattle.copy_buffer_texture.specs.declared.UploadSource.{UploadSource}
use Rattle.copy_buffer_texture.specs.Plan.{source_ranges}
use Rattle.copy_buffer_texture.proofs.source_ranges.Goals as goal

pub invariant_of-span : goal.invariant_of-span
unfolding source_ranges
invariant_of-span c = record { low = let e = c.requires in rw c.in-Buffer.is at e }

pub returns-in-Buffer : goal.returns-in-Buffer
unfolding source_ranges
returns-in-Buffer c = let a = c.args in c.handle_buffer_init.ensures ∙ sym (ap (λ (s : UploadSource). source_ranges s a.offset a.info) c.in-Buffer.is)

pub returns-in-Memory : goal.returns-in-Memory
unfolding source_ranges
returns-in-Memory c = let a = c.args in sym (ap (λ (s : UploadSource). source_ranges s a.offset a.info) c.in-Memory.is)
