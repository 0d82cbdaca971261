-- What the check does not find alone for `plan_of`.
use mathlib.Core.Path.{refl, sym, ◌∙◌}
use Rattle.plan_buffer_texture.specs.Plan.{ranges_of, plan_of}
use Rattle.plan_buffer_texture.proofs.plan_of.Goals as goal

pub returns-then-empty : goal.returns-then-empty
unfolding plan_of ranges_of
returns-then-empty c = rw (c.then_some-ranges.ensures, c.first_region-region.ensures, ← c.is_empty-empty.ensures, c.if-empty.true) refl

pub returns-else-empty : goal.returns-else-empty
unfolding plan_of ranges_of
returns-else-empty c = rw (c.then_some-ranges.ensures, c.first_region-region.ensures, ← c.is_empty-empty.ensures, c.if-empty.false) refl
