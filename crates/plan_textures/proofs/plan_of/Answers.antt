-- What the check does not find alone for `plan_of`.
use mathlib.Core.Path.{◌∙◌}
use Rattle.plan_textures.proofs.Rules.{built, counts_alike}
use Rattle.plan_textures.specs.Plan.{plan_of}
use Rattle.plan_textures.proofs.plan_of.Goals as goal

pub returns : goal.returns
unfolding plan_of
returns c = let a = c.args in built _ _ 0 c.lesser_of-lesser.ensures c.parts_of-parts.ensures (c.region_count-left.ensures ∙ counts_alike _ _ _ _ a.layers c.is_empty.ensures c.parts_of-parts.ensures) c.texture_ranges-ranges.ensures
