-- What the check does not find alone for `texture_ranges`.
use mathlib.Core.Path.{◌∙◌}
use Rattle.plan_textures.proofs.Rules.{given_unless}
use Rattle.plan_textures.proofs.texture_ranges.Goals as goal

pub returns : goal.returns
returns c = c.then_some.ensures ∙ rw (c.is_empty.ensures, c.src_texture_range.ensures, c.dst_texture_range.ensures) (given_unless _ _ _)
