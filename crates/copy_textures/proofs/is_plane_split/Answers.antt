-- What the check does not find alone for `is_plane_split`.
use mathlib.Core.Path.{◌∙◌}
use Rattle.copy_textures.specs.Copy.{is_plane_split}
use Rattle.copy_textures.proofs.Split.{this}
use Rattle.copy_textures.proofs.is_plane_split.Goals as goal

pub returns : goal.returns
unfolding is_plane_split
returns c = rw (← c.remove_srgb_suffix.ensures, ← c.remove_srgb_suffix-2.ensures, ← c.aspect_specific_format.ensures) (c.eq.ensures ∙ this _ _)
