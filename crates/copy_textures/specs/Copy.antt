-- A copy between textures, and what of it the checks and the plan speak of.
use Rattle.std.specs.Prelude.{ℕ, Bool, false, not, eqb, Option, Some, None}
use Rattle.measures.specs.declared.Texels.{Texels}
use Rattle.measures.specs.declared.Extent3d.{Extent3d}
use Rattle.measures.specs.Measure.{divided_by}
use Rattle.formats.specs.Table.{aspects_of, remove_srgb}
use Rattle.formats.specs.Aspects.{chosen_aspects, aspect_specific_format, subsampling_factor}
use Rattle.records.specs.Extents.{logical_extent}
use Rattle.rule_copy_range.specs.Range.{copy_extent, layer_count_of}
use Rattle.rule_selectors.specs.Selector.{base_of}
use Rattle.records.specs.declared.TextureSide.{TextureSide}
use Rattle.plan_textures.specs.declared.TexturePlan.{TexturePlan}
use Rattle.plan_textures.specs.Plan.{plan_of}

pub record BetweenTextures : Type 0 where
  pub src_index : ℕ
  pub src : TextureSide
  pub dst_index : ℕ
  pub dst : TextureSide
  pub size : Extent3d

abbrev pub between : ℕ → TextureSide → ℕ → TextureSide → Extent3d → BetweenTextures
between i src j dst size = record { src_index = i; src = src; dst_index = j; dst = dst; size = size }

unfoldable pub is_one_texture : BetweenTextures → Bool
is_one_texture c = eqb c.src_index c.dst_index

-- given, and this number
unfoldable pub is_this : Option ℕ → ℕ → Bool
is_this (Some n) m = eqb n m
is_this None m = false

-- a planar source into the format of its asked plane
unfoldable pub is_plane_split : TextureSide → TextureSide → Bool
is_plane_split src dst = is_this (aspect_specific_format (remove_srgb src.texture.format) src.view.aspect) (remove_srgb dst.texture.format)

abbrev pub splits : BetweenTextures → Bool
splits c = is_plane_split c.src c.dst

-- formats differ beyond srgb
unfoldable pub formats_differ : TextureSide → TextureSide → Bool
formats_differ src dst = not (eqb (remove_srgb src.texture.format) (remove_srgb dst.texture.format))

-- the side of a plane's level
unfoldable pub plane_width : TextureSide → Texels
plane_width src = divided_by (logical_extent src.texture src.view.mip_level).width (subsampling_factor src.view.aspect)

unfoldable pub plane_height : TextureSide → Texels
plane_height src = divided_by (logical_extent src.texture src.view.mip_level).height (subsampling_factor src.view.aspect)

-- the aspects that a side chooses, and whether its format has more
abbrev pub chosen : TextureSide → ℕ
chosen side = chosen_aspects side.texture.format side.view.aspect

abbrev pub lacks_aspects : TextureSide → Bool
lacks_aspects side = not (eqb (chosen side) (aspects_of side.texture.format))

-- the layers that the copy goes over are the source's
abbrev pub layers : BetweenTextures → ℕ
layers c = layer_count_of c.src.texture c.size

-- the plan of a copy that no check refuses
unfoldable pub plan_for : BetweenTextures → TexturePlan
plan_for c =
    plan_of c.src c.dst c.size (copy_extent c.src.texture c.size) (copy_extent c.dst.texture c.size) (layers c)
    (base_of c.src.view c.src.texture (chosen c.src)) (base_of c.dst.view c.dst.texture (chosen c.dst))
