-- What callers use of an accepted range.
use Rattle.std.specs.Prelude.{◌≡◌, ◌+◌, ◌%◌, ◌<◌, ◌≤◌, true, []}
use mathlib.Core.List.{flatten}
use Rattle.measures.specs.declared.Extent3d.{Extent3d}
use Rattle.formats.specs.Table.{block_width_of, block_height_of}
use Rattle.refusals.specs.declared.CopySide.{CopySide}
use Rattle.records.specs.declared.Texture.{Texture}
use Rattle.records.specs.declared.TexelCopyTextureInfo.{TexelCopyTextureInfo}
use Rattle.records.specs.Extents.{physical_extent}
use Rattle.rule_copy_range.specs.Range.{requires_exact, range_checks}

pub record RangeLaws (view : TexelCopyTextureInfo) (t : Texture) (size : Extent3d) : Type 0 where
  -- the level exists
  pub level : view.mip_level < t.mip_level_count
  -- the range lies inside the level's physical extent
  pub x_inside : view.origin.x.0 + size.width.0 ≤ (physical_extent t view.mip_level).width.0
  pub y_inside : view.origin.y.0 + size.height.0 ≤ (physical_extent t view.mip_level).height.0
  pub z_inside : view.origin.z + size.depth_or_array_layers ≤ (physical_extent t view.mip_level).depth_or_array_layers
  -- and is whole blocks
  pub x_whole : view.origin.x.0 % block_width_of t.format ≡ 0
  pub y_whole : view.origin.y.0 % block_height_of t.format ≡ 0
  pub width_whole : size.width.0 % block_width_of t.format ≡ 0
  pub height_whole : size.height.0 % block_height_of t.format ≡ 0
  -- where sides can only be copied whole, they are
  pub exact_width : requires_exact t ≡ true → size.width.0 ≡ (physical_extent t view.mip_level).width.0
  pub exact_height : requires_exact t ≡ true → size.height.0 ≡ (physical_extent t view.mip_level).height.0

-- the checks find nothing exactly where they hold
pub record RangeRule (view : TexelCopyTextureInfo) (t : Texture) (side : CopySide) (size : Extent3d) : Type 0 where
  pub passes : RangeLaws view t size → flatten (range_checks view t side size) ≡ []
  pub holds : flatten (range_checks view t side size) ≡ [] → RangeLaws view t size

abbrev pub EveryRange : Type 0
EveryRange = (view : TexelCopyTextureInfo) (t : Texture) (side : CopySide) (size : Extent3d) → RangeRule view t side size
