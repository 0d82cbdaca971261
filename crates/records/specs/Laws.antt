-- What callers use of records within their bounds in place of the bounds' text.
use Rattle.std.specs.Prelude.{◌≡◌, true, ℕ, ◌%◌, ◌≤◌, ◌<◌}
use Rattle.measures.specs.declared.Extent3d.{Extent3d}
use Rattle.formats.specs.Table.{block_width_of, block_height_of}
use Rattle.records.specs.declared.Buffer.{Buffer}
use Rattle.records.specs.declared.Texture.{Texture}
use Rattle.records.specs.Limits.{max_buffer_size, max_side, max_side3d, max_levels}
use Rattle.records.specs.Bounds.{buffer_in_bounds, texture_in_bounds}
use Rattle.records.specs.Extents.{logical_extent}

-- an extent that has texels, and no side above the largest limit
pub record Sized (e : Extent3d) : Type 0 where
  pub width_some : 0 < e.width.0
  pub width_few : e.width.0 ≤ max_side
  pub height_some : 0 < e.height.0
  pub height_few : e.height.0 ≤ max_side
  pub depth_some : 0 < e.depth_or_array_layers
  pub depth_few : e.depth_or_array_layers ≤ max_side3d

pub record TextureLaws (t : Texture) : Type 0 where
  pub sized : Sized t.size
  pub level_sized : (level : ℕ) → Sized (logical_extent t level)
  pub levels_some : 0 < t.mip_level_count
  pub levels_few : t.mip_level_count ≤ max_levels
  -- the first level is whole blocks
  pub width_whole : t.size.width.0 % block_width_of t.format ≡ 0
  pub height_whole : t.size.height.0 % block_height_of t.format ≡ 0

pub record RecordLaws : Type 0 where
  pub buffer : (b : Buffer) → buffer_in_bounds b ≡ true → b.size ≤ max_buffer_size
  pub texture : (t : Texture) → texture_in_bounds t ≡ true → TextureLaws t
