-- The extents of a texture's level.
use Rattle.std.specs.Prelude.{ℕ}
use Rattle.measures.specs.declared.Extent3d.{Extent3d}
use Rattle.measures.specs.Measure.{physical_size}
use Rattle.mip_levels.specs.Level.{texture_dimension, mip_level_size}
use Rattle.formats.specs.Table.{block_dimensions}
use Rattle.records.specs.declared.Texture.{Texture}

-- the logical extent of a level
unfoldable pub logical_extent : Texture → ℕ → Extent3d
logical_extent t level = mip_level_size (texture_dimension t.dimension) t.size level

-- the physical extent: width and height rounded up to blocks
unfoldable pub physical_extent : Texture → ℕ → Extent3d
physical_extent t level = physical_size (logical_extent t level) (block_dimensions t.format)
