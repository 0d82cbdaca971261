-- The range rule as a test, without its refusals.
use Rattle.std.specs.Prelude.{◌+◌, Bool, false, ◌&&◌, [], ◌∷◌, ◌==◌, nat_le, nat_lt}
use Rattle.conditions.specs.Conditions.{pick, every}
use Rattle.measures.specs.declared.Texels.{Texels}
use Rattle.measures.specs.declared.BlockDimensions.{BlockDimensions}
use Rattle.measures.specs.declared.Extent3d.{Extent3d}
use Rattle.measures.specs.declared.Origin3d.{Origin3d}
use Rattle.measures.specs.Measure.{multiple, texels}
use Rattle.formats.specs.Table.{block_dimensions}
use Rattle.records.specs.declared.Texture.{Texture}
use Rattle.records.specs.declared.TexelCopyTextureInfo.{TexelCopyTextureInfo}
use Rattle.records.specs.Extents.{physical_extent}
use Rattle.rule_copy_range.specs.Range.{requires_exact}

-- a run that must be the whole side is; any other ends inside it
unfoldable pub run_fits : Bool → Texels → Texels → Texels → Bool
run_fits exact start size limit = pick exact (start.0 == 0 && size.0 == limit.0) (nat_le (start.0 + size.0) limit.0)

-- on Z a part is always allowed
unfoldable pub sides_fit : Bool → Origin3d → Extent3d → Extent3d → Bool
sides_fit exact o size extent =
    every
    (run_fits exact o.x size.width extent.width
    ∷ run_fits exact o.y size.height extent.height
    ∷ run_fits false (texels o.z) (texels size.depth_or_array_layers) (texels extent.depth_or_array_layers)
    ∷ [])

unfoldable pub blocks_fit : Origin3d → Extent3d → BlockDimensions → Bool
blocks_fit o size block =
    every
    (multiple o.x.0 block.width.0
    ∷ multiple o.y.0 block.height.0
    ∷ multiple size.width.0 block.width.0
    ∷ multiple size.height.0 block.height.0
    ∷ [])

unfoldable pub extent_fits : TexelCopyTextureInfo → Texture → Extent3d → Bool
extent_fits view t size = sides_fit (requires_exact t) view.origin size (physical_extent t view.mip_level)

unfoldable pub alignment_fits : TexelCopyTextureInfo → Texture → Extent3d → Bool
alignment_fits view t size = blocks_fit view.origin size (block_dimensions t.format)

unfoldable pub in_range : TexelCopyTextureInfo → Texture → Extent3d → Bool
in_range view t size =
    every (nat_lt view.mip_level t.mip_level_count ∷ extent_fits view t size ∷ alignment_fits view t size ∷ [])
