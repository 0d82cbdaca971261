-- The range of a copy within a texture.
use Rattle.std.specs.Prelude.{ℕ, ◌+◌, ◌-◌, Bool, false, not, ◌&&◌, ◌||◌, [], ◌∷◌, ◌==◌, nat_le, nat_lt, Result, Ok}
use mathlib.Core.List.{flatten}
use Rattle.measures.specs.declared.Texels.{Texels}
use Rattle.measures.specs.declared.BlockDimensions.{BlockDimensions}
use Rattle.measures.specs.declared.Extent3d.{Extent3d}
use Rattle.measures.specs.declared.Origin3d.{Origin3d}
use Rattle.measures.specs.Measure.{multiple, texels}
use Rattle.mip_levels.specs.declared.TextureDimension.{TextureDimension}
use Rattle.mip_levels.specs.declared.TextureDimension.TheVariants.{D1, D2, D3}
use Rattle.mip_levels.specs.Level.{texture_dimension}
use Rattle.formats.specs.Table.{block_dimensions, is_depth_stencil}
use Rattle.refusals.specs.declared.CopySide.{CopySide}
use Rattle.refusals.specs.declared.TextureErrorDimension.{TextureErrorDimension}
use Rattle.refusals.specs.declared.TextureErrorDimension.TheVariants.{X, Y, Z}
use Rattle.refusals.specs.declared.TransferError.{TransferError}
use Rattle.refusals.specs.declared.TransferError.TheVariants as E
use Rattle.refusals.specs.Order.{Checks, refuse_if, decided}
use Rattle.records.specs.declared.Texture.{Texture}
use Rattle.records.specs.declared.TexelCopyTextureInfo.{TexelCopyTextureInfo}
use Rattle.records.specs.Extents.{physical_extent}
use Rattle.rule_copy_range.specs.declared.Subject.{Subject}
use Rattle.rule_copy_range.specs.declared.CopyExtent.{CopyExtent}

-- where a run of `size` from `start` ends
unfoldable pub end_of : ℕ → ℕ → ℕ
end_of start size = start + size

-- part of a side that can only be copied whole
unfoldable pub is_partial : Bool → ℕ → ℕ → ℕ → Bool
is_partial exact start size limit = exact && (not (start == 0) || not (size == limit))

-- origin ≤ extent and size ≤ extent − origin do not both hold
unfoldable pub overruns : ℕ → ℕ → ℕ → Bool
overruns start size limit = nat_lt limit start || nat_lt (limit - start) size

unfoldable pub partial_transfer : Subject → TextureErrorDimension → ℕ → ℕ → ℕ → TransferError
partial_transfer of d start size limit =
    E.UnsupportedPartialTransfer of.format of.sample_count start (end_of start size) limit d of.side

unfoldable pub texture_overrun : CopySide → TextureErrorDimension → ℕ → ℕ → ℕ → TransferError
texture_overrun side d start size limit = E.TextureOverrun start (end_of start size) limit d side

-- one side
unfoldable pub dimension_checks : Subject → TextureErrorDimension → Texels → Texels → Texels → Bool → Checks
dimension_checks of d start size limit exact =
    refuse_if (is_partial exact start.0 size.0 limit.0) (partial_transfer of d start.0 size.0 limit.0)  -- 10
    ∷ refuse_if (overruns start.0 size.0 limit.0) (texture_overrun of.side d start.0 size.0 limit.0)  -- 9
    ∷ []

-- X and Y of a depth-stencil or multisampled texture are copied whole
unfoldable pub requires_exact : Texture → Bool
requires_exact t = is_depth_stencil t.format || nat_lt 1 t.sample_count

unfoldable pub subject_of : Texture → CopySide → Subject
subject_of t side = record { format = t.format; sample_count = t.sample_count; side = side }

-- the size of one region, and the layers that the copy goes over
abbrev pub depth_of : TextureDimension → ℕ → ℕ
depth_of D1 depth = 1
depth_of D2 depth = 1
depth_of D3 depth = depth

unfoldable pub copy_extent : Texture → Extent3d → CopyExtent
copy_extent t size =
    record {
      width = size.width;
      height = size.height;
      depth = depth_of (texture_dimension t.dimension) size.depth_or_array_layers;
    }

abbrev pub layers_of : TextureDimension → ℕ → ℕ
layers_of D1 depth = 1
layers_of D2 depth = depth
layers_of D3 depth = 1

unfoldable pub layer_count_of : Texture → Extent3d → ℕ
layer_count_of t size = layers_of (texture_dimension t.dimension) size.depth_or_array_layers

-- X, Y and Z in turn; on Z, where a slice or a layer counts as a texel, a part is always allowed
unfoldable pub side_checks : Subject → Origin3d → Extent3d → Extent3d → Bool → Checks
side_checks of o size extent exact =
    flatten (dimension_checks of X o.x size.width extent.width exact)  -- 10, 9
    ∷ flatten (dimension_checks of Y o.y size.height extent.height exact)  -- 10, 9
    ∷ flatten (dimension_checks of Z (texels o.z) (texels size.depth_or_array_layers) (texels extent.depth_or_array_layers) false)  -- 9
    ∷ []

-- whole blocks
unfoldable pub block_checks : Origin3d → Extent3d → BlockDimensions → Checks
block_checks o size block =
    refuse_if (not (multiple o.x.0 block.width.0)) E.UnalignedCopyOriginX  -- 18
    ∷ refuse_if (not (multiple o.y.0 block.height.0)) E.UnalignedCopyOriginY  -- 19
    ∷ refuse_if (not (multiple size.width.0 block.width.0)) E.UnalignedCopyWidth  -- 16
    ∷ refuse_if (not (multiple size.height.0 block.height.0)) E.UnalignedCopyHeight  -- 17
    ∷ []

unfoldable pub range_checks : TexelCopyTextureInfo → Texture → CopySide → Extent3d → Checks
range_checks view t side size =
    refuse_if (nat_le t.mip_level_count view.mip_level) (E.InvalidTextureMipLevel view.mip_level t.mip_level_count)  -- 13
    ∷ flatten (side_checks (subject_of t side) view.origin size (physical_extent t view.mip_level) (requires_exact t))  -- X, Y, Z: 10, 9
    ∷ flatten (block_checks view.origin size (block_dimensions t.format))  -- 18, 19, 16, 17
    ∷ []

-- an accepted range gives the size of a region and the layers
unfoldable pub range_checked : TexelCopyTextureInfo → Texture → CopySide → Extent3d → Result (CopyExtent × ℕ) TransferError
range_checked view t side size = decided (range_checks view t side size) (Ok (copy_extent t size, layer_count_of t size))
