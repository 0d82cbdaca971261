-- The plan of a copy between textures.
use Rattle.std.specs.Prelude.{ℕ, ◌*◌, min, Bool, Option, Some, None}
use Rattle.conditions.specs.Conditions.{pick, stop_if, ◌$◌}
use Rattle.measures.specs.declared.Extent3d.{Extent3d}
use Rattle.formats.specs.Table.{is_combined_depth_stencil, is_multi_planar}
use Rattle.rule_copy_range.specs.declared.CopyExtent.{CopyExtent}
use Rattle.rule_selectors.specs.declared.TextureCopyBase.{TextureCopyBase}
use Rattle.rule_init_ranges.specs.declared.TextureInitRange.{TextureInitRange}
use Rattle.rule_init_ranges.specs.Init.{src_texture_range, dst_texture_range}
use Rattle.measures.specs.Measure.{lesser_of, is_empty}
use Rattle.records.specs.declared.TextureSide.{TextureSide}
use Rattle.plan_textures.specs.declared.CopyParts.{CopyParts}
use Rattle.plan_textures.specs.declared.CopyParts.TheVariants.{Whole, DepthStencil, Planes}
use Rattle.plan_textures.specs.declared.TexturePlan.{TexturePlan}

-- each size is the lesser of both sides
unfoldable pub lesser : CopyExtent → CopyExtent → CopyExtent
lesser a b = record { width = lesser_of a.width b.width; height = lesser_of a.height b.height; depth = min a.depth b.depth }

-- a combined depth-stencil format is copied as depth, then stencil; a planar one as plane 0, then plane 1
unfoldable pub parts_of : ℕ → CopyParts
parts_of format =
    stop_if (is_combined_depth_stencil format) DepthStencil $
    stop_if (is_multi_planar format) Planes $
    Whole

unfoldable pub part_count : CopyParts → ℕ
part_count Whole = 1
part_count DepthStencil = 2
part_count Planes = 2

-- the source's range, then the destination's; none where the copy is empty
unfoldable pub ranges_of : Bool → TextureInitRange → TextureInitRange → Option (TextureInitRange × TextureInitRange)
ranges_of empty src dst = pick empty None (Some (src, dst))

-- a region for each part of each source layer; none where the copy is empty
unfoldable pub plan_of : TextureSide → TextureSide → Extent3d → CopyExtent → CopyExtent → ℕ → TextureCopyBase → TextureCopyBase → TexturePlan
plan_of src dst size srcExtent dstExtent layers srcBase dstBase =
    record {
      src = srcBase;
      dst = dstBase;
      size = lesser srcExtent dstExtent;
      parts = parts_of dst.texture.format;
      part = 0;
      left = pick (is_empty size) 0 (layers * part_count (parts_of dst.texture.format));
      ranges = ranges_of (is_empty size) (src_texture_range src.view src.texture size) (dst_texture_range dst.view dst.texture size);
    }
