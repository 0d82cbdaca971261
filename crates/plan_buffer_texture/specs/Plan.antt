-- The plan of a copy between a buffer, or memory, and a texture.
use Rattle.std.specs.Prelude.{ℕ, Bool, Option, Some, None}
use Rattle.conditions.specs.Conditions.{pick}
use Rattle.measures.specs.declared.Extent3d.{Extent3d}
use Rattle.measures.specs.Measure.{is_empty}
use Rattle.records.specs.declared.TexelCopyBufferLayout.{TexelCopyBufferLayout}
use Rattle.rule_copy_range.specs.declared.CopyExtent.{CopyExtent}
use Rattle.rule_linear_data.specs.declared.LinearData.{LinearData}
use Rattle.rule_selectors.specs.declared.TextureCopyBase.{TextureCopyBase}
use Rattle.rule_init_ranges.specs.declared.TextureInitRange.{TextureInitRange}
use Rattle.rule_init_ranges.specs.declared.BufferInitRanges.{BufferInitRanges}
use Rattle.plan_buffer_texture.specs.declared.BufferTextureCopy.{BufferTextureCopy}
use Rattle.plan_buffer_texture.specs.declared.BufferTexturePlan.{BufferTexturePlan}

unfoldable pub first_region : TexelCopyBufferLayout → TextureCopyBase → CopyExtent → BufferTextureCopy
first_region layout base extent =
    record {
      offset = layout.offset;
      bytes_per_row = layout.bytes_per_row;
      rows_per_image = layout.rows_per_image;
      base = base;
      size = extent;
    }

-- the texture's range, then the buffer's, of which memory has none; none at all where the copy is empty
unfoldable pub ranges_of : Bool → TextureInitRange → BufferInitRanges → Option (TextureInitRange × BufferInitRanges)
ranges_of empty texture buffer = pick empty None (Some (texture, buffer))

-- a region for each layer, each an image stride on; none where the copy is empty
unfoldable pub plan_of : TexelCopyBufferLayout → Extent3d → CopyExtent → ℕ → TextureCopyBase → LinearData → TextureInitRange → BufferInitRanges → BufferTexturePlan
plan_of layout size extent layers base info texture buffer =
    record {
      region = first_region layout base extent;
      stride = info.image_stride;
      left = pick (is_empty size) 0 layers;
      ranges = ranges_of (is_empty size) texture buffer;
      bytes_checked = info.bytes_in_copy;
    }
