-- Which formats a copy with a buffer, or from memory, may read and write, and what it asks of a texture and a layout.
use Rattle.std.specs.Prelude.{ℕ, Bool, true, false, ◌&&◌, ◌||◌, not, [], ◌∷◌, eqb, Option, Some, None}
use Rattle.conditions.specs.Conditions.{pick}
use Rattle.measures.specs.Measure.{multiple, or_else}
use Rattle.flags.specs.Flags.{is_one}
use Rattle.formats.specs.declared.TextureAspect.{TextureAspect}
use Rattle.formats.specs.declared.TextureAspect.TheVariants.{All, StencilOnly, DepthOnly, Plane0, Plane1, Plane2}
use Rattle.formats.specs.Table.{is_depth_stencil, depth24plus, depth24plus_stencil8, depth32float, depth32float_stencil8}
use Rattle.formats.specs.Aspects.{block_copy_size}
use Rattle.refusals.specs.declared.TransferError.TheVariants as E
use Rattle.refusals.specs.Order.{Checks, refuse_if}
use Rattle.records.specs.declared.Texture.{Texture}
use Rattle.records.specs.declared.TexelCopyBufferLayout.{TexelCopyBufferLayout}

unfoldable pub is_depth_only : TextureAspect → Bool
is_depth_only All = false
is_depth_only StencilOnly = false
is_depth_only DepthOnly = true
is_depth_only Plane0 = false
is_depth_only Plane1 = false
is_depth_only Plane2 = false

-- where the texture is read: depth24plus; the depth of depth24plus-stencil8
unfoldable pub src_format_checks : ℕ → TextureAspect → Checks
src_format_checks format aspect =
    refuse_if (eqb format depth24plus) (E.CopyFromForbiddenTextureFormat format)  -- 29
    ∷ refuse_if (eqb format depth24plus_stencil8 && is_depth_only aspect) (E.CopyFromForbiddenTextureFormatAspect format aspect)  -- 30
    ∷ []

-- where it is written: depth24plus and depth32float; the depth of depth24plus-stencil8 and depth32float-stencil8
unfoldable pub dst_format_checks : ℕ → TextureAspect → Checks
dst_format_checks format aspect =
    refuse_if (eqb format depth24plus || eqb format depth32float) (E.CopyToForbiddenTextureFormat format)  -- 31
    ∷ refuse_if ((eqb format depth24plus_stencil8 || eqb format depth32float_stencil8) && is_depth_only aspect) (E.CopyToForbiddenTextureFormatAspect format aspect)  -- 32
    ∷ []

-- an offset is a multiple of 4 for depth-stencil, else of the block bytes
unfoldable pub offset_alignment : ℕ → TextureAspect → ℕ
offset_alignment format aspect = pick (is_depth_stencil format) 4 (or_else (block_copy_size format aspect) 1)

-- given, and not a multiple of 256
unfoldable pub is_unaligned_row : Option ℕ → Bool
is_unaligned_row (Some n) = not (multiple n 256)
is_unaligned_row None = false

-- what is chosen is exactly one aspect, and the layout is aligned where alignment is asked for
unfoldable pub layout_checks : TextureAspect → ℕ → Texture → TexelCopyBufferLayout → Bool → Checks
layout_checks aspect aspects t layout aligned =
    refuse_if (not (eqb t.sample_count 1)) (E.InvalidSampleCount t.sample_count)  -- 35
    ∷ refuse_if (not (is_one aspects)) E.CopyAspectNotOne  -- 28
    ∷ refuse_if (aligned && not (multiple layout.offset (offset_alignment t.format aspect))) (E.UnalignedBufferOffset layout.offset)  -- 14
    ∷ refuse_if (aligned && is_unaligned_row layout.bytes_per_row) E.UnalignedBytesPerRow  -- 20
    ∷ []
