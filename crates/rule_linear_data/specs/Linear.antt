-- The bytes that a copy takes in a buffer, or in memory. Numbers are unbounded here: nothing wraps.
use Rattle.std.specs.Prelude.{ℕ, ◌+◌, ◌-◌, ◌*◌, ◌^◌, Bool, false, ◌&&◌, ◌||◌, not, [], ◌∷◌, eqb, ltb, Option, Some, None, Result, Ok}
use Rattle.conditions.specs.Conditions.{pick}
use Rattle.measures.specs.declared.Extent3d.{Extent3d}
use Rattle.measures.specs.Measure.{in_blocks, or_else}
use Rattle.formats.specs.declared.TextureAspect.{TextureAspect}
use Rattle.formats.specs.Table.{block_dimensions}
use Rattle.formats.specs.Aspects.{block_copy_size}
use Rattle.refusals.specs.declared.CopySide.{CopySide}
use Rattle.refusals.specs.declared.TransferError.TheVariants as E
use Rattle.refusals.specs.Order.{Checks, refuse_if, decided}
use Rattle.records.specs.declared.TexelCopyBufferLayout.{TexelCopyBufferLayout}
use Rattle.rule_linear_data.specs.declared.Dense.{Dense}
use Rattle.rule_linear_data.specs.declared.Span.{Span}
use Rattle.rule_linear_data.specs.declared.LinearData.{LinearData}
use Rattle.refusals.specs.declared.TransferError.{TransferError}

-- ---- what is copied

-- the bytes of a block of the aspect, 0 where it has none that can be copied
unfoldable pub block_bytes : ℕ → TextureAspect → ℕ
block_bytes format aspect = or_else (block_copy_size format aspect) 0

-- width and height in blocks; the dense row is width blocks × block bytes
unfoldable pub dense_of : ℕ → TextureAspect → Extent3d → Dense
dense_of format aspect size =
    record {
      row_bytes = (in_blocks size.width (block_dimensions format).width).0 * block_bytes format aspect;
      rows = in_blocks size.height (block_dimensions format).height;
      images = size.depth_or_array_layers;
    }

-- more than one row or image; more than one image
unfoldable pub several_rows : Dense → Bool
several_rows d = ltb 1 d.images || ltb 1 d.rows.0

unfoldable pub several_images : Dense → Bool
several_images d = ltb 1 d.images

-- ---- how it lies in the buffer, or in memory; an absent value counts as the dense one

-- none for no items; else a stride for each item but the last, and the last
unfoldable pub stacked : ℕ → ℕ → ℕ → ℕ
stacked items stride last = pick (eqb items 0) 0 ((items - 1) * stride + last)

abbrev pub row_stride_of : TexelCopyBufferLayout → Dense → ℕ
row_stride_of layout d = or_else layout.bytes_per_row d.row_bytes

abbrev pub image_rows_of : TexelCopyBufferLayout → Dense → ℕ
image_rows_of layout d = or_else layout.rows_per_image d.rows.0

abbrev pub image_stride_of : TexelCopyBufferLayout → Dense → ℕ
image_stride_of layout d = image_rows_of layout d * row_stride_of layout d

abbrev pub image_bytes_of : TexelCopyBufferLayout → Dense → ℕ
image_bytes_of layout d = stacked d.rows.0 (row_stride_of layout d) d.row_bytes

abbrev pub total_bytes : TexelCopyBufferLayout → Dense → ℕ
total_bytes layout d = stacked d.images (image_stride_of layout d) (image_bytes_of layout d)

abbrev pub span_of : ℕ → ℕ → ℕ → ℕ → Span
span_of row_stride_of image_stride_of image_bytes_of total =
    record { row_stride = row_stride_of; image_stride = image_stride_of; image_bytes = image_bytes_of; total = total }

-- nothing pads the rows, nor the images
unfoldable pub is_contiguous_copy : Dense → Span → Bool
is_contiguous_copy d s =
    (eqb s.row_stride d.row_bytes || not (several_rows d))
    && (eqb s.image_stride s.image_bytes || not (several_images d))

unfoldable pub data_of : Dense → Span → LinearData
data_of d s = record { bytes_in_copy = s.total; image_stride = s.image_stride; is_contiguous = is_contiguous_copy d s }

abbrev pub linear_data : TexelCopyBufferLayout → Dense → LinearData
linear_data layout d = data_of d (span_of (row_stride_of layout d) (image_stride_of layout d) (image_bytes_of layout d) (total_bytes layout d))

-- ---- the checks

-- given, and below
unfoldable pub is_below : Option ℕ → ℕ → Bool
is_below (Some n) least = ltb n least
is_below None least = false

-- absent where it has to be given
unfoldable pub lacks : Option ℕ → Bool → Bool
lacks (Some n) needed = false
lacks None needed = needed

abbrev pub reaches_2^64 : ℕ → Bool
reaches_2^64 n = not (ltb n (2 ^ 64))

unfoldable pub linear_checks : TexelCopyBufferLayout → ℕ → CopySide → Dense → Checks
linear_checks layout bufferSize side d =
    refuse_if (is_below layout.bytes_per_row d.row_bytes) E.InvalidBytesPerRow  -- 23
    ∷ refuse_if (is_below layout.rows_per_image d.rows.0) E.InvalidRowsPerImage  -- 24
    ∷ refuse_if (reaches_2^64 (image_stride_of layout d)) E.SizeOverflow  -- 25
    ∷ refuse_if (reaches_2^64 (image_bytes_of layout d)) E.SizeOverflow  -- 25
    ∷ refuse_if (reaches_2^64 (total_bytes layout d)) E.SizeOverflow  -- 25
    ∷ refuse_if (lacks layout.bytes_per_row (several_rows d)) E.UnspecifiedBytesPerRow  -- 21
    ∷ refuse_if (lacks layout.rows_per_image (several_images d)) E.UnspecifiedRowsPerImage  -- 22
    ∷ refuse_if (ltb bufferSize layout.offset) (E.BufferStartOffsetOverrun layout.offset bufferSize side)  -- 7
    ∷ refuse_if (ltb (bufferSize - layout.offset) (total_bytes layout d)) (E.BufferEndOffsetOverrun layout.offset (total_bytes layout d) bufferSize side)  -- 8
    ∷ []

unfoldable pub linear_checked : TexelCopyBufferLayout → ℕ → TextureAspect → ℕ → CopySide → Extent3d → Result LinearData TransferError
linear_checked layout format aspect bufferSize side size =
    let d = dense_of format aspect size in
    decided (linear_checks layout bufferSize side d) (Ok (linear_data layout d))
