-- The same answer as the functions between the first check and the last give it. Only their contracts cite this: no caller need read it.
use Rattle.std.specs.Prelude.{ℕ, ◌-◌, ◌*◌, ◌^◌, ltb, Option, Some, None, Result, Ok, Err}
use Rattle.conditions.specs.Conditions.{pick, stop_if, ◌$◌}
use Rattle.refusals.specs.declared.CopySide.{CopySide}
use Rattle.refusals.specs.declared.TransferError.TheVariants as E
use Rattle.records.specs.declared.TexelCopyBufferLayout.{TexelCopyBufferLayout}
use Rattle.rule_linear_data.specs.declared.Dense.{Dense}
use Rattle.rule_linear_data.specs.declared.Span.{Span}
use Rattle.rule_linear_data.specs.Linear.{stacked, several_rows, several_images, row_stride_of, image_rows_of, span_of, data_of, is_below, lacks}
use Rattle.refusals.specs.declared.TransferError.{TransferError}
use Rattle.rule_linear_data.specs.declared.LinearData.{LinearData}

-- a number as 64 bits hold it
unfoldable pub fitting : ℕ → Option ℕ
fitting n = pick (ltb n (2 ^ 64)) (Some n) None

-- the rest at n, or 25 where n reaches 2 ^ 64
unfoldable pub below_2^64 : ℕ → (ℕ → Result LinearData TransferError) → Result LinearData TransferError
below_2^64 n rest = pick (ltb n (2 ^ 64)) (rest n) (Err E.SizeOverflow)

-- 21; 22; 7; 8
unfoldable pub placed : TexelCopyBufferLayout → ℕ → CopySide → Dense → Span → Result LinearData TransferError
placed layout bufferSize side d s =
    stop_if (lacks layout.bytes_per_row (several_rows d)) (Err E.UnspecifiedBytesPerRow) $
    stop_if (lacks layout.rows_per_image (several_images d)) (Err E.UnspecifiedRowsPerImage) $
    stop_if (ltb bufferSize layout.offset) (Err (E.BufferStartOffsetOverrun layout.offset bufferSize side)) $
    stop_if (ltb (bufferSize - layout.offset) s.total) (Err (E.BufferEndOffsetOverrun layout.offset s.total bufferSize side)) $
    Ok (data_of d s)

-- 25 of the image stride, the image bytes, the total
unfoldable pub measured : TexelCopyBufferLayout → ℕ → CopySide → Dense → ℕ → ℕ → Result LinearData TransferError
measured layout bufferSize side d row_stride_of image_rows_of =
    below_2^64 (image_rows_of * row_stride_of) λ image_stride_of.
    below_2^64 (stacked d.rows.0 row_stride_of d.row_bytes) λ image_bytes_of.
    below_2^64 (stacked d.images image_stride_of image_bytes_of) λ total.
    placed layout bufferSize side d (span_of row_stride_of image_stride_of image_bytes_of total)

-- 23; 24
unfoldable pub linear_staged : TexelCopyBufferLayout → ℕ → CopySide → Dense → Result LinearData TransferError
linear_staged layout bufferSize side d =
    stop_if (is_below layout.bytes_per_row d.row_bytes) (Err E.InvalidBytesPerRow) $
    stop_if (is_below layout.rows_per_image d.rows.0) (Err E.InvalidRowsPerImage) $
    measured layout bufferSize side d (row_stride_of layout d) (image_rows_of layout d)
