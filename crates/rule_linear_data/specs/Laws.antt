-- What callers use of accepted linear data. Nothing here speaks of a block size: it is within the dense row and the rows.
use Rattle.std.specs.Prelude.{◌≡◌, false, ℕ, ◌+◌, ◌*◌, ◌^◌, ◌≤◌, ◌<◌}
use mathlib.Core.List.{[], flatten}
use Rattle.refusals.specs.declared.CopySide.{CopySide}
use Rattle.records.specs.declared.TexelCopyBufferLayout.{TexelCopyBufferLayout}
use Rattle.rule_linear_data.specs.declared.Dense.{Dense}
use Rattle.rule_linear_data.specs.Linear.{several_rows, several_images, row_stride_of, image_rows_of, image_stride_of, image_bytes_of, total_bytes, lacks, linear_checks}

pub record LinearLaws (layout : TexelCopyBufferLayout) (bufferSize : ℕ) (d : Dense) : Type 0 where
  -- a row fits its stride, and the rows an image's
  pub row_fits : d.row_bytes ≤ row_stride_of layout d
  pub rows_fit : d.rows.0 ≤ image_rows_of layout d
  -- what has to be given is given
  pub bytes_given : lacks layout.bytes_per_row (several_rows d) ≡ false
  pub rows_given : lacks layout.rows_per_image (several_images d) ≡ false
  -- the required span lies inside the buffer, or the block of memory
  pub inside : layout.offset + total_bytes layout d ≤ bufferSize
  -- and neither stride nor image nor total reaches 2 ^ 64
  pub stride_fits : image_stride_of layout d < 2 ^ 64
  pub image_fits : image_bytes_of layout d < 2 ^ 64
  pub total_fits : total_bytes layout d < 2 ^ 64

-- the checks find nothing exactly where they hold
pub record LinearRule (layout : TexelCopyBufferLayout) (bufferSize : ℕ) (side : CopySide) (d : Dense) : Type 0 where
  pub passes : LinearLaws layout bufferSize d → flatten (linear_checks layout bufferSize side d) ≡ []
  pub holds : flatten (linear_checks layout bufferSize side d) ≡ [] → LinearLaws layout bufferSize d

-- the rows of an image lie within its stride
abbrev pub RowsWithin : TexelCopyBufferLayout → ℕ → Dense → Type 0
RowsWithin layout bufferSize d = LinearLaws layout bufferSize d → d.rows.0 * row_stride_of layout d ≤ image_stride_of layout d

pub record EveryLinear : Type 0 where
  pub rule : (layout : TexelCopyBufferLayout) (bufferSize : ℕ) (side : CopySide) (d : Dense) → LinearRule layout bufferSize side d
  pub rows_within : (layout : TexelCopyBufferLayout) (bufferSize : ℕ) (d : Dense) → RowsWithin layout bufferSize d
