-- A copy line and the records that it names: an index past its section is 1, before the records; else the copy's answer.
-- The sheet is its bytes s; a section's records are found by the places where their lines begin.
use Rattle.std.specs.Prelude.{ℕ, ◌+◌, Bool, List, [], ◌∷◌, eqb, leb, length, get_or, Result}
use Rattle.conditions.specs.Conditions.{pick, ◌$◌}
use Rattle.refusals.specs.declared.TransferError.TheVariants.{InvalidSheetIndex}
use Rattle.refusals.specs.Order.{Checks, refuse_if, decided}
use Rattle.records.specs.declared.Buffer.{Buffer}
use Rattle.records.specs.declared.Device.{Device}
use Rattle.records.specs.declared.Texture.{Texture}
use Rattle.records.specs.declared.TextureSide.{TextureSide}
use Rattle.copy_buffer_texture.specs.declared.LinearTextureCopy.{LinearTextureCopy}
use Rattle.copy_buffers.specs.declared.BufferSide.{BufferSide}
use Rattle.copy_kinds.specs.Planned.{planned_buffers, planned_upload, planned_memory_upload, planned_download, planned_textures}
use Rattle.sheet_fields.specs.declared.Line.{Line}
use Rattle.sheet_sections.specs.Rows.{textures, buffers, section_line}
use Rattle.sheet_records.specs.Records.{value_of, word_of, size_of, extent_of, texture_of, buffer_of, view_of, layout_of}
use Rattle.copy_kinds.specs.declared.Ranges.{Ranges}
use Rattle.plan_kinds.specs.declared.Plan.{Plan}
use Rattle.refusals.specs.declared.TransferError.{TransferError}

unfoldable pub texture_at : List ℕ → List ℕ → ℕ → Texture
texture_at s places k = texture_of (section_line s textures (get_or places k 0))

unfoldable pub buffer_at : List ℕ → List ℕ → ℕ → Buffer
buffer_at s places k = buffer_of (section_line s buffers (get_or places k 0))

-- from field i on: buffer, offset
unfoldable pub buffer_side_at : List ℕ → List ℕ → Line → ℕ → BufferSide
buffer_side_at s places l i = record { index = word_of l i; buffer = buffer_at s places (word_of l i); offset = value_of l (i + 1) }

-- from field i on: texture, level, x, y, z, aspect
unfoldable pub texture_side_at : List ℕ → List ℕ → Line → ℕ → TextureSide
texture_side_at s places l i = record { texture = texture_at s places (word_of l i); view = view_of l (i + 1) }

-- of a copy between a texture and a buffer, or memory
abbrev pub linear_copy : Device → Line → TextureSide → LinearTextureCopy
linear_copy device l side = record { device = device; layout = layout_of l; texture = side; size = extent_of l 11 }

-- ---- the answer to a line

-- an index past its section
unfoldable pub past : List ℕ → ℕ → Bool
past places k = leb (length places) k

-- the two indices of a line, each with the places of its section
unfoldable pub index_checks : List ℕ → ℕ → List ℕ → ℕ → Checks
index_checks of k others j =
    refuse_if (past of k) InvalidSheetIndex  -- 1
    ∷ refuse_if (past others j) InvalidSheetIndex  -- 1
    ∷ []

-- `1 src offset dst offset size`
unfoldable pub named_buffers : List ℕ → List ℕ → Device → Line → Result (Plan × Ranges) TransferError
named_buffers s bs device l =
    planned_buffers device (word_of l 1) (buffer_at s bs (word_of l 1)) (value_of l 2) (word_of l 3) (buffer_at s bs (word_of l 3)) (value_of l 4) (size_of l)

unfoldable pub buffers_planned : List ℕ → List ℕ → Device → Line → Result (Plan × Ranges) TransferError
buffers_planned s bs device l = decided (index_checks bs (word_of l 1) bs (word_of l 3)) (named_buffers s bs device l)

-- `2` or `3 buffer offset bytes rows texture level x y z aspect w h d`
abbrev pub named_upload : List ℕ → List ℕ → List ℕ → Device → Line → Result (Plan × Ranges) TransferError
named_upload s ts bs device l =
    planned_upload device (word_of l 1) (buffer_at s bs (word_of l 1)) (layout_of l) (word_of l 5) (texture_at s ts (word_of l 5)) (view_of l 6) (extent_of l 11)

abbrev pub named_download : List ℕ → List ℕ → List ℕ → Device → Line → Result (Plan × Ranges) TransferError
named_download s ts bs device l =
    planned_download device (word_of l 5) (texture_at s ts (word_of l 5)) (view_of l 6) (word_of l 1) (buffer_at s bs (word_of l 1)) (layout_of l) (extent_of l 11)

unfoldable pub named_copy : List ℕ → List ℕ → List ℕ → Device → Line → Result (Plan × Ranges) TransferError
named_copy s ts bs device l = pick (eqb (value_of l 0) 2) (named_upload s ts bs device l) (named_download s ts bs device l)

unfoldable pub copy_planned : List ℕ → List ℕ → List ℕ → Device → Line → Result (Plan × Ranges) TransferError
copy_planned s ts bs device l = decided (index_checks bs (word_of l 1) ts (word_of l 5)) (named_copy s ts bs device l)

-- the same where the kind is known
abbrev pub upload_planned : List ℕ → List ℕ → List ℕ → Device → Line → Result (Plan × Ranges) TransferError
upload_planned s ts bs device l = decided (index_checks bs (word_of l 1) ts (word_of l 5)) (named_upload s ts bs device l)

abbrev pub download_planned : List ℕ → List ℕ → List ℕ → Device → Line → Result (Plan × Ranges) TransferError
download_planned s ts bs device l = decided (index_checks bs (word_of l 1) ts (word_of l 5)) (named_download s ts bs device l)

-- `5 length offset bytes rows texture level x y z aspect w h d`: no buffer is named
unfoldable pub named_memory : List ℕ → List ℕ → Device → Line → Result (Plan × Ranges) TransferError
named_memory s ts device l = planned_memory_upload device (value_of l 1) (layout_of l) (word_of l 5) (texture_at s ts (word_of l 5)) (view_of l 6) (extent_of l 11)

unfoldable pub memory_planned : List ℕ → List ℕ → Device → Line → Result (Plan × Ranges) TransferError
memory_planned s ts device l = decided (refuse_if (past ts (word_of l 5)) InvalidSheetIndex ∷ []) (named_memory s ts device l)  -- 1

-- `4`, then texture, level, x, y, z, aspect twice, then w h d
unfoldable pub named_textures : List ℕ → List ℕ → Line → Result (Plan × Ranges) TransferError
named_textures s ts l = planned_textures (word_of l 1) (texture_side_at s ts l 1) (word_of l 7) (texture_side_at s ts l 7) (extent_of l 13)

unfoldable pub textures_planned : List ℕ → List ℕ → Line → Result (Plan × Ranges) TransferError
textures_planned s ts l = decided (index_checks ts (word_of l 1) ts (word_of l 7)) (named_textures s ts l)

-- by the line's kind
unfoldable pub line_planned : List ℕ → List ℕ → List ℕ → Device → Line → Result (Plan × Ranges) TransferError
line_planned s ts bs device l =
    pick (eqb (value_of l 0) 1) (buffers_planned s bs device l) $
    pick (eqb (value_of l 0) 4) (textures_planned s ts l) $
    pick (eqb (value_of l 0) 5) (memory_planned s ts device l) $
    copy_planned s ts bs device l
