-- The bounds of the buffer and texture records.
use Rattle.std.specs.Prelude.{ℕ, max, Bool, not, ◌&&◌, ◌||◌, eqb, leb}
use mathlib.Core.List.{[], ◌∷◌, flatten}
use Rattle.conditions.specs.Conditions.{every}
use Rattle.measures.specs.declared.Extent3d.{Extent3d}
use Rattle.measures.specs.Measure.{multiple}
use Rattle.mip_levels.specs.declared.TextureDimension.{TextureDimension}
use Rattle.mip_levels.specs.declared.TextureDimension.TheVariants.{D1, D2, D3}
use Rattle.mip_levels.specs.Level.{texture_dimension, max_mip_levels}
use Rattle.formats.specs.Table.{is_format, is_multi_planar, block_width_of, block_height_of}
use Rattle.refusals.specs.declared.CopySide.{CopySide}
use Rattle.refusals.specs.declared.CopySide.TheVariants.{Source, Destination}
use Rattle.refusals.specs.declared.TransferError.TheVariants.{InvalidBufferRecord, InvalidTextureRecord}
use Rattle.refusals.specs.Order.{Checks, refuse_if}
use Rattle.records.specs.declared.Buffer.{Buffer}
use Rattle.records.specs.declared.Texture.{Texture}
use Rattle.records.specs.Limits.{max_buffer_size, max_buffer_usage, max_texture_usage, max_side, max_side3d, max_layers}

-- n is at least one number and at most another
unfoldable pub within : ℕ → ℕ → ℕ → Bool
within least n most = leb least n && leb n most

-- size 0 to 268,435,456, usage 0 to 1,023
unfoldable pub buffer_in_bounds : Buffer → Bool
buffer_in_bounds b = leb b.size max_buffer_size && leb b.usage.0 max_buffer_usage

-- 1D: width 1 to 8,192, others 1. 2D: sides 1 to 8,192, layers 1 to 256. 3D: sides 1 to 2,048.
unfoldable pub size_in_bounds : TextureDimension → Extent3d → Bool
size_in_bounds D1 e = every (within 1 e.width.0 max_side ∷ eqb e.height.0 1 ∷ eqb e.depth_or_array_layers 1 ∷ [])
size_in_bounds D2 e = every (within 1 e.width.0 max_side ∷ within 1 e.height.0 max_side ∷ within 1 e.depth_or_array_layers max_layers ∷ [])
size_in_bounds D3 e = every (within 1 e.width.0 max_side3d ∷ within 1 e.height.0 max_side3d ∷ within 1 e.depth_or_array_layers max_side3d ∷ [])

-- the side that is halved from level to level: the largest, depth for 3D only; 1D has one level, as a side of 1 has
unfoldable pub mip_side : TextureDimension → Extent3d → ℕ
mip_side D1 e = 1
mip_side D2 e = max e.width.0 e.height.0
mip_side D3 e = max (max e.width.0 e.height.0) e.depth_or_array_layers

-- levels: 1 up to the halvings that bring the largest side to 1, plus one
unfoldable pub levels_in_bounds : TextureDimension → Extent3d → ℕ → Bool
levels_in_bounds dimension e levels = within 1 levels (max_mip_levels (mip_side dimension e))

-- formats 0 to 10 or 15 to 20
unfoldable pub may_be_multisampled : ℕ → Bool
may_be_multisampled format = leb format 10 || within 15 format 20

-- four need 2D, one layer, one level, and a format that may have them
abbrev pub four_samples : Texture → Bool
four_samples t =
    every
    (eqb t.sample_count 4
    ∷ eqb t.dimension 2
    ∷ eqb t.size.depth_or_array_layers 1
    ∷ eqb t.mip_level_count 1
    ∷ may_be_multisampled t.format
    ∷ [])

-- one sample, or four
unfoldable pub samples_in_bounds : Texture → Bool
samples_in_bounds t = eqb t.sample_count 1 || four_samples t

-- 11 to 21 are 2D only
unfoldable pub dimension_suits : ℕ → ℕ → Bool
dimension_suits format dimension = leb format 10 || eqb dimension 2

-- sides are whole blocks: for 11 to 14 divisible by 4
unfoldable pub sides_whole : ℕ → Extent3d → Bool
sides_whole format e = multiple e.width.0 (block_width_of format) && multiple e.height.0 (block_height_of format)

abbrev pub even_sides : Texture → Bool
even_sides t = every (multiple t.size.width.0 2 ∷ multiple t.size.height.0 2 ∷ eqb t.mip_level_count 1 ∷ [])

-- planes need even sides and one level
unfoldable pub planes_suit : Texture → Bool
planes_suit t = not (is_multi_planar t.format) || even_sides t

-- each field by itself
unfoldable pub fields_in_bounds : Texture → Bool
fields_in_bounds t =
    every
    (is_format t.format
    ∷ within 1 t.dimension 3
    ∷ size_in_bounds (texture_dimension t.dimension) t.size
    ∷ levels_in_bounds (texture_dimension t.dimension) t.size t.mip_level_count
    ∷ leb t.usage.0 max_texture_usage
    ∷ [])

-- what a format asks of the other fields
unfoldable pub format_suits : Texture → Bool
format_suits t = every (dimension_suits t.format t.dimension ∷ sides_whole t.format t.size ∷ planes_suit t ∷ [])

unfoldable pub texture_in_bounds : Texture → Bool
texture_in_bounds t = every (fields_in_bounds t ∷ samples_in_bounds t ∷ format_suits t ∷ [])

unfoldable pub buffer_checks : Buffer → CopySide → Checks
buffer_checks b side = refuse_if (not (buffer_in_bounds b)) (InvalidBufferRecord side) ∷ []  -- 3

unfoldable pub texture_checks : Texture → CopySide → Checks
texture_checks t side = refuse_if (not (texture_in_bounds t)) (InvalidTextureRecord side) ∷ []  -- 2

-- those of a copy between textures
unfoldable pub both_texture_checks : Texture → Texture → Checks
both_texture_checks src dst =
    flatten (texture_checks src Source)  -- 2
    ∷ flatten (texture_checks dst Destination)  -- 2
    ∷ []
