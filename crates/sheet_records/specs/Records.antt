-- Records and figures from a line's values. A value is a number below 2 ^ 64; one that a field of 32 bits holds is below 2 ^ 32.
-- One that is absent is no number, and is read as the last number of 64 bits where a number is asked for; past the last field 0 is read.
use Rattle.std.specs.Prelude.{option_map, ℕ, ◌+◌, ◌-◌, ◌%◌, ◌^◌, Some, None, unwrap_or, eqb, get_or, Option}
use Rattle.measures.specs.declared.Extent3d.{Extent3d}
use Rattle.measures.specs.declared.Origin3d.{Origin3d}
use Rattle.measures.specs.Measure.{texels}
use Rattle.formats.specs.Aspects.{aspect_of}
use Rattle.records.specs.declared.Buffer.{Buffer}
use Rattle.records.specs.declared.Device.{Device}
use Rattle.records.specs.declared.Texture.{Texture}
use Rattle.records.specs.declared.TexelCopyTextureInfo.{TexelCopyTextureInfo}
use Rattle.records.specs.declared.TexelCopyBufferLayout.{TexelCopyBufferLayout}
use Rattle.sheet_fields.specs.declared.Line.{Line}

unfoldable pub value_of : Line → ℕ → ℕ
value_of l i = unwrap_or (get_or l.values i (Some 0)) (2 ^ 64 - 1)

unfoldable pub word_of : Line → ℕ → ℕ
word_of l i = value_of l i % 2 ^ 32

unfoldable pub word_or_absent : Line → ℕ → Option ℕ
word_or_absent l i = option_map (λ value. value % 2 ^ 32) (get_or l.values i None)

unfoldable pub size_of : Line → Option ℕ
size_of l = get_or l.values 5 None

unfoldable pub extent_of : Line → ℕ → Extent3d
extent_of l i = record { width = texels (word_of l i); height = texels (word_of l (i + 1)); depth_or_array_layers = word_of l (i + 2) }

unfoldable pub origin_of : Line → ℕ → Origin3d
origin_of l i = record { x = texels (word_of l i); y = texels (word_of l (i + 1)); z = word_of l (i + 2) }

-- ---- records

unfoldable pub device_of : Line → Device
device_of l =
    record { depth_texture_and_buffer_copies = eqb (value_of l 0) 1; unrestricted_index_buffer = eqb (value_of l 1) 1 }

-- format, dimension, width, height, depth or layers, levels, samples, usage
unfoldable pub texture_of : Line → Texture
texture_of l =
    record {
      format = word_of l 0;
      dimension = word_of l 1;
      size = extent_of l 2;
      mip_level_count = word_of l 5;
      sample_count = word_of l 6;
      usage = record { 0 = word_of l 7 };
    }

-- size, usage
unfoldable pub buffer_of : Line → Buffer
buffer_of l = record { size = value_of l 0; usage = record { 0 = word_of l 1 } }

-- ---- figures of a copy

-- level, x, y, z, aspect
unfoldable pub view_of : Line → ℕ → TexelCopyTextureInfo
view_of l i = record { mip_level = word_of l i; origin = origin_of l (i + 1); aspect = aspect_of (value_of l (i + 4)) }

-- offset, bytes, rows
unfoldable pub layout_of : Line → TexelCopyBufferLayout
layout_of l = record { offset = value_of l 2; bytes_per_row = word_or_absent l 3; rows_per_image = word_or_absent l 4 }
