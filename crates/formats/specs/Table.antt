-- The texture formats: a row each, and what follows from a row.
use Rattle.std.specs.Prelude.{ℕ, ◌-◌, Bool, true, false, ◌&&◌, List, [], ◌∷◌, eqb, leb, ltb, get_or, length}
use Rattle.std.specs.Int.Bits.{bit_or}
use Rattle.conditions.specs.Conditions.{pick}
use Rattle.flags.specs.FormatAspects.{COLOR, DEPTH, STENCIL, DEPTH_STENCIL, PLANE_0, PLANE_1}
use Rattle.measures.specs.declared.BlockDimensions.{BlockDimensions}
use Rattle.measures.specs.Measure.{texels}
use Rattle.formats.specs.declared.FormatRow.{FormatRow}

-- the bytes of a block where an aspect has none that can be copied, or is not there
abbrev pub none : ℕ
none = 0

-- both planes
abbrev pub PLANES : ℕ
PLANES = bit_or PLANE_0 PLANE_1

-- whether a row is the srgb of the row before it
abbrev pub linear : Bool
linear = false

abbrev pub srgb : Bool
srgb = true

-- a colour format: its block's width, height and bytes
abbrev pub color : ℕ → ℕ → ℕ → Bool → FormatRow
color width height bytes s =
    record {
      block_width = width;
      block_height = height;
      srgb = s;
      aspects = record { 0 = COLOR };
      color = bytes;
      depth = none;
      stencil = none;
      plane_0 = none;
      plane_1 = none;
    }

-- a depth-stencil format: its aspects, and the bytes of each
abbrev pub depth_stencil : ℕ → ℕ → ℕ → FormatRow
depth_stencil aspects depth stencil =
    record {
      block_width = 1;
      block_height = 1;
      srgb = linear;
      aspects = record { 0 = aspects };
      color = none;
      depth = depth;
      stencil = stencil;
      plane_0 = none;
      plane_1 = none;
    }

-- a format of two planes: its aspects, and the bytes of each plane
abbrev pub planar : ℕ → ℕ → ℕ → FormatRow
planar aspects plane0 plane1 =
    record {
      block_width = 1;
      block_height = 1;
      srgb = linear;
      aspects = record { 0 = aspects };
      color = none;
      depth = none;
      stencil = none;
      plane_0 = plane0;
      plane_1 = plane1;
    }

unfoldable pub formats : List FormatRow
formats =
    color 1 1 1 linear  -- 0 r8unorm
    ∷ color 1 1 2 linear  -- 1 rg8unorm
    ∷ color 1 1 4 linear  -- 2 rgba8unorm
    ∷ color 1 1 4 srgb  -- 3 rgba8unorm-srgb
    ∷ color 1 1 4 linear  -- 4 bgra8unorm
    ∷ color 1 1 4 srgb  -- 5 bgra8unorm-srgb
    ∷ color 1 1 2 linear  -- 6 r16float
    ∷ color 1 1 8 linear  -- 7 rgba16float
    ∷ color 1 1 4 linear  -- 8 r32float
    ∷ color 1 1 8 linear  -- 9 rg32float
    ∷ color 1 1 16 linear  -- 10 rgba32float
    ∷ color 4 4 8 linear  -- 11 bc1-rgba-unorm
    ∷ color 4 4 8 srgb  -- 12 bc1-rgba-unorm-srgb
    ∷ color 4 4 16 linear  -- 13 bc7-rgba-unorm
    ∷ color 4 4 16 srgb  -- 14 bc7-rgba-unorm-srgb
    ∷ depth_stencil STENCIL none 1  -- 15 stencil8
    ∷ depth_stencil DEPTH 2 none  -- 16 depth16unorm
    ∷ depth_stencil DEPTH none none  -- 17 depth24plus
    ∷ depth_stencil DEPTH_STENCIL none 1  -- 18 depth24plus-stencil8
    ∷ depth_stencil DEPTH 4 none  -- 19 depth32float
    ∷ depth_stencil DEPTH_STENCIL 4 1  -- 20 depth32float-stencil8
    ∷ planar PLANES 1 2  -- 21 NV12
    ∷ []

-- a number past the table names a format with no aspects
abbrev pub unknown : FormatRow
unknown = planar 0 none none

unfoldable pub format_row : ℕ → FormatRow
format_row format = get_or formats format unknown

-- the number names a format of the table
unfoldable pub is_format : ℕ → Bool
is_format format = ltb format (length formats)

-- the sides of a block
abbrev pub block_of : FormatRow → BlockDimensions
block_of r = record { width = texels r.block_width; height = texels r.block_height }

unfoldable pub block_dimensions : ℕ → BlockDimensions
block_dimensions format = block_of (format_row format)

abbrev pub block_width_of : ℕ → ℕ
block_width_of format = (block_dimensions format).width.0

abbrev pub block_height_of : ℕ → ℕ
block_height_of format = (block_dimensions format).height.0

-- the bits of the aspects that a format has
unfoldable pub aspects_of : ℕ → ℕ
aspects_of format = (format_row format).aspects.0

-- formats 15 to 20
unfoldable pub is_depth_stencil : ℕ → Bool
is_depth_stencil format = leb 15 format && leb format 20

-- a format with both depth and stencil
unfoldable pub is_combined_depth_stencil : ℕ → Bool
is_combined_depth_stencil format = eqb (aspects_of format) DEPTH_STENCIL

-- the format of which this one is the srgb, else this one
unfoldable pub remove_srgb : ℕ → ℕ
remove_srgb format = pick (format_row format).srgb (format - 1) format

-- formats that rules name
abbrev pub depth24plus : ℕ
depth24plus = 17

abbrev pub depth24plus_stencil8 : ℕ
depth24plus_stencil8 = 18

abbrev pub depth32float : ℕ
depth32float = 19

abbrev pub depth32float_stencil8 : ℕ
depth32float_stencil8 = 20

-- NV12
unfoldable pub is_multi_planar : ℕ → Bool
is_multi_planar format = eqb format 21
