-- Texels counted in blocks, of any block size of at least 1.
use Rattle.std.specs.Prelude.{ℕ, ◌+◌, ◌-◌, ◌*◌, ◌/◌, ◌%◌, min, Bool, ◌||◌, eqb, Option, Some, None}
use Rattle.measures.specs.declared.Texels.{Texels}
use Rattle.measures.specs.declared.Blocks.{Blocks}
use Rattle.measures.specs.declared.Extent3d.{Extent3d}
use Rattle.measures.specs.declared.BlockDimensions.{BlockDimensions}
use Rattle.measures.specs.declared.Range.{Range}

-- a value, or another where it is absent
unfoldable pub or_else : Option ℕ → ℕ → ℕ
or_else (Some n) other = n
or_else None other = other

-- n is a multiple of m
unfoldable pub multiple : ℕ → ℕ → Bool
multiple n m = eqb (n % m) 0

-- how many blocks of `size` texels hold n texels: the quotient, rounded up
unfoldable pub blocks_of : ℕ → ℕ → ℕ
blocks_of n size = (n + (size - 1)) / size

-- n texels rounded up to whole blocks
unfoldable pub rounded_up : ℕ → ℕ → ℕ
rounded_up n size = blocks_of n size * size

-- so many texels, so many blocks
abbrev pub texels : ℕ → Texels
texels n = record { 0 = n }

abbrev pub blocks : ℕ → Blocks
blocks n = record { 0 = n }

-- the one conversion of texels into blocks, by a block's side
unfoldable pub in_blocks : Texels → Texels → Blocks
in_blocks n side = blocks (blocks_of n.0 side.0)

unfoldable pub lesser_of : Texels → Texels → Texels
lesser_of n m = texels (min n.0 m.0)

-- texels divided by a factor, rounded down
unfoldable pub divided_by : Texels → ℕ → Texels
divided_by n factor = texels (n.0 / factor)

-- texels rounded up to whole blocks of a side
unfoldable pub round_up : Texels → Texels → Texels
round_up n side = texels (rounded_up n.0 side.0)

-- width and height rounded up to whole blocks, depth or layers as they are
unfoldable pub physical_size : Extent3d → BlockDimensions → Extent3d
physical_size e block =
    record {
      width = round_up e.width block.width;
      height = round_up e.height block.height;
      depth_or_array_layers = e.depth_or_array_layers;
    }

-- from a start on, as many as counted
abbrev pub counted : ℕ → ℕ → Range
counted start count = record { start = start; end = start + count }

-- nothing is copied
unfoldable pub is_empty : Extent3d → Bool
is_empty size = eqb size.width.0 0 || (eqb size.height.0 0 || eqb size.depth_or_array_layers 0)
