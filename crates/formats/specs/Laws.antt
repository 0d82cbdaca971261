-- What every row of the table keeps to, and every number past it.
use Rattle.std.specs.Prelude.{◌≡◌, ℕ, ◌≤◌, ◌<◌, Some}
use Rattle.formats.specs.declared.TextureAspect.{TextureAspect}
use Rattle.formats.specs.Table.{block_width_of, block_height_of}
use Rattle.formats.specs.Aspects.{block_copy_size}

-- the largest block side and the most bytes of a block that a format may have
abbrev pub max_block_side : ℕ
max_block_side = 12

abbrev pub max_block_bytes : ℕ
max_block_bytes = 16

pub record FormatLaws (format : ℕ) : Type 0 where
  pub width_some : 0 < block_width_of format
  pub width_few : block_width_of format ≤ max_block_side
  pub height_some : 0 < block_height_of format
  pub height_few : block_height_of format ≤ max_block_side
  -- where a block has bytes, it has between 1 and 16
  pub bytes_some : (asked : TextureAspect) (n : ℕ) → block_copy_size format asked ≡ Some n → 0 < n
  pub bytes_few : (asked : TextureAspect) (n : ℕ) → block_copy_size format asked ≡ Some n → n ≤ max_block_bytes

abbrev pub EveryFormat : Type 0
EveryFormat = (format : ℕ) → FormatLaws format
