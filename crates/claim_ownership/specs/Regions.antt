-- What a region of a copy between a buffer, or memory, and a texture means, from document 01's module 8, for blocks of any size.
use Rattle.std.specs.Prelude.{◌≡◌, ℕ, ◌+◌, ◌-◌, ◌*◌, ◌/◌, ◌≤◌, ◌<◌, Option, Some, None}
use Rattle.plan_buffer_texture.specs.declared.BufferTextureCopy.{BufferTextureCopy}

-- where a block starts in a texture
pub record Place : Type 0 where
  pub level : ℕ
  pub aspects : ℕ
  pub layer : ℕ
  pub x : ℕ
  pub y : ℕ
  pub z : ℕ

abbrev pub Within : ℕ → ℕ → ℕ → Type 0
Within at from size = (from ≤ at) × (at < from + size)

-- a region names the blocks of its level, aspect bits and layer that start in its x, y, z, w, h, d
pub record Names (r : BufferTextureCopy) (p : Place) : Type 0 where
  pub level : p.level ≡ r.base.mip_level
  pub aspects : p.aspects ≡ r.base.aspect.0
  pub layer : p.layer ≡ r.base.array_layer
  pub x : Within p.x r.base.origin.x.0 r.size.width.0
  pub y : Within p.y r.base.origin.y.0 r.size.height.0
  pub z : Within p.z r.base.origin.z r.size.depth

-- an absent value counts as the dense one
unfoldable pub or_dense : Option ℕ → ℕ → ℕ
or_dense (Some n) dense = n
or_dense None dense = dense

-- the byte at which a region puts the block at a place: module 4's formula, i, j, k from its own start, with its offset, bytes and
-- rows
unfoldable pub puts : (block_width_of block_height_of block_bytes : ℕ) → BufferTextureCopy → Place → ℕ
puts block_width_of block_height_of block_bytes r p =
    let row = or_dense r.bytes_per_row (r.size.width.0 / block_width_of * block_bytes) in
    let image = or_dense r.rows_per_image (r.size.height.0 / block_height_of) * row in
    r.offset
    + (p.z - r.base.origin.z) * image
    + (p.y - r.base.origin.y.0) / block_height_of * row
    + (p.x - r.base.origin.x.0) / block_width_of * block_bytes
