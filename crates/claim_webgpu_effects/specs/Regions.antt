-- What a region does, from document 01's modules 4 and 8.
use Rattle.std.specs.Prelude.{◌≡◌, ℕ, ◌+◌, ◌*◌, ◌/◌, ◌%◌, ◌<◌, Option, Some, None}
use Rattle.rule_selectors.specs.declared.TextureCopyBase.{TextureCopyBase}
use Rattle.plan_buffer_texture.specs.declared.BufferTextureCopy.{BufferTextureCopy}
use Rattle.plan_textures.specs.declared.TextureCopy.{TextureCopy}
use Rattle.claim_webgpu_rules.specs.Formats.{Aspect, Color, Depth, Stencil, Part, Format}
use Rattle.claim_webgpu_effects.specs.Blocks.{TexelBlock, OnGrid, In}

-- aspect bits: colour 1, depth 2, stencil 4
abbrev pub bit_of : Aspect → ℕ
bit_of Color = 1
bit_of Depth = 2
bit_of Stencil = 4

abbrev pub Has : TextureCopyBase → Aspect → Type 0
Has base aspect = base.aspect.0 / bit_of aspect % 2 ≡ 1

-- the block at a distance in texels from where a side of a region starts
abbrev pub block_from : TextureCopyBase → Aspect → ℕ → ℕ → ℕ → TexelBlock
block_from base aspect dx dy dz =
    record {
      level = base.mip_level;
      aspect = aspect;
      layer = base.array_layer;
      slice = base.origin.z + dz;
      x = base.origin.x.0 + dx;
      y = base.origin.y.0 + dy;
    }

-- an absent value counts as the dense one
abbrev pub or_dense : Option ℕ → ℕ → ℕ
or_dense (Some n) dense = n
or_dense None dense = dense

-- a region names the blocks of its level, aspect bits and layer that start in its x, y, z, w, h, d, and puts them by module 4's
-- formula, i, j, k from its own start, with its offset, bytes and rows
pub record Puts (f : Format) (r : BufferTextureCopy) (b : TexelBlock) (byte : ℕ) : Type 0 where
  pub part : Part
  pub known : In part f.parts
  pub bits : Has r.base part.aspect
  pub dx : ℕ
  pub dy : ℕ
  pub dz : ℕ
  pub x : dx < r.size.width.0
  pub y : dy < r.size.height.0
  pub z : dz < r.size.depth
  pub block : b ≡ block_from r.base part.aspect dx dy dz
  pub grid : OnGrid f b
  pub at :
      byte
      ≡ (let row = or_dense r.bytes_per_row (r.size.width.0 / f.block_width_of * part.bytes) in
      let image = or_dense r.rows_per_image (r.size.height.0 / f.block_height_of) * row in
      r.offset + dz * image + dy / f.block_height_of * row + dx / f.block_width_of * part.bytes)

-- a region between textures: each block that starts in the destination's box, of each aspect in its bits, becomes the block at the
-- same distance from the source's start
pub record Carries (f : Format) (r : TextureCopy) (from to : TexelBlock) : Type 0 where
  pub aspect : Aspect
  pub src_bits : Has r.src aspect
  pub dst_bits : Has r.dst aspect
  pub dx : ℕ
  pub dy : ℕ
  pub dz : ℕ
  pub x : dx < r.size.width.0
  pub y : dy < r.size.height.0
  pub z : dz < r.size.depth
  pub source : from ≡ block_from r.src aspect dx dy dz
  pub destination : to ≡ block_from r.dst aspect dx dy dz
  pub grid : OnGrid f to
