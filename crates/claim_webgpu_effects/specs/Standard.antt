-- What an accepted copy does, by the W3C WebGPU specification: "texel copy sub-region", "texel block byte offset" and
-- "copyTextureToTexture()". Nothing else of the destination changes. Numbers are unbounded.
use Rattle.std.specs.Prelude.{◌≡◌, ℕ, ◌+◌, ◌*◌, ◌/◌, ◌<◌}
use Rattle.mip_levels.specs.declared.TextureDimension.{TextureDimension}
use Rattle.mip_levels.specs.declared.TextureDimension.TheVariants.{D1, D2, D3}
use Rattle.records.specs.declared.Texture.{Texture}
use Rattle.records.specs.declared.TexelCopyTextureInfo.{TexelCopyTextureInfo}
use Rattle.claim_webgpu_rules.specs.Formats.{Aspect, Part, format_of, named, dimension_of}
use Rattle.claim_webgpu_rules.specs.WebGpu.{or_zero}
use Rattle.copy_buffer_texture.specs.Copy.{Copy}
use Rattle.claim_texture_regions.specs.Regions as T
use Rattle.claim_webgpu_effects.specs.Blocks.{TexelBlock, In}

-- image n of a texture is array layer n of a 2D one, depth slice n of another
abbrev pub layer_of : TextureDimension → ℕ → ℕ
layer_of D1 n = 0
layer_of D2 n = n
layer_of D3 n = 0

abbrev pub slice_of : TextureDimension → ℕ → ℕ
slice_of D1 n = n
slice_of D2 n = 0
slice_of D3 n = n

-- the block at distance (i, j), in whole blocks, from the view's origin, in image k of the copy
abbrev pub block_at : Texture → TexelCopyTextureInfo → Aspect → ℕ → ℕ → ℕ → TexelBlock
block_at t view aspect i j k =
    record {
      level = view.mip_level;
      aspect = aspect;
      layer = layer_of (dimension_of t.dimension) (view.origin.z + k);
      slice = slice_of (dimension_of t.dimension) (view.origin.z + k);
      x = view.origin.x.0 + i * (format_of t.format).block_width_of;
      y = view.origin.y.0 + j * (format_of t.format).block_height_of;
    }

-- ---- between a buffer, or memory ("writeTexture()"), and a texture

-- the block stands at the byte: of an aspect that the view names, in column i and row j of image k
pub record Stands (c : Copy) (b : TexelBlock) (byte : ℕ) : Type 0 where
  pub part : Part
  pub asked : In part (named (format_of c.texture.format) c.view.aspect)
  pub i : ℕ
  pub j : ℕ
  pub k : ℕ
  pub column : i < c.size.width.0 / (format_of c.texture.format).block_width_of
  pub row : j < c.size.height.0 / (format_of c.texture.format).block_height_of
  pub image : k < c.size.depth_or_array_layers
  pub block : b ≡ block_at c.texture c.view part.aspect i j k
  pub at :
      byte
      ≡ c.layout.offset + k * or_zero c.layout.rows_per_image * or_zero c.layout.bytes_per_row + j * or_zero c.layout.bytes_per_row
      + i * part.bytes

-- ---- between textures

-- each block of an image, of each aspect that is named: the destination's in column i and row j becomes the source's there
pub record ImageCopied (c : T.Copy) (source destination : Aspect → ℕ → ℕ → TexelBlock) (from to : TexelBlock) : Type 0 where
  pub part : Part
  pub asked : In part (named (format_of c.dst.texture.format) c.dst.view.aspect)
  pub i : ℕ
  pub j : ℕ
  pub column : i < c.size.width.0 / (format_of c.dst.texture.format).block_width_of
  pub row : j < c.size.height.0 / (format_of c.dst.texture.format).block_height_of
  pub taken : from ≡ source part.aspect i j
  pub written : to ≡ destination part.aspect i j

-- image k of the copy: of either texture, the image at its origin's z + k
abbrev pub CopiesImage : T.Copy → ℕ → TexelBlock → TexelBlock → Type 0
CopiesImage c k =
    ImageCopied c (λ aspect i j. block_at c.src.texture c.src.view aspect i j k)
    (λ aspect i j. block_at c.dst.texture c.dst.view aspect i j k)

-- the destination's block `to` becomes the source's block `from`
abbrev pub Copies : T.Copy → TexelBlock → TexelBlock → Type 0
Copies c from to = (k : ℕ) × (k < c.size.depth_or_array_layers) × CopiesImage c k from to
