-- The W3C WebGPU specification's own rules on copies, as they were restated from it, apart from the planner's definitions. Section
-- titles are the specification's. Its numbers are unbounded: nothing wraps. That textures and buffers are valid is left to the records'
-- bounds.
use Rattle.std.specs.Prelude.{◌≡◌, Bool, true, false, cond, List, [], ◌∷◌, ◌⊎◌, ℕ, ◌+◌, ◌-◌, ◌*◌, ◌/◌, ◌%◌, ◌^◌, ◌≤◌, ◌<◌, max, eqb, Option, Some, None}
use Rattle.measures.specs.declared.Extent3d.{Extent3d}
use Rattle.mip_levels.specs.declared.TextureDimension.{TextureDimension}
use Rattle.mip_levels.specs.declared.TextureDimension.TheVariants.{D1, D2, D3}
use Rattle.formats.specs.declared.TextureAspect.{TextureAspect}
use Rattle.records.specs.declared.Buffer.{Buffer}
use Rattle.records.specs.declared.Texture.{Texture}
use Rattle.records.specs.declared.TexelCopyTextureInfo.{TexelCopyTextureInfo}
use Rattle.records.specs.declared.TexelCopyBufferLayout.{TexelCopyBufferLayout}
use Rattle.claim_webgpu_rules.specs.Formats.{Aspect, Part, format_of, is_depth_or_stencil, named, dimension_of, copy_compatible}

-- ---- usages: a flag, a power of two, is set in a word

abbrev pub Has : ℕ → ℕ → Type 0
Has word flag = word / flag % 2 ≡ 1

abbrev pub BUFFER_COPY_SRC : ℕ
BUFFER_COPY_SRC = 4

abbrev pub BUFFER_COPY_DST : ℕ
BUFFER_COPY_DST = 8

abbrev pub TEXTURE_COPY_SRC : ℕ
TEXTURE_COPY_SRC = 1

abbrev pub TEXTURE_COPY_DST : ℕ
TEXTURE_COPY_DST = 2

-- ---- "logical miplevel-specific texture extent", "physical miplevel-specific texture extent"

abbrev pub half_at : ℕ → ℕ → ℕ
half_at base level = max 1 (base / 2 ^ level)

abbrev pub extent : ℕ → ℕ → ℕ → Extent3d
extent width height depth = record { width = record { 0 = width }; height = record { 0 = height }; depth_or_array_layers = depth }

unfoldable pub logical_size : TextureDimension → Extent3d → ℕ → Extent3d
logical_size D1 e level = extent (half_at e.width.0 level) 1 1
logical_size D2 e level = extent (half_at e.width.0 level) (half_at e.height.0 level) e.depth_or_array_layers
logical_size D3 e level = extent (half_at e.width.0 level) (half_at e.height.0 level) (half_at e.depth_or_array_layers level)

-- a side rounded up to the texel block: as it is where it is a multiple, else the next one
unfoldable pub to_block : ℕ → ℕ → ℕ
to_block n block = cond (eqb (n % block) 0) n ((n / block + 1) * block)

unfoldable pub physical_subresource_size : Texture → ℕ → Extent3d
physical_subresource_size t level =
    let e = logical_size (dimension_of t.dimension) t.size level in
    let f = format_of t.format in
    extent (to_block e.width.0 f.block_width_of) (to_block e.height.0 f.block_height_of) e.depth_or_array_layers

-- ---- "maximum mip level count": floor(log2(n)) + 1 of the largest side that counts; 1 in 1D

abbrev pub mip_side : TextureDimension → Extent3d → ℕ
mip_side D1 e = 1
mip_side D2 e = max e.width.0 e.height.0
mip_side D3 e = max (max e.width.0 e.height.0) e.depth_or_array_layers

pub record MaxMipLevelCount (dimension : TextureDimension) (e : Extent3d) (count : ℕ) : Type 0 where
  pub some : 0 < count
  pub reached : 2 ^ (count - 1) ≤ mip_side dimension e
  pub last : mip_side dimension e < 2 ^ count

-- ---- "validating texture copy range"

pub record TextureCopyRange (t : Texture) (view : TexelCopyTextureInfo) (copySize : Extent3d) : Type 0 where
  pub x : view.origin.x.0 + copySize.width.0 ≤ (physical_subresource_size t view.mip_level).width.0
  pub y : view.origin.y.0 + copySize.height.0 ≤ (physical_subresource_size t view.mip_level).height.0
  pub z : view.origin.z + copySize.depth_or_array_layers ≤ (physical_subresource_size t view.mip_level).depth_or_array_layers
  pub width : copySize.width.0 % (format_of t.format).block_width_of ≡ 0
  pub height : copySize.height.0 % (format_of t.format).block_height_of ≡ 0

-- ---- "validating GPUTexelCopyTextureInfo"

abbrev pub CopiedWhole : Texture → Type 0
CopiedWhole t = (is_depth_or_stencil t.format ≡ true) ⊎ (1 < t.sample_count)

-- two readings of "the physical subresource size equals the copy size": with the layers, or of one layer, its width and height
pub data Reading : Type 0 where
  WithLayers OneLayer : Reading

abbrev pub IsWhole : Reading → Extent3d → Extent3d → Type 0
IsWhole WithLayers size copySize = size ≡ copySize
IsWhole OneLayer size copySize = (size.width.0 ≡ copySize.width.0) × (size.height.0 ≡ copySize.height.0)

pub record TexelCopyTexture (reading : Reading) (t : Texture) (view : TexelCopyTextureInfo) (copySize : Extent3d) : Type 0 where
  pub level : view.mip_level < t.mip_level_count
  pub x_aligned : view.origin.x.0 % (format_of t.format).block_width_of ≡ 0
  pub y_aligned : view.origin.y.0 % (format_of t.format).block_height_of ≡ 0
  pub whole : CopiedWhole t → IsWhole reading (physical_subresource_size t view.mip_level) copySize
  pub range : TextureCopyRange t view copySize

-- ---- "validating linear texture data"

-- an absent value counts as 0
abbrev pub or_zero : Option ℕ → ℕ
or_zero (Some n) = n
or_zero None = 0

abbrev pub IsGiven : Option ℕ → Type 0
IsGiven (Some n) = Unit {0}
IsGiven None = ⊥

-- where given, at least n
abbrev pub AtLeast : Option ℕ → ℕ → Type 0
AtLeast (Some m) n = n ≤ m
AtLeast None n = Unit {0}

-- of a copy that is this many blocks wide and high, with the block's bytes
module _ (layout : TexelCopyBufferLayout) (widthInBlocks heightInBlocks block_bytes depth : ℕ) where
  abbrev pub bytes_in_last_row : ℕ
  bytes_in_last_row = widthInBlocks * block_bytes

  unfoldable pub required_bytes_in_copy : ℕ
  required_bytes_in_copy =
      cond (eqb depth 0) 0
      (or_zero layout.bytes_per_row * or_zero layout.rows_per_image * (depth - 1)
      + cond (eqb heightInBlocks 0) 0 (or_zero layout.bytes_per_row * (heightInBlocks - 1) + bytes_in_last_row))

  pub record LinearTextureData (byte_size : ℕ) : Type 0 where
    pub rows_given : 1 < heightInBlocks → IsGiven layout.bytes_per_row
    pub images_given : 1 < depth → IsGiven layout.bytes_per_row × IsGiven layout.rows_per_image
    pub row_fits : AtLeast layout.bytes_per_row bytes_in_last_row
    pub image_fits : AtLeast layout.rows_per_image heightInBlocks
    pub inside : layout.offset + required_bytes_in_copy ≤ byte_size

-- ---- "validating texture buffer copy", "validating GPUTexelCopyBufferInfo"

-- the aspects that a copy with a buffer, or from memory, takes: of a depth-or-stencil format those that the view names; of any other the rule does not
-- look at the view's aspect
unfoldable pub taken : ℕ → TextureAspect → List Part
taken format asked = cond (is_depth_or_stencil format) (named (format_of format) asked) (format_of format).parts

-- exactly one aspect, and it may be the copy's source, or its destination; `reads` where the texture is the source
abbrev pub valid_one : Bool → List Part → Bool
valid_one reads [] = false
valid_one reads (p ∷ []) = cond reads p.source p.destination
valid_one reads (p ∷ q ∷ ps) = false

-- the bytes of a block of one aspect ("aspect-specific format")
abbrev pub bytes_of_one : List Part → ℕ
bytes_of_one [] = 0
bytes_of_one (p ∷ []) = p.bytes
bytes_of_one (p ∷ q ∷ ps) = 0

unfoldable pub block_bytes : ℕ → TextureAspect → ℕ
block_bytes format asked = bytes_of_one (taken format asked)

-- the offset is a multiple of 4 for depth-or-stencil, else of the block's bytes; bytes per row, where given, of 256
pub record AlignedLayout (format : ℕ) (aspect : TextureAspect) (layout : TexelCopyBufferLayout) : Type 0 where
  pub depth_stencil : is_depth_or_stencil format ≡ true → layout.offset % 4 ≡ 0
  pub other : is_depth_or_stencil format ≡ false → layout.offset % block_bytes format aspect ≡ 0
  pub row : (n : ℕ) → layout.bytes_per_row ≡ Some n → n % 256 ≡ 0

pub record TextureBufferCopy (reads aligned : Bool) (t : Texture) (aspect : TextureAspect) (layout : TexelCopyBufferLayout) : Type 0 where
  pub one_sample : t.sample_count ≡ 1
  pub allowed : valid_one reads (taken t.format aspect) ≡ true
  pub layout_aligned : aligned ≡ true → AlignedLayout t.format aspect layout

-- ---- "validating texture buffer copy" as a whole, "copyBufferToTexture()", "copyTextureToBuffer()", "writeTexture()"

-- linear texture data of a copy's box, in whole blocks of the format
abbrev pub LinearBox : Texture → TextureAspect → TexelCopyBufferLayout → Extent3d → ℕ → Type 0
LinearBox t aspect layout copySize byte_size =
    LinearTextureData layout (copySize.width.0 / (format_of t.format).block_width_of) (copySize.height.0 / (format_of t.format).block_height_of)
    (block_bytes t.format aspect) copySize.depth_or_array_layers byte_size

-- `reads` where the texture is read: texture to buffer; `aligned` where the offset and the bytes per row are held to multiples
pub record CopyTexels (reading : Reading) (reads aligned : Bool) (dataLength : ℕ) (layout : TexelCopyBufferLayout) (t : Texture) (view : TexelCopyTextureInfo) (copySize : Extent3d) : Type 0 where
  pub texture_usage : Has t.usage.0 (cond reads TEXTURE_COPY_SRC TEXTURE_COPY_DST)
  pub view_valid : TexelCopyTexture reading t view copySize
  pub suits : TextureBufferCopy reads aligned t view.aspect layout
  pub linear : LinearBox t view.aspect layout copySize dataLength

-- with a buffer, which has its own usage
pub record CopyBufferTexture (reading : Reading) (reads : Bool) (b : Buffer) (layout : TexelCopyBufferLayout) (t : Texture) (view : TexelCopyTextureInfo) (copySize : Extent3d) : Type 0 where
  pub buffer_usage : Has b.usage.0 (cond reads BUFFER_COPY_DST BUFFER_COPY_SRC)
  pub texels : CopyTexels reading reads true b.size layout t view copySize

-- from data in memory, of which only the length is looked at, not aligned
abbrev pub WriteTexture : Reading → ℕ → TexelCopyBufferLayout → Texture → TexelCopyTextureInfo → Extent3d → Type 0
WriteTexture reading dataLength layout t view copySize = CopyTexels reading false false dataLength layout t view copySize

-- ---- "copyBufferToBuffer()"

-- an absent size is what is left of the source
abbrev pub copy_size_of : Buffer → ℕ → Option ℕ → ℕ
copy_size_of src offset (Some n) = n
copy_size_of src offset None = src.size - offset

pub record CopyBufferToBuffer (same : Bool) (src dst : Buffer) (srcOffset dstOffset size : ℕ) : Type 0 where
  pub different : same ≡ false
  pub src_usage : Has src.usage.0 BUFFER_COPY_SRC
  pub dst_usage : Has dst.usage.0 BUFFER_COPY_DST
  pub size_aligned : size % 4 ≡ 0
  pub src_aligned : srcOffset % 4 ≡ 0
  pub dst_aligned : dstOffset % 4 ≡ 0
  pub src_inside : srcOffset + size ≤ src.size
  pub dst_inside : dstOffset + size ≤ dst.size

-- ---- "set of subresources for texture copy"

pub record Subresource : Type 0 where
  pub level : ℕ
  pub aspect : Aspect
  pub layer : ℕ

-- the level is one subresource in 1D and 3D; in 2D each layer from z up to z + depth is one
abbrev pub LayerOf : TextureDimension → ℕ → ℕ → ℕ → Type 0
LayerOf D1 z depth layer = layer ≡ 0
LayerOf D2 z depth layer = (z ≤ layer) × (layer < z + depth)
LayerOf D3 z depth layer = layer ≡ 0

abbrev pub Among : Aspect → List Part → Type 0
Among a [] = ⊥
Among a (p ∷ ps) = (p.aspect ≡ a) ⊎ Among a ps

pub record InSet (t : Texture) (view : TexelCopyTextureInfo) (copySize : Extent3d) (s : Subresource) : Type 0 where
  pub level : s.level ≡ view.mip_level
  pub aspect : Among s.aspect (named (format_of t.format) view.aspect)
  pub layer : LayerOf (dimension_of t.dimension) view.origin.z copySize.depth_or_array_layers s.layer

abbrev pub Disjoint : Texture → TexelCopyTextureInfo → TexelCopyTextureInfo → Extent3d → Type 0
Disjoint t src dst copySize = (s : Subresource) → InSet t src copySize s → InSet t dst copySize s → ⊥

-- ---- "copyTextureToTexture()"

-- all aspects of the format are named; asked of every format, as the conformance tests do
abbrev pub NamesAll : ℕ → TextureAspect → Type 0
NamesAll format aspect = named (format_of format) aspect ≡ (format_of format).parts

-- every rule but the last
pub record TextureCopyRules (reading : Reading) (src dst : Texture) (from to : TexelCopyTextureInfo) (copySize : Extent3d) : Type 0 where
  pub src_valid : TexelCopyTexture reading src from copySize
  pub dst_valid : TexelCopyTexture reading dst to copySize
  pub src_usage : Has src.usage.0 TEXTURE_COPY_SRC
  pub dst_usage : Has dst.usage.0 TEXTURE_COPY_DST
  pub samples : src.sample_count ≡ dst.sample_count
  pub compatible : copy_compatible src.format dst.format ≡ true
  pub src_aspects : NamesAll src.format from.aspect
  pub dst_aspects : NamesAll dst.format to.aspect

-- the last: the two sets of subresources are disjoint; `same` where both are one texture, whose record is the source's
pub record CopyTextureToTexture (reading : Reading) (same : Bool) (src dst : Texture) (from to : TexelCopyTextureInfo) (copySize : Extent3d) : Type 0 where
  pub rules : TextureCopyRules reading src dst from to copySize
  pub disjoint : same ≡ true → Disjoint src from to copySize
