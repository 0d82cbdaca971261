-- How the planner's tables and rules agree with the standard's. What stands on the planner's side of a claim is what the claim judges;
-- the rest is in the standard's words. Where a rule and the standard's part, the claim says exactly where; docs/DIFFERENCES.md has it.
use Rattle.std.specs.Prelude.{◌≡◌, Bool, true, false, cond, List, [], ◌∷◌, ◌⊎◌, ◌↔◌, ℕ, ◌+◌, ◌*◌, ◌/◌, ◌%◌, ◌^◌, ◌<◌, eqb, Option, Some, None, Result, Ok}
use Rattle.measures.specs.declared.Extent3d.{Extent3d}
use Rattle.mip_levels.specs.declared.TextureDimension.{TextureDimension}
use Rattle.mip_levels.specs.declared.TextureDimension.TheVariants.{D1, D2, D3}
use Rattle.formats.specs.declared.TextureAspect.{TextureAspect}
use Rattle.formats.specs.declared.TextureAspect.TheVariants.{All}
use Rattle.refusals.specs.declared.CopySide.{CopySide}
use Rattle.records.specs.declared.Texture.{Texture}
use Rattle.records.specs.declared.TexelCopyTextureInfo.{TexelCopyTextureInfo}
use Rattle.records.specs.declared.TexelCopyBufferLayout.{TexelCopyBufferLayout}
use Rattle.rule_copy_range.specs.declared.CopyExtent.{CopyExtent}
use Rattle.rule_linear_data.specs.declared.LinearData.{LinearData}
use Rattle.claim_webgpu_rules.specs.Formats.{Aspect, Color, Depth, Stencil, Part, none, Known, format_of, is_depth_or_stencil, named, dimension_of, copy_compatible}
use Rattle.claim_webgpu_rules.specs.WebGpu as W
-- what is judged
use Rattle.mip_levels.specs.Level.{max_mip_levels}
use Rattle.formats.specs.Table.{block_width_of, block_height_of, aspects_of, is_format, is_depth_stencil, remove_srgb}
use Rattle.formats.specs.Aspects.{chosen_aspects, block_copy_size}
use Rattle.records.specs.Bounds.{mip_side}
use Rattle.records.specs.Extents.{logical_extent, physical_extent}
use Rattle.refusals.specs.Order.{checked}
use Rattle.rule_copy_range.specs.Range.{range_checked}
use Rattle.rule_linear_data.specs.Linear.{linear_checked}
use Rattle.rule_formats.specs.Rules.{src_format_checks, dst_format_checks, layout_checks}
use Rattle.rule_selectors.specs.Selector.{same_texture_checks}
use Rattle.refusals.specs.declared.TransferError.{TransferError}

-- ---- the table of formats

-- document 01's bits of aspects
abbrev pub bit : Aspect → ℕ
bit Color = 1
bit Depth = 2
bit Stencil = 4

abbrev pub bits : List Part → ℕ
bits [] = 0
bits (p ∷ ps) = bit p.aspect + bits ps

-- the bytes of a block of one aspect, where it can be copied
abbrev pub footprint : List Part → Option ℕ
footprint ps = cond (eqb (W.bytes_of_one ps) none) None (Some (W.bytes_of_one ps))

pub record Row (format : ℕ) : Type 0 where
  pub width : block_width_of format ≡ (format_of format).block_width_of
  pub height : block_height_of format ≡ (format_of format).block_height_of
  pub depth_or_stencil : is_depth_stencil format ≡ is_depth_or_stencil format
  pub aspects : aspects_of format ≡ bits (format_of format).parts
  pub chosen : (asked : TextureAspect) → chosen_aspects format asked ≡ bits (named (format_of format) asked)
  pub bytes : (asked : TextureAspect) → block_copy_size format asked ≡ footprint (named (format_of format) asked)

-- every row of the planner's table is the standard's, and the one row more is NV12's
pub record FormatTable : Type 0 where
  pub row : (format : ℕ) → Known format → Row format
  pub numbers : (format : ℕ) → (is_format format ≡ true) ↔ (Known format ⊎ (format ≡ 21))

-- ---- extents

abbrev pub LogicalExtents : Type 0
LogicalExtents = (t : Texture) (level : ℕ) → logical_extent t level ≡ W.logical_size (dimension_of t.dimension) t.size level

abbrev pub PhysicalExtents : Type 0
PhysicalExtents = (t : Texture) (level : ℕ) → Known t.format → physical_extent t level ≡ W.physical_subresource_size t level

abbrev pub LevelCounts : Type 0
LevelCounts = (d : TextureDimension) (e : Extent3d) → 0 < W.mip_side d e → W.MaxMipLevelCount d e (max_mip_levels (mip_side d e))

-- ---- the range rule

abbrev pub GoesOn : Result (CopyExtent × ℕ) TransferError → Type 0
GoesOn r = (extent : CopyExtent) × (layers : ℕ) × (r ≡ Ok (extent, layers))

abbrev pub Ranges : Type 0
Ranges =
    (view : TexelCopyTextureInfo) (t : Texture) (side : CopySide) (size : Extent3d) → Known t.format
    → GoesOn (range_checked view t side size) ↔ W.TexelCopyTexture W.OneLayer t view size

-- read with layers, the standard refuses some layers of a texture that is copied whole, and that alone more
abbrev pub SomeLayers : Texture → TexelCopyTextureInfo → Extent3d → Type 0
SomeLayers t view size =
    W.CopiedWhole t × ((W.physical_subresource_size t view.mip_level).depth_or_array_layers ≡ size.depth_or_array_layers → ⊥)

abbrev pub RangesWithLayers : Type 0
RangesWithLayers =
    (view : TexelCopyTextureInfo) (t : Texture) (side : CopySide) (size : Extent3d) → Known t.format
    → (GoesOn (range_checked view t side size) × (SomeLayers t view size → ⊥)) ↔ W.TexelCopyTexture W.WithLayers t view size

-- ---- linear texture data

-- a format of the standard and, of a color format, the aspect "all": the planner has no bytes for an aspect that a format lacks
pub record InStandard (format : ℕ) (aspect : TextureAspect) : Type 0 where
  pub known : Known format
  pub color : is_depth_or_stencil format ≡ false → aspect ≡ All

abbrev pub Fits32 : Option ℕ → Type 0
Fits32 (Some n) = n < 2 ^ 32
Fits32 None = Unit {0}

module _ (layout : TexelCopyBufferLayout) (format : ℕ) (aspect : TextureAspect) (size : Extent3d) (bufferSize : ℕ) where
  abbrev pub wide : ℕ
  wide = size.width.0 / (format_of format).block_width_of

  abbrev pub high : ℕ
  high = size.height.0 / (format_of format).block_height_of

  abbrev pub Standard : Type 0
  Standard = W.LinearTextureData layout wide high (W.block_bytes format aspect) size.depth_or_array_layers bufferSize

  abbrev pub required_bytes : ℕ
  required_bytes = W.required_bytes_in_copy layout wide high (W.block_bytes format aspect) size.depth_or_array_layers

  -- figures as their fields hold them, of whole blocks, whose row and rows are within 32 bits
  pub record Figures : Type 0 where
    pub bytes_field : Fits32 layout.bytes_per_row
    pub rows_field : Fits32 layout.rows_per_image
    pub buffer_field : bufferSize < 2 ^ 64
    pub width_whole : size.width.0 % (format_of format).block_width_of ≡ 0
    pub height_whole : size.height.0 % (format_of format).block_height_of ≡ 0
    pub row_small : wide * W.block_bytes format aspect < 2 ^ 32
    pub rows_small : high < 2 ^ 32

  -- the rule goes on exactly where the standard's holds, and gives the standard's required bytes
  pub record LinearAgreement (side : CopySide) : Type 0 where
    pub holds : (m : LinearData) → linear_checked layout format aspect bufferSize side size ≡ Ok m → Standard × (m.bytes_in_copy ≡ required_bytes)
    pub goes_on : Standard → (m : LinearData) × (linear_checked layout format aspect bufferSize side size ≡ Ok m)

abbrev pub LinearRules : Type 0
LinearRules =
    (layout : TexelCopyBufferLayout) (format : ℕ) (aspect : TextureAspect) (size : Extent3d) (bufferSize : ℕ) (side : CopySide)
    → InStandard format aspect → Figures layout format aspect size bufferSize → LinearAgreement layout format aspect size bufferSize side

-- ---- texture buffer copies

-- the format's rule: `reads` where the texture is the source
abbrev pub format_rule : Bool → ℕ → TextureAspect → Result Unit TransferError
format_rule true format aspect = checked (src_format_checks format aspect)
format_rule false format aspect = checked (dst_format_checks format aspect)

abbrev pub BufferCopies : Type 0
BufferCopies =
    (reads aligned : Bool) (t : Texture) (aspect : TextureAspect) (layout : TexelCopyBufferLayout) → InStandard t.format aspect
    → ((format_rule reads t.format aspect ≡ (Ok tt)) × (checked (layout_checks aspect (bits (named (format_of t.format) aspect)) t layout aligned) ≡ (Ok tt)))
    ↔ W.TextureBufferCopy reads aligned t aspect layout

-- ---- copies within one texture

-- the layers that the rule is handed: 1 in 1D and 3D
abbrev pub layers_of : TextureDimension → ℕ → ℕ
layers_of D1 depth = 1
layers_of D2 depth = depth
layers_of D3 depth = 1

-- in 1D and 3D the standard has one subresource for a level, whatever z is; the Rust compares z
pub record MovesWithin (t : Texture) (src dst : TexelCopyTextureInfo) : Type 0 where
  pub unlayered : dimension_of t.dimension ≡ D2 → ⊥
  pub level : src.mip_level ≡ dst.mip_level
  pub moved : src.origin.z ≡ dst.origin.z → ⊥
  pub shared : (a : Aspect) × W.Among a (named (format_of t.format) src.aspect) × W.Among a (named (format_of t.format) dst.aspect)

module _ (t : Texture) (src dst : TexelCopyTextureInfo) (size : Extent3d) where
  abbrev pub AllowsWithin : Type 0
  AllowsWithin = checked (same_texture_checks src dst t.format (layers_of (dimension_of t.dimension) size.depth_or_array_layers)) ≡ (Ok tt)

-- the rule goes on exactly where the standard's sets are disjoint, and there
abbrev pub SameTexture : Type 0
SameTexture =
    (t : Texture) (src dst : TexelCopyTextureInfo) (size : Extent3d) → Known t.format
    → AllowsWithin t src dst size ↔ (W.Disjoint t src dst size ⊎ MovesWithin t src dst)

-- where they are not
abbrev pub SameTextureParts : Type 0
SameTextureParts =
    (t : Texture) (src dst : TexelCopyTextureInfo) (size : Extent3d) → MovesWithin t src dst → W.Disjoint t src dst size → ⊥

-- ---- formats and aspects of copies between textures

abbrev pub CompatibleFormats : Type 0
CompatibleFormats = (a b : ℕ) → Known a → Known b → eqb (remove_srgb a) (remove_srgb b) ≡ copy_compatible a b

-- all of a format's aspects are chosen exactly where the standard has them all named
abbrev pub AllAspects : Type 0
AllAspects = (format : ℕ) (aspect : TextureAspect) → Known format → (chosen_aspects format aspect ≡ aspects_of format) ↔ W.NamesAll format aspect
