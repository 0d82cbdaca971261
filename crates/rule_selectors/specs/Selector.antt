-- The part of a texture that a copy selects, and copies within one texture.
use Rattle.std.specs.Prelude.{ℕ, ◌+◌, ◌%◌, ◌^◌, Bool, [], ◌∷◌, ◌==◌, nat_lt, Result, Ok}
use Rattle.conditions.specs.Conditions.{every}
use Rattle.measures.specs.declared.Extent3d.{Extent3d}
use Rattle.measures.specs.declared.Range.{Range}
use Rattle.flags.specs.Flags.{meets}
use Rattle.mip_levels.specs.declared.TextureDimension.{TextureDimension}
use Rattle.mip_levels.specs.declared.TextureDimension.TheVariants.{D1, D2, D3}
use Rattle.mip_levels.specs.Level.{texture_dimension}
use Rattle.formats.specs.Aspects.{chosen_aspects}
use Rattle.refusals.specs.declared.TransferError.TheVariants as E
use Rattle.refusals.specs.Order.{Checks, refuse_if, decided}
use Rattle.records.specs.declared.Texture.{Texture}
use Rattle.records.specs.declared.TexelCopyTextureInfo.{TexelCopyTextureInfo}
use Rattle.rule_selectors.specs.declared.TextureSelector.{TextureSelector}
use Rattle.rule_selectors.specs.declared.TextureCopyBase.{TextureCopyBase}
use Rattle.refusals.specs.declared.TransferError.{TransferError}

abbrev pub range : ℕ → ℕ → Range
range start end = record { start = start; end = end }

-- the first layer, and the z of a region: 2D goes by layers, 3D by depth
abbrev pub layer_of : TextureDimension → ℕ → ℕ
layer_of D1 z = 0
layer_of D2 z = z
layer_of D3 z = 0

abbrev pub z_of : TextureDimension → ℕ → ℕ
z_of D1 z = 0
z_of D2 z = 0
z_of D3 z = z

-- the layers that the copy selects
abbrev pub layer_range : TextureDimension → ℕ → ℕ → Range
layer_range D1 z depth = range 0 1
layer_range D2 z depth = range z (z + depth)
layer_range D3 z depth = range 0 1

unfoldable pub selector_of : TexelCopyTextureInfo → Texture → Extent3d → TextureSelector
selector_of view t size =
    record {
      mips = range view.mip_level (view.mip_level + 1);
      layers = layer_range (texture_dimension t.dimension) view.origin.z size.depth_or_array_layers;
    }

-- where the first region starts
unfoldable pub base_of : TexelCopyTextureInfo → Texture → ℕ → TextureCopyBase
base_of view t aspects =
    record {
      mip_level = view.mip_level;
      array_layer = layer_of (texture_dimension t.dimension) view.origin.z;
      origin = record { x = view.origin.x; y = view.origin.y; z = z_of (texture_dimension t.dimension) view.origin.z };
      aspect = record { 0 = aspects };
    }

-- one layer on. The sum wraps: a plan that no planner made may have any layer.
unfoldable pub next_layer : TextureCopyBase → TextureCopyBase
next_layer b =
    record {
      mip_level = b.mip_level;
      array_layer = (b.array_layer + 1) % 2 ^ 32;
      origin = b.origin;
      aspect = b.aspect;
    }

-- something is chosen
unfoldable pub selector_checks : TexelCopyTextureInfo → Texture → Checks
selector_checks view t =
    refuse_if (chosen_aspects t.format view.aspect == 0) (E.InvalidTextureAspect t.format view.aspect)  -- 12
    ∷ []

unfoldable pub selector_checked : TexelCopyTextureInfo → Texture → Extent3d → Result (TextureSelector × TextureCopyBase) TransferError
selector_checked view t size =
    decided (selector_checks view t) (Ok (selector_of view t size, base_of view t (chosen_aspects t.format view.aspect)))

-- chosen aspects meet, the level is the same, and each z is below the other z plus the layers
unfoldable pub overlaps : TexelCopyTextureInfo → TexelCopyTextureInfo → ℕ → ℕ → Bool
overlaps src dst format layers =
    every
    (meets (chosen_aspects format src.aspect) (chosen_aspects format dst.aspect)
    ∷ nat_lt src.origin.z (dst.origin.z + layers)
    ∷ nat_lt dst.origin.z (src.origin.z + layers)
    ∷ (src.mip_level == dst.mip_level)
    ∷ [])

unfoldable pub same_texture_checks : TexelCopyTextureInfo → TexelCopyTextureInfo → ℕ → ℕ → Checks
same_texture_checks src dst format layers =
    refuse_if (overlaps src dst format layers) (E.InvalidCopyWithinSameTexture src.aspect dst.aspect src.origin.z dst.origin.z layers)  -- 11
    ∷ []
