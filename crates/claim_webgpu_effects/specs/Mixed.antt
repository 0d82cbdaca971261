-- Where the regions and the standard's copy part: copies of several images between 2D and 3D textures. The regions are the Rust's.
use Rattle.std.specs.Prelude.{◌≡◌, List, ◌⊎◌, ◌↔◌, ℕ, ◌<◌}
use Rattle.mip_levels.specs.declared.TextureDimension.TheVariants.{D2, D3}
use Rattle.formats.specs.declared.TextureAspect.TheVariants.{All}
use Rattle.records.specs.declared.TextureSide.{TextureSide}
use Rattle.plan_textures.specs.declared.TextureCopy.{TextureCopy}
use Rattle.claim_texture_regions.specs.Regions.{Copy, depth}
use Rattle.claim_webgpu_effects.specs.Blocks.{TexelBlock}
use Rattle.claim_webgpu_effects.specs.Standard.{block_at, ImageCopied, CopiesImage, Copies}
use Rattle.claim_webgpu_effects.specs.Effects.{Accepted, CarriedBy, dimension, Unmixed}

-- ---- slices into layers: image 0 as the standard has it, and nothing of the images above

abbrev pub SlicesIntoLayers : Type 0
SlicesIntoLayers =
    (c : Copy) (rs : List TextureCopy) → Accepted c rs → dimension c.src ≡ D3 → dimension c.dst ≡ D2
    → (from to : TexelBlock) → CarriedBy c rs from to ↔ ((0 < depth c) × CopiesImage c 0 from to)

-- ---- layers into slices: image k to array layer k, which a volume has not, always at the destination's own z

abbrev pub on_layer : ℕ → TexelBlock → TexelBlock
on_layer layer b = record { level = b.level; aspect = b.aspect; layer = layer; slice = b.slice; x = b.x; y = b.y }

abbrev pub CopiesToLayer : Copy → ℕ → TexelBlock → TexelBlock → Type 0
CopiesToLayer c k =
    ImageCopied c (λ aspect i j. block_at c.src.texture c.src.view aspect i j k)
    (λ aspect i j. on_layer k (block_at c.dst.texture c.dst.view aspect i j 0))

pub record LayersToSlices (c : Copy) (rs : List TextureCopy) (from to : TexelBlock) : Type 0 where
  pub does : CarriedBy c rs from to ↔ ((k : ℕ) × (k < depth c) × CopiesToLayer c k from to)
  -- image 0 is the standard's; an image above goes where the standard copies nothing
  pub first : CopiesToLayer c 0 from to ↔ CopiesImage c 0 from to
  pub stray : (k : ℕ) → 0 < k → CopiesToLayer c k from to → Copies c from to → ⊥

abbrev pub LayersIntoSlices : Type 0
LayersIntoSlices =
    (c : Copy) (rs : List TextureCopy) → Accepted c rs → dimension c.src ≡ D2 → dimension c.dst ≡ D3
    → (from to : TexelBlock) → LayersToSlices c rs from to

-- ---- so they differ, either way, wherever there is a second image

abbrev pub Mixed : Copy → Type 0
Mixed c = ((dimension c.src ≡ D2) × (dimension c.dst ≡ D3)) ⊎ ((dimension c.src ≡ D3) × (dimension c.dst ≡ D2))

-- no block of an image above the first is copied as the standard copies it
abbrev pub ImagesMissed : Type 0
ImagesMissed =
    (c : Copy) (rs : List TextureCopy) → Accepted c rs → Mixed c
    → (from to : TexelBlock) (k : ℕ) → 0 < k → CopiesImage c k from to → CarriedBy c rs from to → ⊥

-- and there is such a block
abbrev pub TheyDiffer : Type 0
TheyDiffer =
    (c : Copy) (rs : List TextureCopy) → Accepted c rs → Mixed c → 0 < c.size.width.0 → 0 < c.size.height.0 → 1 < depth c
    → (from : TexelBlock) × (to : TexelBlock) × Copies c from to × (CarriedBy c rs from to → ⊥)

-- ---- there is no third case: a copy with a 1D texture has at most one image

abbrev pub Exhaustive : Type 0
Exhaustive = (c : Copy) (rs : List TextureCopy) → Accepted c rs → Unmixed c ⊎ Mixed c

-- ---- and such copies are accepted: two images of one texel each, of r8unorm, by the dimension's number

abbrev pub two_images : ℕ → TextureSide
two_images dimension =
    record {
      texture =
          record {
            format = 0;
            dimension = dimension;
            size = record { width = record { 0 = 1 }; height = record { 0 = 1 }; depth_or_array_layers = 2 };
            mip_level_count = 1;
            sample_count = 1;
            usage = record { 0 = 3 };
          };
      view = record { mip_level = 0; origin = record { x = record { 0 = 0 }; y = record { 0 = 0 }; z = 0 }; aspect = All };
    }

abbrev pub example : ℕ → ℕ → Copy
example src dst = record { src = two_images src; dst = two_images dst; size = record { width = record { 0 = 1 }; height = record { 0 = 1 }; depth_or_array_layers = 2 } }

abbrev pub IsAccepted : Copy → Type 0
IsAccepted c = (rs : List TextureCopy) × Accepted c rs

abbrev pub MixedAccepted : Type 0
MixedAccepted = IsAccepted (example 2 3) × IsAccepted (example 3 2)
