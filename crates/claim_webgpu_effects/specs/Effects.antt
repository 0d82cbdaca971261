-- The regions that an accepted copy's plan gives do what the standard's copy does, block by block, and nothing else.
use Rattle.std.specs.Prelude.{◌≡◌, List, ◌⊎◌, ◌↔◌, ℕ, ◌≤◌, Ok}
use Rattle.plan_buffer_texture.specs.declared.BufferTextureCopy.{BufferTextureCopy}
use Rattle.plan_buffer_texture.specs.declared.BufferTexturePlan.{BufferTexturePlan}
use Rattle.mip_levels.specs.declared.TextureDimension.{TextureDimension}
use Rattle.records.specs.declared.TextureSide.{TextureSide}
use Rattle.plan_textures.specs.declared.TextureCopy.{TextureCopy}
use Rattle.plan_textures.specs.declared.TexturePlan.{TexturePlan}
use Rattle.copy_textures.specs.Plan.{texture_to_texture}
use Rattle.claim_webgpu_rules.specs.Formats.{Known, format_of, dimension_of}
use Rattle.copy_buffer_texture.specs.Copy.{Copy}
use Rattle.claim_ownership.specs.Copy as B
use Rattle.claim_ownership.specs.Asking.{Gives}
use Rattle.claim_texture_regions.specs.Regions as T
use Rattle.claim_texture_regions.specs.Claim as A
use Rattle.claim_webgpu_effects.specs.Blocks.{TexelBlock, In}
use Rattle.claim_webgpu_effects.specs.Standard.{Stands, Copies}
use Rattle.claim_webgpu_effects.specs.Regions.{Puts, Carries}

-- ---- between a buffer, or memory, and a texture

-- some region of the list puts the block at the byte, or takes it from there
abbrev pub PutBy : Copy → List BufferTextureCopy → TexelBlock → ℕ → Type 0
PutBy c rs b byte = (r : BufferTextureCopy) × In r rs × Puts (format_of c.texture.format) r b byte

-- asking ends, and the regions that it gives put each block where the standard has it, and no other block anywhere
pub record BufferDoes (c : Copy) (p : BufferTexturePlan) : Type 0 where
  pub ends : (rs : List BufferTextureCopy) × Gives p rs
  pub does : (rs : List BufferTextureCopy) → Gives p rs → (b : TexelBlock) (byte : ℕ) → PutBy c rs b byte ↔ Stands c b byte

-- of every accepted copy, from a buffer, from memory or into a buffer, of a format of the standard, sizes of 0 included
abbrev pub BufferEffects : Type 0
BufferEffects = (c : Copy) (p : BufferTexturePlan) → B.LengthFits c.direction → B.planned c ≡ Ok p → Known c.texture.format → BufferDoes c p

-- ---- between textures

-- an accepted copy between formats of the standard, and the regions that asking its plan gives
pub record Accepted (c : T.Copy) (rs : List TextureCopy) : Type 0 where
  pub i : ℕ
  pub j : ℕ
  pub plan : TexturePlan
  pub planned : texture_to_texture i c.src j c.dst c.size ≡ Ok plan
  pub src_known : Known c.src.texture.format
  pub dst_known : Known c.dst.texture.format
  pub given : A.Gives plan rs

-- some region of the list has the destination's block become the source's
abbrev pub CarriedBy : T.Copy → List TextureCopy → TexelBlock → TexelBlock → Type 0
CarriedBy c rs from to = (r : TextureCopy) × In r rs × Carries (format_of c.dst.texture.format) r from to

abbrev pub dimension : TextureSide → TextureDimension
dimension s = dimension_of s.texture.dimension

-- within one dimension, or of at most one image
abbrev pub Unmixed : T.Copy → Type 0
Unmixed c = (dimension c.src ≡ dimension c.dst) ⊎ (T.depth c ≤ 1)

-- of every such accepted copy, sizes of 0 included
abbrev pub TextureEffects : Type 0
TextureEffects =
    (c : T.Copy) (rs : List TextureCopy) → Accepted c rs → Unmixed c
    → (from to : TexelBlock) → CarriedBy c rs from to ↔ Copies c from to
