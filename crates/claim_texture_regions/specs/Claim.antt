-- The plan of an accepted copy between textures: asking it gives the copy's regions and no others, and it reports the copy's ranges.
use Rattle.std.specs.Prelude.{◌≡◌, List, [], ◌∷◌, ◌↔◌, ℕ, Some, None, Ok}
use Rattle.plan_textures.specs.declared.TextureCopy.{TextureCopy}
use Rattle.plan_textures.specs.declared.TexturePlan.{TexturePlan}
use Rattle.plan_textures.specs.Asking.{next_of}
use Rattle.copy_textures.specs.Plan.{texture_to_texture}
use Rattle.claim_texture_regions.specs.Regions.{Copy, regions_of}
use Rattle.claim_texture_regions.specs.Ranges.{ranges_of}

-- asking p, then each plan handed back in turn, until none is left, gives the regions rs, in order
pub data Gives : TexturePlan → List TextureCopy → Type 0 where
  ended : {p : TexturePlan} → (next_of p).answer ≡ None → (next_of p).plan ≡ p → Gives p []
  gave : {p : TexturePlan} {r : TextureCopy} {rs : List TextureCopy} → (next_of p).answer ≡ Some r → Gives (next_of p).plan rs → Gives p (r ∷ rs)

-- of every pair of records and every figure: no sum wraps, and no region is lost or repeated
abbrev pub EveryTextureCopy : Type 0
EveryTextureCopy =
    (i j : ℕ) (c : Copy) (p : TexturePlan) → texture_to_texture i c.src j c.dst c.size ≡ Ok p
    → (rs : List TextureCopy) → Gives p rs ↔ (rs ≡ regions_of c)

-- and the ranges are the copy's and no others
abbrev pub EveryTextureRange : Type 0
EveryTextureRange =
    (i j : ℕ) (c : Copy) (p : TexturePlan) → texture_to_texture i c.src j c.dst c.size ≡ Ok p → p.ranges ≡ ranges_of c
