-- A plan's regions do not rest on its ranges.
-- Assumes nothing.
use Rattle.std.specs.Prelude.{Option}
use mathlib.Core.Path.{◌≡◌, refl}
use mathlib.Core.Bool.{Bool, true, false}
use lib.Dec.{eqb}
use Rattle.conditions.specs.Conditions.{pick, stop_if}
use Rattle.plan_textures.specs.Asking as X
use Rattle.plan_textures.specs.declared.CopyParts.{CopyParts}
use Rattle.plan_textures.specs.declared.CopyParts.TheVariants.{Whole, DepthStencil, Planes}
use Rattle.plan_textures.specs.declared.TexturePlan.{TexturePlan}
use Rattle.plan_kinds.specs.declared.Plan.TheVariants.{Textures}
use Rattle.plan_kinds.specs.Regions.{region_numbers, next_numbers, behind_of, textures_with}
use Rattle.rule_init_ranges.specs.declared.TextureInitRange.{TextureInitRange}

module _ (ranges : Option (TextureInitRange × TextureInitRange)) where
  region_with : (parts : CopyParts) (p : TexturePlan) → X.region_of parts (textures_with ranges p) ≡ X.region_of parts p
  unfolding X.region_of X.region_as
  region_with Whole p = refl
  region_with DepthStencil p = refl
  region_with Planes p = refl

  part_with :
      (t : Bool) (p : TexturePlan)
      → pick t (X.other_part (textures_with ranges p)) (X.other_layer (textures_with ranges p)) ≡ textures_with ranges (pick t (X.other_part p) (X.other_layer p))
  unfolding X.other_part X.other_layer
  part_with true p = refl
  part_with false p = refl

  advanced_with : (parts : CopyParts) (p : TexturePlan) → X.advanced parts (textures_with ranges p) ≡ textures_with ranges (X.advanced parts p)
  unfolding X.advanced X.other_layer
  advanced_with Whole p = refl
  advanced_with DepthStencil p = part_with (eqb p.part 0) p
  advanced_with Planes p = part_with (eqb p.part 0) p

  answer_with : (p : TexturePlan) → (X.next_of (textures_with ranges p)).answer ≡ (X.next_of p).answer
  unfolding X.next_of stop_if
  answer_with p = by (eqb p.left 0) refl
    where
      by : (t : Bool) → eqb p.left 0 ≡ t → (X.next_of (textures_with ranges p)).answer ≡ (X.next_of p).answer
      by true e = rw e
      by false e = rw (e, region_with p.parts p)

  pub next_with : (p : TexturePlan) → next_numbers (Textures (textures_with ranges p)) ≡ next_numbers (Textures p)
  unfolding next_numbers
  next_with p = rw (answer_with p)

  pub numbers_with : (p : TexturePlan) → region_numbers (Textures (textures_with ranges p)) ≡ region_numbers (Textures p)
  unfolding region_numbers
  numbers_with p = rw (next_with p)

  pub behind_with : (p : TexturePlan) → behind_of (Textures (textures_with ranges p)) ≡ Textures (textures_with ranges (X.next_of p).plan)
  unfolding behind_of X.next_of stop_if
  behind_with p = by (eqb p.left 0) refl
    where
      by : (t : Bool) → eqb p.left 0 ≡ t → behind_of (Textures (textures_with ranges p)) ≡ Textures (textures_with ranges (X.next_of p).plan)
      by true e = rw e
      by false e = rw (e, advanced_with p.parts p)
