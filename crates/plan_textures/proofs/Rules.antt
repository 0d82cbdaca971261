-- Parts of a plan, one by one.
-- Assumes nothing.
use Rattle.std.specs.Prelude.{Option}
use mathlib.Core.Path.{◌≡◌, refl}
use mathlib.Core.Bool.{Bool, true, false, not}
use Prim.Native.Nat.{ℕ, ◌*◌, ◌^◌, ◌≤◌, ◌<◌}
use native.Mathlib.Omega.{arith}
use native.Mathlib.Nat.{mul-le-mul_left}
use Rattle.conditions.specs.Conditions.{pick}
use Rattle.rule_copy_range.specs.declared.CopyExtent.{CopyExtent}
use Rattle.rule_selectors.specs.declared.TextureCopyBase.{TextureCopyBase}
use Rattle.plan_textures.specs.declared.CopyParts.{CopyParts}
use Rattle.plan_textures.specs.declared.TexturePlan.{TexturePlan}
use Rattle.plan_textures.specs.Plan.{part_count, ranges_of}
use Rattle.std.specs.Bool.{then_some}
use Rattle.rule_init_ranges.specs.declared.TextureInitRange.{TextureInitRange}

-- a plan by its parts
pub built :
    (a b : TextureCopyBase) {e e' : CopyExtent} {p p' : CopyParts} {n n' : ℕ} {g g' : Option (TextureInitRange × TextureInitRange)} (k : ℕ) → e ≡ e' → p ≡ p' → n ≡ n' → g ≡ g'
    → ◌≡◌ {A = TexturePlan}
    (record { src = a; dst = b; size = e; parts = p; part = k; left = n; ranges = g })
    (record { src = a; dst = b; size = e'; parts = p'; part = k; left = n'; ranges = g' })
built a b k h i j l = cc

-- two parts of each of them are few
pub regions_fit : (layers count : ℕ) → layers < 2 ^ 16 → count ≤ 2 → layers * count < 2 ^ 32
regions_fit layers count h c = let p : layers * count ≤ layers * 2 = mul-le-mul_left layers c in omega arith

pub counts_alike : (e e' : Bool) (p p' : CopyParts) (layers : ℕ) → e ≡ e' → p ≡ p' → pick e 0 (layers * part_count p) ≡ pick e' 0 (layers * part_count p')
counts_alike e e' p p' layers h k = cc

-- ranges are given unless the copy is empty
pub given_unless : (empty : Bool) (src dst : TextureInitRange) → then_some (not empty) (src, dst) ≡ ranges_of empty src dst
unfolding ranges_of
given_unless true src dst = refl
given_unless false src dst = refl
