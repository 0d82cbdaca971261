-- Distances in blocks and in texels, strides, and images.
-- Assumes nothing.
use Rattle.std.specs.Prelude.{Option, Some, None}
use mathlib.Core.Path.{◌≡◌, refl, sym, ap, ◌∙◌}
use mathlib.Core.Bool.{Bool, false, ◌||◌}
use Prim.Native.Nat.{ℕ, zero, suc, ◌+◌, ◌*◌, ◌/◌, ◌%◌, ◌≤◌, ◌<◌}
use native.Mathlib.Omega.{arith}
use native.Mathlib.Nat.{zero-add, zero-mul, mul_assoc, add-mul, mod-add-mod, div-add-mod', mul-div_cancel, add-mul-mod_self_right, mul-lt-mul_of_pos_right, lt_of_mul-lt-mul_right, pos_of_div-pos}
use lib.Dec.{eqb}
use borrow.Author.Tests.{ne_eqb, eqb-false}
use Rattle.conditions.proofs.Rules.{neither}
use Rattle.measures.specs.Measure.{or_else}
use Rattle.mip_levels.specs.declared.TextureDimension.{TextureDimension}
use Rattle.mip_levels.specs.declared.TextureDimension.TheVariants.{D1, D2, D3}
use Rattle.records.specs.Limits.{max_side3d}
use Rattle.rule_copy_range.specs.Range as R
use Rattle.rule_selectors.specs.Selector as S
use Rattle.claim_webgpu_rules.specs.WebGpu.{or_zero, IsGiven}
use Rattle.claim_webgpu_rules.specs.Formats.{Aspect}
use Rattle.claim_webgpu_effects.specs.Blocks.{TexelBlock}
use Rattle.claim_webgpu_effects.specs.Standard.{layer_of, slice_of}
use Rattle.claim_webgpu_effects.specs.Regions.{or_dense}

-- ---- blocks and texels

exact : (n b : ℕ) → n % b ≡ 0 → n / b * b ≡ n
exact n b e = let d = div-add-mod' n b in omega (arith, d, e)

-- from a block's start to another's: whole blocks
pub in_blocks_lem : (b o d w : ℕ) → o % b ≡ 0 → (o + d) % b ≡ 0 → w % b ≡ 0 → d < w → (d / b * b ≡ d) × (d / b < w / b)
in_blocks_lem b o d w ho hd hw h =
    let z : d % b ≡ 0 = ap (λ (n : ℕ). n % b) (sym (zero-add d)) ∙ ap (λ (n : ℕ). (n + d) % b) (sym ho) ∙ mod-add-mod o b d ∙ hd in
    let e = exact d b z in
    let f = exact w b hw in
    (e, lt_of_mul-lt-mul_right b (rw (e, f) h))

pub in_texels : (b o i w : ℕ) → 0 < b → o % b ≡ 0 → w % b ≡ 0 → i < w / b → (i * b < w) × ((o + i * b) % b ≡ 0) × (i * b / b ≡ i)
in_texels b o i w pos ho hw h =
    let l : i * b < w / b * b = mul-lt-mul_of_pos_right h pos in
    (rw (exact w b hw) at l, add-mul-mod_self_right o i b ∙ ho, mul-div_cancel i pos)

pub quotient_some : (b w : ℕ) → 0 < w → w % b ≡ 0 → 0 < w / b
quotient_some b w pos e = go (w / b) (exact w b e)
  where
    go : (n : ℕ) → n * b ≡ w → 0 < n
    go zero f = absurd (omega (arith, f, zero-mul b))
    go (suc n) f = omega arith

pub some_blocks : (b i w : ℕ) → i < w / b → 0 < w
some_blocks b i w h = pos_of_div-pos b (omega arith)

pub same_block : {level l l' s s' x x' y y' : ℕ} {aspect : Aspect} → l ≡ l' → s ≡ s' → x ≡ x' → y ≡ y'
    → ◌≡◌ {A = TexelBlock} (record { level = level; aspect = aspect; layer = l; slice = s; x = x; y = y }) (record { level = level; aspect = aspect; layer = l'; slice = s'; x = x'; y = y' })
same_block e f g h = cc

-- ---- sizes of 0

abbrev pub some_zero : ℕ → ℕ → ℕ → Bool
some_zero w h d = eqb w 0 || (eqb h 0 || eqb d 0)

pub no_zero : (w h d : ℕ) → 0 < w → 0 < h → 0 < d → some_zero w h d ≡ false
no_zero w h d pw ph pd = rw (ne_eqb w 0 (λ e. omega arith), ne_eqb h 0 (λ e. omega arith), ne_eqb d 0 (λ e. omega arith))

pub depth_some : (w h d : ℕ) → some_zero w h d ≡ false → 0 < d
depth_some w h d e = let n = eqb-false d 0 (neither (eqb h 0) _ (neither (eqb w 0) _ e).1).1 in omega arith

not_above : (n : ℕ) → (0 < n → ⊥) → n ≡ 0
not_above zero f = refl
not_above (suc n) f = absurd (f (omega arith))

-- ---- strides: a value that is absent is only multiplied by 0

pub strides :
    (row rows : Option ℕ) (a b d e m z k j : ℕ) → m + z ≡ k → (0 < k → IsGiven row × IsGiven rows) → (0 < j → IsGiven row)
    → m * (or_else rows a * or_else row b) + z * (or_dense rows d * or_dense row e) + j * or_dense row e ≡ k * or_zero rows * or_zero row + j * or_zero row
unfolding or_else
strides (Some r) (Some n) a b d e m z k j s hk hj =
    rw (← s, mul_assoc (m + z) n r, add-mul m z (n * r))
strides (Some r) None a b d e m z k j s hk hj =
    let k₀ = not_above k (λ p. (hk p).1) in
    let m₀ : m ≡ 0 = omega arith in
    let z₀ : z ≡ 0 = omega arith in
    rw (m₀, z₀, k₀) (omega (arith, zero-mul (a * r), zero-mul (d * r), zero-mul r))
strides None rows a b d e m z k j s hk hj =
    let k₀ = not_above k (λ p. (hk p).0) in
    let j₀ = not_above j hj in
    let m₀ : m ≡ 0 = omega arith in
    let z₀ : z ≡ 0 = omega arith in
    rw (m₀, z₀, k₀, j₀) (omega (arith, zero-mul (or_else rows a * b), zero-mul (or_dense rows d * e), zero-mul e, zero-mul (or_zero rows)))

-- ---- images of one texture: region m, dz deep in it, is image k

-- how far layers and depth go: a 1D texture has one
abbrev pub limit : TextureDimension → ℕ
limit D1 = 1
limit D2 = max_side3d
limit D3 = max_side3d

pub record Image (v : TextureDimension) (z d m dz k : ℕ) : Type 0 where
  pub there : m < R.layers_of v d
  pub deep : dz < R.depth_of v d
  pub below : k < d
  pub sum : m + dz ≡ k
  pub layer : S.layer_of v z + m ≡ layer_of v (z + k)
  pub slice : S.z_of v z + dz ≡ slice_of v (z + k)

pub image_of : (v : TextureDimension) (z d m dz : ℕ) → z + d ≤ limit v → 0 < d → m < R.layers_of v d → dz < R.depth_of v d → Image v z d m dz (m + dz)
image_of D1 z d m dz l pos h i = record { there = h; deep = i; below = omega arith; sum = refl; layer = omega arith; slice = omega arith }
image_of D2 z d m dz l pos h i = record { there = h; deep = i; below = omega arith; sum = refl; layer = omega arith; slice = omega arith }
image_of D3 z d m dz l pos h i = record { there = h; deep = i; below = omega arith; sum = refl; layer = omega arith; slice = omega arith }

-- the region of image k, and how deep in it
abbrev pub layer_for : TextureDimension → ℕ → ℕ
layer_for D1 k = 0
layer_for D2 k = k
layer_for D3 k = 0

abbrev pub slice_for : TextureDimension → ℕ → ℕ
slice_for D1 k = k
slice_for D2 k = 0
slice_for D3 k = k

pub region_of_lem : (v : TextureDimension) (z d k : ℕ) → z + d ≤ limit v → k < d → Image v z d (layer_for v k) (slice_for v k) k
region_of_lem D1 z d k l h = record { there = omega arith; deep = omega arith; below = h; sum = omega arith; layer = omega arith; slice = omega arith }
region_of_lem D2 z d k l h = record { there = h; deep = omega arith; below = h; sum = omega arith; layer = omega arith; slice = omega arith }
region_of_lem D3 z d k l h = record { there = omega arith; deep = h; below = h; sum = omega arith; layer = omega arith; slice = omega arith }
