-- The plan after n regions: its part and its layers are n's, and its region is the copy's n-th.
-- Assumes nothing.
use mathlib.Core.Path.{◌≡◌, refl, sym, ap, ◌∙◌}
use mathlib.Core.List.{List, [], ◌∷◌}
use mathlib.Core.Logic.{◌⊎◌, inl, inr}
use Prim.Native.Nat.{ℕ, zero, suc, ◌+◌, ◌/◌, ◌%◌, ◌^◌, ◌<◌}
use native.Mathlib.Omega.{arith}
use native.Mathlib.Nat.{div-one, mod-one, mod-eq_of_lt}
use borrow.Author.Tests.{eq-eqb, ne_eqb}
use lib.Dec.{eqb}
use lib.ListN.{length, get_or}
use Rattle.measures.specs.Measure.{divided_by}
use Rattle.conditions.specs.Conditions.{pick}
use Rattle.rule_selectors.specs.declared.TextureCopyBase.{TextureCopyBase}
use Rattle.rule_selectors.specs.Selector.{next_layer}
use Rattle.records.specs.declared.TextureSide.{TextureSide}
use Rattle.plan_textures.specs.declared.CopyParts.{CopyParts}
use Rattle.plan_textures.specs.declared.CopyParts.TheVariants.{Whole, DepthStencil, Planes}
use Rattle.plan_textures.specs.declared.TexturePlan.{TexturePlan}
use Rattle.plan_textures.specs.Asking as A
use Rattle.claim_texture_regions.specs.Regions.{Copy, Part, part, dimension, bits, layer_of, z_of, side_of, size_of, region_of}

-- the parts as the plan has them
abbrev pub parts_for : CopyParts → ℕ → ℕ → List Part
parts_for Whole src dst = part src dst 1 ∷ []
parts_for DepthStencil src dst = part 2 2 1 ∷ part 4 4 1 ∷ []
parts_for Planes src dst = part 8 8 1 ∷ part 16 16 2 ∷ []

abbrev pub first : TextureSide → ℕ
first s = layer_of (dimension s) s.view.origin.z

-- a side, not divided, of all that is chosen
abbrev pub base_at : TextureSide → ℕ → TextureCopyBase
base_at s layer =
    record {
      mip_level = s.view.mip_level;
      array_layer = first s + layer;
      origin = record { x = s.view.origin.x; y = s.view.origin.y; z = z_of (dimension s) s.view.origin.z };
      aspect = record { 0 = bits s };
    }

next_layer_lem : (s : TextureSide) (k : ℕ) → first s + suc k < 2 ^ 32 → next_layer (base_at s k) ≡ base_at s (suc k)
unfolding next_layer
next_layer_lem s k h =
    let f : first s + k + 1 ≡ first s + suc k = omega arith in
    let q : (first s + k + 1) % 2 ^ 32 ≡ first s + suc k = ap (λ (n : ℕ). n % 2 ^ 32) f ∙ mod-eq_of_lt h in
    rw q

divided : (s : TextureSide) (k b f : ℕ) → A.base_as (base_at s k) b f ≡ side_of s k b f
unfolding A.base_as divided_by
divided s k b f = refl

undivided : (s : TextureSide) (k : ℕ) → base_at s k ≡ side_of s k (bits s) 1
undivided s k = rw (div-one s.view.origin.x.0, div-one s.view.origin.y.0)

-- one part of a layer, or two
abbrev pub num : CopyParts → ℕ
num v = length (parts_for v 0 0)

halves : (k : ℕ) → ((k % 2 ≡ 0) × (suc k / 2 ≡ k / 2) × (suc k % 2 ≡ 1)) ⊎ ((k % 2 ≡ 1) × (suc k / 2 ≡ suc (k / 2)) × (suc k % 2 ≡ 0))
halves k = go (k % 2) refl
  where
    go : (r : ℕ) → k % 2 ≡ r → ((k % 2 ≡ 0) × (suc k / 2 ≡ k / 2) × (suc k % 2 ≡ 1)) ⊎ ((k % 2 ≡ 1) × (suc k / 2 ≡ suc (k / 2)) × (suc k % 2 ≡ 0))
    go zero e = inl (e, omega arith, omega arith)
    go (suc r) e = inr (omega arith, omega arith, omega arith)

module _ (c : Copy) where
  abbrev place : Part
  place = part 0 0 1

  -- the plan after k regions
  pub record Behind (v : CopyParts) (k : ℕ) (p : TexturePlan) : Type 0 where
    pub parts : p.parts ≡ v
    pub size : p.size ≡ record { width = c.size.width; height = c.size.height; depth = (size_of c 1).depth }
    pub src : p.src ≡ base_at c.src (k / num v)
    pub dst : p.dst ≡ base_at c.dst (k / num v)
    pub at : p.part ≡ k % num v

  abbrev Room : ℕ → Type 0
  Room layer = (first c.src + layer < 2 ^ 32) × (first c.dst + layer < 2 ^ 32)

  -- ---- its region

  region_as_lem : {v : CopyParts} {k : ℕ} {p : TexturePlan} → Behind v k p → (b f : ℕ) → A.region_as p b f ≡ region_of c (k / num v) (part b b f)
  unfolding A.region_as A.size_by A.base_as divided_by
  region_as_lem h b f = rw (h.src, h.dst, h.size)

  whole_region : {k : ℕ} {p : TexturePlan} → Behind Whole k p → A.region_of Whole p ≡ region_of c (k / 1) (part (bits c.src) (bits c.dst) 1)
  unfolding A.region_of
  whole_region h = rw (h.src, h.dst, h.size, div-one c.size.width.0, div-one c.size.height.0, div-one c.src.view.origin.x.0, div-one c.src.view.origin.y.0, div-one c.dst.view.origin.x.0, div-one c.dst.view.origin.y.0)

  two_regions : {v : CopyParts} {k : ℕ} {p : TexturePlan} → Behind v k p → num v ≡ 2 → (b b' f : ℕ)
      → pick (eqb p.part 0) (A.region_as p b 1) (A.region_as p b' f) ≡ region_of c (k / num v) (get_or (part b b 1 ∷ part b' b' f ∷ []) (k % num v) place)
  two_regions {v} {k} {p} h two b b' f = go (halves k)
    where
      go : ((k % 2 ≡ 0) × (suc k / 2 ≡ k / 2) × (suc k % 2 ≡ 1)) ⊎ ((k % 2 ≡ 1) × (suc k / 2 ≡ suc (k / 2)) × (suc k % 2 ≡ 0)) → pick (eqb p.part 0) (A.region_as p b 1) (A.region_as p b' f) ≡ region_of c (k / num v) (get_or (part b b 1 ∷ part b' b' f ∷ []) (k % num v) place)
      go (inl (e, u, w)) =
          let z : k % num v ≡ 0 = ap (λ (n : ℕ). k % n) two ∙ e in
          rw (eq-eqb p.part 0 (h.at ∙ z), z) (region_as_lem h b 1)
      go (inr (e, u, w)) =
          let z : k % num v ≡ 1 = ap (λ (n : ℕ). k % n) two ∙ e in
          rw (ne_eqb p.part 0 (λ q. omega (arith, h.at, z)), z) (region_as_lem h b' f)

  pub region_is : (v : CopyParts) {k : ℕ} {p : TexturePlan} → Behind v k p → A.region_of v p ≡ region_of c (k / num v) (get_or (parts_for v (bits c.src) (bits c.dst)) (k % num v) place)
  unfolding A.region_of
  region_is Whole {k} h = rw (mod-one k) (whole_region h)
  region_is DepthStencil h = two_regions h refl _ _ _
  region_is Planes h = two_regions h refl _ _ _

  -- ---- and the plan that it hands back

  on_layer_lem : {v : CopyParts} {k : ℕ} {p : TexturePlan} → Behind v k p → Room (suc (k / num v)) → suc k / num v ≡ suc (k / num v) → suc k % num v ≡ 0 → Behind v (suc k) (A.other_layer p)
  unfolding A.other_layer
  on_layer_lem {v} {k} h room e f =
      record {
        parts = h.parts;
        size = h.size;
        src = ap next_layer h.src ∙ next_layer_lem c.src (k / num v) room.0 ∙ ap (base_at c.src) (sym e);
        dst = ap next_layer h.dst ∙ next_layer_lem c.dst (k / num v) room.1 ∙ ap (base_at c.dst) (sym e);
        at = sym f;
      }

  on_part : {v : CopyParts} {k : ℕ} {p : TexturePlan} → Behind v k p → suc k / num v ≡ k / num v → suc k % num v ≡ 1 → Behind v (suc k) (A.other_part p)
  unfolding A.other_part
  on_part {v} {k} h e f =
      record {
        parts = h.parts;
        size = h.size;
        src = h.src ∙ ap (base_at c.src) (sym e);
        dst = h.dst ∙ ap (base_at c.dst) (sym e);
        at = sym f;
      }

  on_two : {v : CopyParts} {k : ℕ} {p : TexturePlan} → num v ≡ 2 → Behind v k p → Room (suc (k / num v)) → Behind v (suc k) (pick (eqb p.part 0) (A.other_part p) (A.other_layer p))
  on_two {v} {k} {p} two h room = go (halves k)
    where
      go : ((k % 2 ≡ 0) × (suc k / 2 ≡ k / 2) × (suc k % 2 ≡ 1)) ⊎ ((k % 2 ≡ 1) × (suc k / 2 ≡ suc (k / 2)) × (suc k % 2 ≡ 0)) → Behind v (suc k) (pick (eqb p.part 0) (A.other_part p) (A.other_layer p))
      go (inl (e, u, w)) =
          rw (eq-eqb p.part 0 (h.at ∙ ap (λ (n : ℕ). k % n) two ∙ e)) (on_part h (rw two u) (rw two w))
      go (inr (e, u, w)) =
          let z : k % num v ≡ 1 = ap (λ (n : ℕ). k % n) two ∙ e in
          rw (ne_eqb p.part 0 (λ q. omega (arith, h.at, z))) (on_layer_lem h room (rw two u) (rw two w))

  pub behind_next : (v : CopyParts) {k : ℕ} {p : TexturePlan} → Behind v k p → Room (suc (k / num v)) → Behind v (suc k) (A.advanced v p)
  unfolding A.advanced
  behind_next Whole {k} h room = on_layer_lem h room (div-one (suc k) ∙ ap suc (sym (div-one k))) (mod-one (suc k))
  behind_next DepthStencil h room = on_two refl h room
  behind_next Planes h room = on_two refl h room
