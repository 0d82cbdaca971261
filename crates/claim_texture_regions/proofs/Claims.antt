-- Asking the plan of an accepted copy between textures gives the copy's regions and no others.
-- Assumes nothing.
use mathlib.Core.Path.{◌≡◌, refl, sym, ap, ◌∙◌}
use mathlib.Core.Bool.{Bool, true, false, cond}
use mathlib.Core.List.{List}
use Prim.Native.Nat.{ℕ, zero, suc, ◌+◌, ◌*◌, ◌/◌, ◌%◌, ◌^◌, ◌≤◌, ◌<◌, min}
use native.Mathlib.Omega.{arith}
use native.Mathlib.Nat.{div-one, min-eq_left, le_refl}
use lib.ListN.{length, get_or}
use Rattle.measures.specs.declared.Extent3d.{Extent3d}
use Rattle.measures.specs.Measure as M
use Rattle.measures.specs.Measure.{physical_size, round_up}
use Rattle.mip_levels.specs.declared.TextureDimension.{TextureDimension}
use Rattle.mip_levels.specs.declared.TextureDimension.TheVariants.{D1, D2, D3}
use Rattle.records.specs.Limits.{max_side3d}
use Rattle.records.specs.Bounds.{texture_in_bounds}
use Rattle.records.specs.Extents.{physical_extent}
use Rattle.records.proofs.Bounded.{texture_laws}
use Rattle.rule_copy_range.specs.Range.{copy_extent, layer_count_of}
use Rattle.rule_copy_range.specs.Laws.{RangeLaws}
use Rattle.rule_selectors.specs.Selector.{base_of}
use Rattle.records.specs.declared.TextureSide.{TextureSide}
use Rattle.plan_textures.specs.declared.CopyParts.{CopyParts}
use Rattle.plan_textures.specs.declared.CopyParts.TheVariants.{Whole, DepthStencil, Planes}
use Rattle.plan_textures.specs.declared.TextureCopy.{TextureCopy}
use Rattle.plan_textures.specs.declared.TexturePlan.{TexturePlan}
use Rattle.plan_textures.specs.Plan as N
use Rattle.plan_textures.specs.Asking as A
use Rattle.copy_textures.specs.Copy as T
use Rattle.claim_texture_regions.specs.Regions.{Copy, Part, part, dimension, depth, bits, parts, layers_of, layer_of, is_empty, region_of, region_at, region_count, regions_from, regions_of}
use Rattle.claim_texture_regions.specs.Claim.{Gives, EveryTextureCopy}
use Rattle.claim_texture_regions.proofs.Accepted.{Accepted, accepted, base_for, plan_for}
use Rattle.claim_texture_regions.proofs.Asks.{next_regions, gives, gives_only}
use Rattle.claim_texture_regions.proofs.States.{parts_for, num, first, base_at, Behind, region_is, behind_next}
use Rattle.claim_texture_regions.proofs.Same.{same_dimension, same_layers, same_depth, same_layer, same_z, same_bits_lem, same_parts, same_pick}

-- ---- how many parts, and how far the layers go

counts : (v : CopyParts) (a b : ℕ) → length (parts_for v a b) ≡ num v
counts Whole a b = refl
counts DepthStencil a b = refl
counts Planes a b = refl

counted : (v : CopyParts) → N.part_count v ≡ num v
unfolding N.part_count
counted Whole = refl
counted DepthStencil = refl
counted Planes = refl

layer_below : (v : CopyParts) (k layers : ℕ) → k < layers * num v → k / num v < layers
layer_below Whole k layers h = rw (div-one k) (omega arith)
layer_below DepthStencil k layers h = omega arith
layer_below Planes k layers h = omega arith

started : (v : CopyParts) → (0 / num v ≡ 0) × (0 % num v ≡ 0)
started Whole = (refl, refl)
started DepthStencil = (refl, refl)
started Planes = (refl, refl)

low : (v w : TextureDimension) (z d : ℕ) → z + d ≤ max_side3d → layer_of v z + layers_of w d < 2 ^ 32
low v w z d h = let a = at_most v z in let b = few w d in omega arith
  where
    at_most : (v : TextureDimension) (z : ℕ) → layer_of v z ≤ z
    at_most D1 z = omega arith
    at_most D2 z = omega arith
    at_most D3 z = omega arith

    few : (w : TextureDimension) (d : ℕ) → layers_of w d ≤ d + 1
    few D1 d = omega arith
    few D2 d = omega arith
    few D3 d = omega arith

deep : (s : TextureSide) (size : Extent3d) → texture_in_bounds s.texture ≡ true → RangeLaws s.view s.texture size → s.view.origin.z + size.depth_or_array_layers ≤ max_side3d
unfolding physical_extent round_up physical_size
deep s size b r =
    let few = ((texture_laws s.texture b).level_sized s.view.mip_level).depth_few in
    omega (arith, r.z_inside)

-- ---- the plan's regions

module _ (i j : ℕ) (c : Copy) (k : Accepted i j c) where
  abbrev v : CopyParts
  v = N.parts_of c.dst.texture.format

  abbrev layers : ℕ
  layers = layers_of (dimension c.src) (depth c)

  room : (l : ℕ) → l ≤ layers → (first c.src + l < 2 ^ 32) × (first c.dst + l < 2 ^ 32)
  room l h =
      let a = low (dimension c.src) (dimension c.src) _ _ (deep c.src c.size k.src_bounds k.src_range) in
      let b = low (dimension c.dst) (dimension c.src) _ _ (deep c.dst c.size k.dst_bounds k.dst_range) in
      (omega arith, omega arith)

  region_of_lem : (n : ℕ) {q : TexturePlan} → Behind c v n q → A.region_of v q ≡ region_at c n
  region_of_lem n h =
      region_is c v h
      ∙ ap (λ (m : ℕ). region_of c (n / m) (get_or (parts_for v (bits c.src) (bits c.dst)) (n % m) (part 0 0 1))) (sym (counts v _ _))
      ∙ ap (λ (l : List Part). region_of c (n / length l) (get_or l (n % length l) (part 0 0 1))) (sym (same_parts i j c k))

  carried : (n : ℕ) (w : CopyParts) (q : TexturePlan) → w ≡ v → Behind c v n (A.advanced v q) → Behind c v n (A.advanced w q)
  carried n w q e h = rw e h

  the_copys : (n m : ℕ) (q : TexturePlan) → Behind c v m q → m + n ≤ layers * num v → next_regions n q ≡ regions_from c m n
  the_copys zero m q h l = refl
  the_copys (suc n) m q h l =
      let r : A.region_of q.parts q ≡ region_at c m = ap (λ (w : CopyParts). A.region_of w q) h.parts ∙ region_of_lem m h in
      let b : Behind c v (suc m) (A.advanced q.parts q) = carried (suc m) q.parts q h.parts (behind_next c v h (room _ (layer_below v m layers (omega arith)))) in
      let t : next_regions n (A.advanced q.parts q) ≡ regions_from c (suc m) n = the_copys n (suc m) _ b (omega arith) in
      cc

  -- ---- the plan that the checks made

  base : (s : TextureSide) → texture_in_bounds s.texture ≡ true → base_for s ≡ base_at s 0
  unfolding base_of
  base s b =
      let l : first s ≡ first s + 0 = omega arith in
      rw (same_dimension s, same_layer (dimension s) s.view.origin.z, same_z (dimension s) s.view.origin.z, same_bits_lem s b, ← l)

  begins : Behind c v 0 (plan_for c)
  unfolding T.plan_for N.plan_of N.lesser M.lesser_of copy_extent
  begins =
      let z = started v in
      let w : min c.size.width.0 c.size.width.0 ≡ c.size.width.0 = min-eq_left (le_refl _) in
      let h : min c.size.height.0 c.size.height.0 ≡ c.size.height.0 = min-eq_left (le_refl _) in
      record {
        parts = refl;
        size = rw (w, h, same_dimension c.src, same_dimension c.dst, same_depth (dimension c.src) (depth c), same_depth (dimension c.dst) (depth c));
        src = rw z.0 (base c.src k.src_bounds);
        dst = rw z.0 (base c.dst k.dst_bounds);
        at = sym z.1;
      }

  part_count_lem : length (parts c) ≡ num v
  part_count_lem = ap (λ (l : List Part). length l) (same_parts i j c k) ∙ counts v _ _

  left_is : (plan_for c).left ≡ region_count c
  unfolding T.plan_for N.plan_of layer_count_of M.is_empty
  left_is = rw (counted v, part_count_lem, same_dimension c.src, same_layers (dimension c.src) (depth c)) (same_pick (is_empty c.size) _ _)

  at_most : (empty : Bool) → cond empty 0 (layers * num v) ≤ layers * num v
  at_most true = omega arith
  at_most false = omega arith

  all_left : next_regions (plan_for c).left (plan_for c) ≡ regions_of c
  all_left =
      ap (λ (n : ℕ). next_regions n (plan_for c)) left_is
      ∙ the_copys (region_count c) 0 (plan_for c) begins (rw part_count_lem (omega (arith, at_most (is_empty c.size))))

  asked : (rs : List TextureCopy) → (Gives (plan_for c) rs → rs ≡ regions_of c) × (rs ≡ regions_of c → Gives (plan_for c) rs)
  asked rs = (λ g. gives_only _ g refl ∙ all_left, λ e. rw (e, ← all_left) (gives _ (plan_for c) refl))

pub every_texture_copy : EveryTextureCopy
every_texture_copy i j c p e = let k = accepted i j c p e in rw (← k.1) (asked i j c k.0)
