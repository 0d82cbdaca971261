-- The rules' figures of an accepted copy are those of the claim.
-- Assumes nothing.
use mathlib.Core.Path.{◌≡◌, refl, sym, ◌∙◌}
use mathlib.Core.Bool.{Bool, true, false, not, ◌&&◌, ◌||◌, cond}
use mathlib.Core.List.{[], ◌∷◌}
use mathlib.Core.Logic.{◌⊎◌, inl, inr}
use Prim.Native.Nat.{ℕ, ◌<◌}
use native.Mathlib.Omega.{arith}
use lib.Dec.{eqb}
use borrow.Author.Tests.{eqb-true, eq-eqb, ltb-true, not-true}
use Rattle.conditions.specs.Conditions.{pick, stop_if}
use Rattle.conditions.proofs.Rules.{both_true, either}
use Rattle.conditions.proofs.Tables.{every_below, at_below}
use Rattle.flags.specs.Flags.{meet}
use Rattle.mip_levels.specs.declared.TextureDimension.{TextureDimension}
use Rattle.mip_levels.specs.declared.TextureDimension.TheVariants.{D1, D2, D3}
use Rattle.mip_levels.specs.Level.{texture_dimension}
use Rattle.formats.specs.declared.TextureAspect.{TextureAspect}
use Rattle.formats.specs.declared.TextureAspect.TheVariants.{All, StencilOnly, DepthOnly, Plane0, Plane1, Plane2}
use Rattle.formats.specs.Table.{formats, format_row, aspects_of, is_format, is_combined_depth_stencil, is_multi_planar, remove_srgb}
use Rattle.formats.specs.Aspects.{asked_of, chosen_aspects, plane_format, aspect_specific_format}
use Rattle.records.specs.declared.Texture.{Texture}
use Rattle.records.specs.declared.TextureSide.{TextureSide}
use Rattle.records.specs.Bounds.{texture_in_bounds, fields_in_bounds, samples_in_bounds, format_suits}
use Rattle.rule_copy_range.specs.Range as R
use Rattle.rule_selectors.specs.Selector as S
use Rattle.plan_textures.specs.declared.CopyParts.TheVariants.{Whole, DepthStencil, Planes}
use Rattle.plan_textures.specs.Plan as N
use Rattle.copy_textures.specs.Copy.{is_this, is_plane_split}
use Rattle.claim_texture_regions.specs.Regions.{Copy, part, format_bits, is_asked, chosen, bits, is_nv12, parts, dimension, layers_of, layer_of, z_of, depth_of}
use Rattle.claim_texture_regions.proofs.Accepted as A
use Rattle.claim_texture_regions.proofs.States.{parts_for}

-- ---- a choice

pub same_pick : {A : Type 0} (t : Bool) (a b : A) → pick t a b ≡ cond t a b
same_pick true a b = refl
same_pick false a b = refl

-- ---- by the dimension

pub same_dimension : (s : TextureSide) → texture_dimension s.texture.dimension ≡ dimension s
unfolding texture_dimension dimension stop_if
same_dimension s = go (eqb s.texture.dimension 1) (eqb s.texture.dimension 3)
  where
    go : (t u : Bool) → stop_if t D1 (stop_if u D3 D2) ≡ cond t D1 (cond u D3 D2)
    go true u = refl
    go false true = refl
    go false false = refl

pub same_layers : (v : TextureDimension) (d : ℕ) → R.layers_of v d ≡ layers_of v d
same_layers D1 d = refl
same_layers D2 d = refl
same_layers D3 d = refl

pub same_depth : (v : TextureDimension) (d : ℕ) → R.depth_of v d ≡ depth_of v d
same_depth D1 d = refl
same_depth D2 d = refl
same_depth D3 d = refl

pub same_layer : (v : TextureDimension) (z : ℕ) → S.layer_of v z ≡ layer_of v z
same_layer D1 z = refl
same_layer D2 z = refl
same_layer D3 z = refl

pub same_z : (v : TextureDimension) (z : ℕ) → S.z_of v z ≡ z_of v z
same_z D1 z = refl
same_z D2 z = refl
same_z D3 z = refl

-- ---- aspects, by one test that is computed of every format

known_format : (t : Texture) → texture_in_bounds t ≡ true → t.format < 22
unfolding texture_in_bounds fields_in_bounds is_format formats
known_format t b = ltb-true t.format 22 (both_true (is_format t.format) _ (both_true (fields_in_bounds t) (samples_in_bounds t && format_suits t) b).0).0

same_bits : TextureAspect → ℕ → Bool
same_bits asked format = eqb (chosen_aspects format asked) (chosen asked (format_bits format))

all_same : (asked : TextureAspect) → every_below (same_bits asked) 22 ≡ true
unfolding same_bits chosen_aspects asked_of aspects_of format_row formats meet chosen format_bits is_asked
all_same All = refl
all_same StencilOnly = refl
all_same DepthOnly = refl
all_same Plane0 = refl
all_same Plane1 = refl
all_same Plane2 = refl

pub same_bits_lem : (s : TextureSide) → texture_in_bounds s.texture ≡ true → A.bits s ≡ bits s
unfolding same_bits
same_bits_lem s b = eqb-true _ _ (at_below (same_bits s.view.aspect) 22 (all_same s.view.aspect) s.texture.format (known_format s.texture b))

-- ---- parts

-- nothing is split into NV12, and what is NV12 but for srgb is NV12
planar_to : TextureAspect → ℕ → Bool
planar_to asked format =
    not (is_this (aspect_specific_format (remove_srgb format) asked) (remove_srgb 21)) && (not (eqb (remove_srgb format) (remove_srgb 21)) || eqb format 21)

all_planar : (asked : TextureAspect) → every_below (planar_to asked) 22 ≡ true
unfolding planar_to remove_srgb format_row formats is_this aspect_specific_format is_multi_planar plane_format stop_if
all_planar All = refl
all_planar StencilOnly = refl
all_planar DepthOnly = refl
all_planar Plane0 = refl
all_planar Plane1 = refl
all_planar Plane2 = refl

other : {C : Type 0} {t : Bool} → t ≡ true → t ≡ false → C
other e f = let z : ◌≡◌ {A = ℕ} 0 1 = cc in absurd (omega arith)

-- the two choices, in the claim's words and in the rules'
chosen_parts :
    (s t : Bool) (a b : ℕ) → cond s (part 2 2 1 ∷ part 4 4 1 ∷ []) (cond t (part 8 8 1 ∷ part 16 16 2 ∷ []) (part a b 1 ∷ []))
    ≡ parts_for (stop_if s DepthStencil (stop_if t Planes Whole)) a b
unfolding stop_if
chosen_parts true t a b = refl
chosen_parts false true a b = refl
chosen_parts false false a b = refl

module _ (i j : ℕ) (c : Copy) (k : A.Accepted i j c) where
  from_planar : c.dst.texture.format ≡ 21 → is_nv12 c.src ≡ true
  unfolding planar_to is_plane_split
  from_planar e =
      let asked = c.src.view.aspect in
      let h = rw e at k.formats in
      let t = both_true _ _ (at_below (planar_to asked) 22 (all_planar asked) c.src.texture.format (known_format c.src.texture k.src_bounds)) in
      go (either _ _ t.1) (eq-eqb _ _ (h (not-true _ t.0)))
    where
      go : {s u : Bool} → (not s ≡ true) ⊎ (u ≡ true) → s ≡ true → u ≡ true
      go (inl y) n = other n (not-true _ y)
      go (inr y) n = y

  both_planar : (t : Bool) → is_nv12 c.dst ≡ t → (is_nv12 c.src && t) ≡ t
  both_planar true e = rw (from_planar (eqb-true _ _ e))
  both_planar false e = go (is_nv12 c.src)
    where
      go : (t : Bool) → (t && false) ≡ false
      go true = refl
      go false = refl

  pub same_parts : parts c ≡ parts_for (N.parts_of c.dst.texture.format) (bits c.src) (bits c.dst)
  unfolding parts N.parts_of is_combined_depth_stencil is_multi_planar
  same_parts =
      let e : bits c.dst ≡ aspects_of c.dst.texture.format = sym (same_bits_lem c.dst k.dst_bounds) ∙ k.dst_aspects in
      rw (both_planar _ refl, ← e) (chosen_parts _ _ _ _)
