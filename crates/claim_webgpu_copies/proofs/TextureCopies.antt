-- Copies between textures against the standard's.
-- Assumes nothing.
use mathlib.Core.Path.{◌≡◌, refl, sym, ap, ◌∙◌}
use mathlib.Core.Bool.{Bool, true, false, not, ◌&&◌}
use mathlib.Core.Logic.{◌⊎◌, inl, inr}
use Prim.Native.Nat.{ℕ}
use lib.Dec.{eqb}
use borrow.Author.Tests.{eq-eqb, eqb-true, not-true}
use Rattle.conditions.specs.Conditions.{stop_if}
use Rattle.conditions.proofs.Rules.{both_true}
use Rattle.conditions.proofs.Tables.{every_below, at_below}
use Rattle.measures.specs.declared.Extent3d.{Extent3d}
use Rattle.mip_levels.specs.declared.TextureDimension.{TextureDimension}
use Rattle.mip_levels.specs.declared.TextureDimension.TheVariants.{D1, D2, D3}
use Rattle.mip_levels.specs.Level as levels
use Rattle.formats.specs.declared.TextureAspect.{TextureAspect}
use Rattle.formats.specs.Table.{formats, format_row, aspects_of, is_multi_planar, remove_srgb}
use Rattle.formats.specs.Aspects.{aspect_specific_format}
use Rattle.refusals.specs.declared.CopySide.TheVariants.{Source, Destination}
use Rattle.refusals.specs.Order.{Checks}
use Rattle.refusals.proofs.Order.{none_in, flat_empty, test_fails, test_off, checked_passes, passes_checked}
use Rattle.records.specs.declared.TextureSide.{TextureSide}
use Rattle.rule_copy_range.specs.Range as planned
use Rattle.rule_copy_range.specs.Range.{layer_count_of}
use Rattle.rule_copy_range.proofs.Accepted.{range_goes, range_went}
use Rattle.rule_selectors.specs.Selector.{overlaps, same_texture_checks}
use Rattle.copy_textures.specs.Copy.{BetweenTextures, between, is_one_texture, is_this, is_plane_split, chosen, plan_for}
use Rattle.copy_textures.specs.Laws.{Accepted}
use Rattle.copy_textures.proofs.Accepted.{every_copy_law}
use Rattle.claim_webgpu_rules.specs.Formats.{Known, dimension_of}
use Rattle.claim_webgpu_rules.specs.WebGpu.{Reading, WithLayers, OneLayer, TextureCopyRules}
use Rattle.claim_webgpu_rules.specs.Agreement.{layers_of, AllowsWithin}
use Rattle.claim_webgpu_rules.proofs.Rows.{below}
use Rattle.claim_webgpu_rules.proofs.Sizes.{dimension_is}
use Rattle.claim_webgpu_rules.proofs.TextureRanges.{Excepted, ranges_by_lem, no_layers_left}
use Rattle.claim_webgpu_rules.proofs.Subresources.{same_texture, same_texture_parts}
use Rattle.claim_webgpu_rules.proofs.Compatible.{compatible_formats, all_aspects}
use Rattle.claim_webgpu_copies.specs.Bounds.{TextureInBounds}
use Rattle.claim_webgpu_copies.specs.WholeCopies.{PlansTextures, Rules, ApartOrMoved, OutOfBounds, LayersLeft, TextureToTexture, TextureToTextureWithLayers, OntoItselfParts}
use Rattle.claim_webgpu_copies.proofs.Lines.{has_of, has_by, opposite}
use Rattle.claim_webgpu_copies.proofs.Records.{record_bounds}
use Rattle.claim_webgpu_copies.proofs.Textures.{texture_bounds}

-- every format of the standard has an aspect, and none is planar, so nothing is split
computed : ℕ → Bool
computed f = not (eqb (aspects_of f) 0) && not (is_multi_planar (remove_srgb f))

all_computed : every_below computed 21 ≡ true
unfolding computed aspects_of is_multi_planar remove_srgb format_row formats
all_computed = refl

some_aspect : (f : ℕ) → Known f → eqb (aspects_of f) 0 ≡ false
unfolding computed
some_aspect f k = not-true _ (both_true _ _ (at_below computed 21 all_computed f (below f k))).0

no_planes : (format : ℕ) → is_multi_planar (remove_srgb format) ≡ false → (aspect : TextureAspect) (to : ℕ) → is_this (aspect_specific_format (remove_srgb format) aspect) to ≡ false
unfolding aspect_specific_format is_this stop_if
no_planes format h aspect to = rw h

module _ (i j : ℕ) (src dst : TextureSide) (size : Extent3d) (k : Known src.texture.format) (l : Known dst.texture.format) where
  abbrev copy : BetweenTextures
  copy = between i src j dst size

  unsplit : is_plane_split src dst ≡ false
  unfolding is_plane_split computed
  unsplit =
      let f = src.texture.format in
      let none = not-true _ (both_true (not (eqb (aspects_of f) 0)) (not (is_multi_planar (remove_srgb f))) (at_below computed 21 all_computed f (below f k))).1 in
      no_planes src.texture.format none src.view.aspect (remove_srgb dst.texture.format)

  -- ---- within one texture

  abbrev layers : ℕ
  layers = layer_count_of src.texture size

  -- the layers that the rule is handed
  layers_are : layers ≡ layers_of (dimension_of src.texture.dimension) size.depth_or_array_layers
  unfolding layer_count_of
  layers_are = same (levels.texture_dimension src.texture.dimension) ∙ ap (λ d. layers_of d size.depth_or_array_layers) (dimension_is src.texture.dimension)
    where
      same : (d : TextureDimension) → planned.layers_of d size.depth_or_array_layers ≡ layers_of d size.depth_or_array_layers
      same D1 = refl
      same D2 = refl
      same D3 = refl

  abbrev Within : Type 0
  Within = AllowsWithin src.texture src.view dst.view size

  abbrev rule : Checks
  rule = same_texture_checks src.view dst.view src.texture.format layers

  abbrev Apart : Type 0
  Apart = overlaps src.view dst.view src.texture.format layers ≡ false

  within_of : Apart → Within
  unfolding same_texture_checks
  within_of a = rw (← layers_are) (passes_checked rule (flat_empty rule (test_off _ _ a, tt)))

  apart_of : Within → Apart
  unfolding same_texture_checks
  apart_of w = test_fails _ _ (none_in rule (checked_passes rule (rw (← layers_are) at w)) 0)

  -- ---- the checks

  module _ (reading : Reading) (whole : (Excepted reading src.texture src.view size ⊎ Excepted reading dst.texture dst.view size) → ⊥) where
    rules_of : Accepted copy → TextureCopyRules reading src.texture dst.texture src.view dst.view size
    rules_of p =
        record {
          src_valid = (ranges_by_lem reading src.view src.texture Source size k (λ x. whole (inl x))).0 (_, _, range_goes src.view src.texture Source size p.src_range);
          dst_valid = (ranges_by_lem reading dst.view dst.texture Destination size l (λ x. whole (inr x))).0 (_, _, range_goes dst.view dst.texture Destination size p.dst_range);
          src_usage = has_of src.texture.usage.0 0 p.src_usage;
          dst_usage = has_of dst.texture.usage.0 1 p.dst_usage;
          samples = p.samples;
          compatible = sym (compatible_formats src.texture.format dst.texture.format k l) ∙ eq-eqb _ _ (p.formats unsplit);
          src_aspects = (all_aspects _ _ k).0 (p.src_aspects unsplit);
          dst_aspects = (all_aspects _ _ l).0 p.dst_aspects;
        }

    accepted_of :
        (((TextureInBounds src.texture → ⊥) ⊎ (TextureInBounds dst.texture → ⊥)) → ⊥) → (eqb i j ≡ true → Within)
        → TextureCopyRules reading src.texture dst.texture src.view dst.view size → Accepted copy
    unfolding is_one_texture
    accepted_of bounds within v =
        let from = (ranges_by_lem reading src.view src.texture Source size k (λ x. whole (inl x))).1 v.src_valid in
        let to = (ranges_by_lem reading dst.view dst.texture Destination size l (λ x. whole (inr x))).1 v.dst_valid in
        let src_aspects : chosen src ≡ aspects_of src.texture.format = (all_aspects _ _ k).1 v.src_aspects in
        let dst_aspects : chosen dst ≡ aspects_of dst.texture.format = (all_aspects _ _ l).1 v.dst_aspects in
        record {
          src_bounds = texture_bounds src.texture (λ x. bounds (inl x));
          dst_bounds = texture_bounds dst.texture (λ x. bounds (inr x));
          formats = λ e. eqb-true _ _ (compatible_formats src.texture.format dst.texture.format k l ∙ v.compatible);
          src_range = (range_went src.view src.texture Source size from.0 from.1 from.2).0;
          dst_range = (range_went dst.view dst.texture Destination size to.0 to.1 to.2).0;
          plane_x = λ e. opposite _ e unsplit;
          plane_y = λ e. opposite _ e unsplit;
          apart = λ e. apart_of (within e);
          src_chosen = rw src_aspects (some_aspect src.texture.format k);
          dst_chosen = rw dst_aspects (some_aspect dst.texture.format l);
          src_aspects = λ e. src_aspects;
          dst_aspects = dst_aspects;
          samples = v.samples;
          src_usage = has_by src.texture.usage.0 0 v.src_usage;
          dst_usage = has_by dst.texture.usage.0 1 v.dst_usage;
        }

-- ---- the claims

module _ (i j : ℕ) (src dst : TextureSide) (size : Extent3d) (k : Known src.texture.format) (l : Known dst.texture.format) where
  in_bounds : Accepted (between i src j dst size) → OutOfBounds i j src dst size → ⊥
  in_bounds p (inl out) = out ((record_bounds.textures src.texture).0 p.src_bounds)
  in_bounds p (inr out) = out ((record_bounds.textures dst.texture).0 p.dst_bounds)

  abbrev Left : Reading → Type 0
  Left reading = Excepted reading src.texture src.view size ⊎ Excepted reading dst.texture dst.view size

  to_standard : (reading : Reading) → (Left reading → ⊥) → PlansTextures i j src dst size → Rules i j src dst size reading × ApartOrMoved i j src dst size × (OutOfBounds i j src dst size → ⊥)
  unfolding is_one_texture
  to_standard reading whole g =
      let p = ((every_copy_law (between i src j dst size)).is_accepted g.0 g.1).0 in
      (rules_of i j src dst size k l reading whole p, λ e. (same_texture src.texture src.view dst.view size k).0 (within_of i j src dst size k l (p.apart e)), in_bounds p)

  to_plan : (reading : Reading) → (Left reading → ⊥) → Rules i j src dst size reading → ApartOrMoved i j src dst size → (OutOfBounds i j src dst size → ⊥) → PlansTextures i j src dst size
  to_plan reading whole v apart bounds =
      (plan_for (between i src j dst size), (every_copy_law (between i src j dst size)).has_plan (accepted_of i j src dst size k l reading whole bounds (λ e. (same_texture src.texture src.view dst.view size k).1 (apart e)) v))

  none_left : Rules i j src dst size WithLayers → LayersLeft i j src dst size → ⊥
  none_left v (inl x) = no_layers_left src.texture src.view size v.src_valid x
  none_left v (inr x) = no_layers_left dst.texture dst.view size v.dst_valid x

nothing : (⊥ ⊎ ⊥) → ⊥
nothing (inl x) = x
nothing (inr x) = x

pub textures_agree : TextureToTexture
textures_agree i j src dst size k l = (to_standard i j src dst size k l OneLayer nothing, λ v. to_plan i j src dst size k l OneLayer nothing v.0 v.1 v.2)

pub textures_agree_with_layers : TextureToTextureWithLayers
textures_agree_with_layers i j src dst size k l = (
  λ g. to_standard i j src dst size k l WithLayers g.1 g.0,
  λ v. let whole = none_left i j src dst size k l v.0 in (to_plan i j src dst size k l WithLayers whole v.0 v.1 v.2, whole),
)

pub onto_itself_parts : OntoItselfParts
onto_itself_parts i j src dst size reading e m v = same_texture_parts src.texture src.view dst.view size m (v.disjoint e)
