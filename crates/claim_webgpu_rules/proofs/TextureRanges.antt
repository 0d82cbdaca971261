-- The range rule against the standard's rules on a texture's part.
-- Assumes nothing.
use mathlib.Core.Path.{◌≡◌, refl, sym, ap, ◌∙◌}
use mathlib.Core.Bool.{Bool, true, false, ◌||◌}
use mathlib.Core.Logic.{inl, inr, ⊎_elim, ◌↔◌}
use native.Mathlib.Omega.{arith}
use lib.Dec.{ltb}
use borrow.Author.Tests.{lt-ltb, ltb-true}
use Rattle.conditions.proofs.Rules.{either}
use Rattle.measures.specs.declared.Extent3d.{Extent3d}
use Rattle.formats.specs.Table.{block_width_of, block_height_of, is_depth_stencil}
use Rattle.refusals.specs.declared.CopySide.{CopySide}
use Rattle.records.specs.declared.Texture.{Texture}
use Rattle.records.specs.declared.TexelCopyTextureInfo.{TexelCopyTextureInfo}
use Rattle.records.specs.Extents.{physical_extent}
use Rattle.rule_copy_range.specs.Range.{requires_exact, copy_extent, layer_count_of, range_checked}
use Rattle.rule_copy_range.specs.Laws.{RangeLaws}
use Rattle.rule_copy_range.proofs.Accepted.{range_goes, range_went}
use Rattle.claim_webgpu_rules.specs.Formats.{Known, format_of}
use Rattle.claim_webgpu_rules.specs.WebGpu.{physical_subresource_size, CopiedWhole, Reading, WithLayers, OneLayer, IsWhole, TexelCopyTexture}
use Rattle.claim_webgpu_rules.specs.Agreement.{GoesOn, SomeLayers, Ranges, RangesWithLayers}
use Rattle.claim_webgpu_rules.proofs.Rows.{decided, row_of}
use Rattle.claim_webgpu_rules.proofs.Sizes.{physical_extents}

same_extent : (a b : Extent3d) → a.width.0 ≡ b.width.0 → a.height.0 ≡ b.height.0 → a.depth_or_array_layers ≡ b.depth_or_array_layers → a ≡ b
same_extent a b w h d = λ i. record { width = record { 0 = w i }; height = record { 0 = h i }; depth_or_array_layers = d i }

-- which textures are copied whole
exact_of : (t : Texture) → Known t.format → CopiedWhole t → requires_exact t ≡ true
unfolding requires_exact
exact_of t k (inl e) = rw ((row_of t.format k).depth_or_stencil, e)
exact_of t k (inr h) = go (is_depth_stencil t.format)
  where
    go : (s : Bool) → (s || ltb 1 t.sample_count) ≡ true
    go true = refl
    go false = lt-ltb 1 t.sample_count h

whole_of : (t : Texture) → Known t.format → requires_exact t ≡ true → CopiedWhole t
unfolding requires_exact
whole_of t k e = ⊎_elim (λ d. inl (sym (row_of t.format k).depth_or_stencil ∙ d)) (λ s. inr (ltb-true 1 t.sample_count s)) (either (is_depth_stencil t.format) (ltb 1 t.sample_count) e)

-- what a reading refuses more than the rule
abbrev pub Excepted : Reading → Texture → TexelCopyTextureInfo → Extent3d → Type 0
Excepted WithLayers t view size = SomeLayers t view size
Excepted OneLayer t view size = ⊥

module _ (view : TexelCopyTextureInfo) (t : Texture) (size : Extent3d) (k : Known t.format) where
  abbrev ours : Extent3d
  ours = physical_extent t view.mip_level

  abbrev theirs : Extent3d
  theirs = physical_subresource_size t view.mip_level

  same : ours ≡ theirs
  same = physical_extents t view.mip_level k

  width : ours.width.0 ≡ theirs.width.0
  width = ap (λ (e : Extent3d). e.width.0) same

  height : ours.height.0 ≡ theirs.height.0
  height = ap (λ (e : Extent3d). e.height.0) same

  depth : ours.depth_or_array_layers ≡ theirs.depth_or_array_layers
  depth = ap (λ (e : Extent3d). e.depth_or_array_layers) same

  abbrev w : (format_of t.format).block_width_of ≡ block_width_of t.format
  w = sym (row_of t.format k).width

  abbrev h : (format_of t.format).block_height_of ≡ block_height_of t.format
  h = sym (row_of t.format k).height

  -- width and height are whole, and where it is asked the depth
  whole_by : (reading : Reading) → (Excepted reading t view size → ⊥) → RangeLaws view t size → CopiedWhole t → IsWhole reading theirs size
  whole_by WithLayers within r c =
      let e = exact_of t k c in
      same_extent theirs size (sym (r.exact_width e ∙ width)) (sym (r.exact_height e ∙ height)) (decided _ _ (λ f. within (c, f)))
  whole_by OneLayer within r c = let e = exact_of t k c in (sym (r.exact_width e ∙ width), sym (r.exact_height e ∙ height))

  sides : (reading : Reading) → IsWhole reading theirs size → (theirs.width.0 ≡ size.width.0) × (theirs.height.0 ≡ size.height.0)
  sides WithLayers e = (ap (λ (x : Extent3d). x.width.0) e, ap (λ (x : Extent3d). x.height.0) e)
  sides OneLayer e = e

  valid : (reading : Reading) → (Excepted reading t view size → ⊥) → RangeLaws view t size → TexelCopyTexture reading t view size
  valid reading within r =
      record {
        level = r.level;
        x_aligned = rw w r.x_whole;
        y_aligned = rw h r.y_whole;
        whole = whole_by reading within r;
        range =
            record {
              x = omega (arith, r.x_inside, width);
              y = omega (arith, r.y_inside, height);
              z = omega (arith, r.z_inside, depth);
              width = rw w r.width_whole;
              height = rw h r.height_whole;
            };
      }

  laws : (reading : Reading) → TexelCopyTexture reading t view size → RangeLaws view t size
  laws reading v =
      record {
        level = v.level;
        x_inside = omega (arith, v.range.x, width);
        y_inside = omega (arith, v.range.y, height);
        z_inside = omega (arith, v.range.z, depth);
        x_whole = rw (← w) v.x_aligned;
        y_whole = rw (← h) v.y_aligned;
        width_whole = rw (← w) v.range.width;
        height_whole = rw (← h) v.range.height;
        exact_width = λ e. sym (width ∙ (sides reading (v.whole (whole_of t k e))).0);
        exact_height = λ e. sym (height ∙ (sides reading (v.whole (whole_of t k e))).1);
      }

pub ranges_by_lem :
    (reading : Reading) (view : TexelCopyTextureInfo) (t : Texture) (side : CopySide) (size : Extent3d) → Known t.format
    → (Excepted reading t view size → ⊥) → GoesOn (range_checked view t side size) ↔ TexelCopyTexture reading t view size
ranges_by_lem reading view t side size k within = (
  λ g. valid view t size k reading within (range_went view t side size g.0 g.1 g.2).0,
  λ v. (copy_extent t size, layer_count_of t size, range_goes view t side size (laws view t size k reading v)),
)

pub no_layers_left : (t : Texture) (view : TexelCopyTextureInfo) (size : Extent3d) → TexelCopyTexture WithLayers t view size → SomeLayers t view size → ⊥
no_layers_left t view size v (c, other) = other (ap (λ (e : Extent3d). e.depth_or_array_layers) (v.whole c))

pub ranges : Ranges
ranges view t side size k = ranges_by_lem OneLayer view t side size k (λ x. x)

goes_with_layers :
    (view : TexelCopyTextureInfo) (t : Texture) (side : CopySide) (size : Extent3d) → Known t.format
    → TexelCopyTexture WithLayers t view size → GoesOn (range_checked view t side size)
goes_with_layers view t side size k v = (copy_extent t size, layer_count_of t size, range_goes view t side size (laws view t size k WithLayers v))

pub ranges_with_layers : RangesWithLayers
ranges_with_layers view t side size k = (
  λ g. (ranges_by_lem WithLayers view t side size k g.1).0 g.0,
  λ v. (goes_with_layers view t side size k v, no_layers_left t view size v),
)
