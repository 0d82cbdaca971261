-- Between 2D and 3D textures.
-- Assumes nothing.
use mathlib.Core.Path.{◌≡◌, refl, sym, ap, ◌∙◌}
use mathlib.Core.Logic.{◌⊎◌, inl, inr}
use Prim.Native.Nat.{ℕ, ◌+◌, ◌≤◌, ◌<◌, min}
use native.Mathlib.Omega.{arith}
use native.Mathlib.Nat.{add-zero}
use Rattle.mip_levels.specs.declared.TextureDimension.{TextureDimension}
use Rattle.mip_levels.specs.declared.TextureDimension.TheVariants.{D1, D2, D3}
use Rattle.rule_copy_range.specs.Range as R
use Rattle.rule_selectors.specs.Selector as S
use Rattle.records.specs.declared.TextureSide.{TextureSide}
use Rattle.claim_webgpu_rules.specs.Formats.{Aspect}
use Rattle.claim_texture_regions.specs.Regions.{depth}
use Rattle.claim_webgpu_effects.specs.Blocks.{TexelBlock}
use Rattle.claim_webgpu_effects.specs.Standard.{layer_of, slice_of, ImageCopied, CopiesImage}
use Rattle.claim_webgpu_effects.specs.Effects.{dimension}
use Rattle.claim_webgpu_effects.specs.Mixed.{SlicesIntoLayers, on_layer, LayersIntoSlices, ImagesMissed, TheyDiffer, Exhaustive}
use Rattle.claim_webgpu_effects.proofs.Figures.{quotient_some, same_block, limit, Image, image_of}
use Rattle.claim_webgpu_effects.proofs.TextureEffects.{z, shifted, done, carried, src_side, dst_side, image_alike, image_block, shifted_is, one, some_named}

-- ---- by the dimensions

shallow : (v w : TextureDimension) (d dz : ℕ) → ((v ≡ D2) × (w ≡ D3)) ⊎ ((v ≡ D3) × (w ≡ D2)) → dz < min (R.depth_of v d) (R.depth_of w d) → dz ≡ 0
shallow v w d dz (inl (e, f)) h = let g = rw (e, f) at h in omega (arith, g)
shallow v w d dz (inr (e, f)) h = let g = rw (e, f) at h in omega (arith, g)

some_depth : (v w : TextureDimension) (d : ℕ) → 0 < d → 0 < min (R.depth_of v d) (R.depth_of w d)
some_depth v w d h = let a = deep v in let b = deep w in omega arith
  where
    deep : (v : TextureDimension) → 0 < R.depth_of v d
    deep D1 = omega arith
    deep D2 = omega arith
    deep D3 = h

-- region m of a side that has it is image m
image_at : (v : TextureDimension) (zv d m : ℕ) → zv + d ≤ limit v → 0 < d → m < R.layers_of v d → Image v zv d m 0 m
image_at v zv d m l pos h = rw (add-zero m) at (image_of v zv d m 0 l pos h (omega (arith, some_depth v v d pos)))

none_above : (v : TextureDimension) (d m : ℕ) → v ≡ D3 → m < R.layers_of v d → m ≡ 0
none_above v d m e h = let g = rw e at h in omega (arith, g)

-- ---- slices into layers

pub slices_into_layers : SlicesIntoLayers
slices_into_layers c rs k es ed from to = (
  λ g.
      let x = done c rs k from to g in
      let l₀ = none_above (dimension c.src) (depth c) x.layer es x.there in
      let z₀ = shallow (dimension c.src) (dimension c.dst) (depth c) x.dz (inr (es, ed)) x.deep in
      let im : ImageCopied c (shifted c.src 0 0) (shifted c.dst 0 0) from to = rw (l₀, z₀) at x.image in
      (x.some, image_alike _ _ _ _ (at_first c.src (src_side c rs k).deep x.some) (at_first c.dst (dst_side c rs k).deep x.some) im),
  λ (pos, im).
      carried c rs k from to
      (record {
        some = pos;
        layer = 0;
        dz = 0;
        there = one (dimension c.src) (depth c) pos;
        deep = some_depth (dimension c.src) (dimension c.dst) (depth c) pos;
        image = image_alike _ _ _ _ (λ a i j. sym (at_first c.src (src_side c rs k).deep pos a i j)) (λ a i j. sym (at_first c.dst (dst_side c rs k).deep pos a i j)) im;
      }),
)
  where
    at_first : (s : TextureSide) → z s + depth c ≤ limit (dimension s) → 0 < depth c → (a : Aspect) (i j : ℕ) → shifted s 0 0 a i j ≡ image_block s 0 a i j
    at_first s l pos = shifted_is s (depth c) 0 0 0 (image_at (dimension s) (z s) (depth c) 0 l pos (one (dimension s) (depth c) pos))

-- ---- layers into slices

-- layer m of a volume
layer_of_lem : (v : TextureDimension) (zv m : ℕ) → v ≡ D3 → S.layer_of v zv + m ≡ m
layer_of_lem v zv m e = rw e (omega arith)

slice-of : (v : TextureDimension) (zv : ℕ) → v ≡ D3 → S.z_of v zv + 0 ≡ slice_of v (zv + 0)
slice-of v zv e = rw e

no_layer_lem : (v : TextureDimension) (n : ℕ) → v ≡ D3 → layer_of v n ≡ 0
no_layer_lem v n e = rw e

pub layers_into_slices : LayersIntoSlices
layers_into_slices c rs k es ed from to =
    record {
      does = (
        λ g.
            let x = done c rs k from to g in
            let z₀ = shallow (dimension c.src) (dimension c.dst) (depth c) x.dz (inl (es, ed)) x.deep in
            let im : ImageCopied c (shifted c.src x.layer 0) (shifted c.dst x.layer 0) from to = rw z₀ at x.image in
            (x.layer, rw es at x.there, image_alike _ _ _ _ (source x.layer x.some x.there) (strayed x.layer) im),
        λ (n, l, im).
            let pos : 0 < depth c = omega arith in
            let there : n < R.layers_of (dimension c.src) (depth c) = rw es l in
            carried c rs k from to
            (record {
              some = pos;
              layer = n;
              dz = 0;
              there = there;
              deep = some_depth (dimension c.src) (dimension c.dst) (depth c) pos;
              image = image_alike _ _ _ _ (λ a i j. sym (source n pos there a i j)) (λ a i j. sym (strayed n a i j)) im;
            }),
      );
      first = (
        image_alike _ _ _ _ (λ a i j. refl) (λ a i j. same_block (sym (no_layer_lem _ _ ed)) refl refl refl),
        image_alike _ _ _ _ (λ a i j. refl) (λ a i j. same_block (no_layer_lem _ _ ed) refl refl refl),
      );
      stray = λ n pos q (m, l, im).
          let e : n ≡ layer_of (dimension c.dst) (z c.dst + m) = ap (λ (b : TexelBlock). b.layer) (sym q.written ∙ im.written) in
          omega (arith, e, no_layer_lem (dimension c.dst) (z c.dst + m) ed);
    }
  where
    source : (n : ℕ) → 0 < depth c → n < R.layers_of (dimension c.src) (depth c) → (a : Aspect) (i j : ℕ) → shifted c.src n 0 a i j ≡ image_block c.src n a i j
    source n pos l = shifted_is c.src (depth c) n 0 n (image_at (dimension c.src) (z c.src) (depth c) n (src_side c rs k).deep pos l)

    strayed : (n : ℕ) (a : Aspect) (i j : ℕ) → shifted c.dst n 0 a i j ≡ on_layer n (image_block c.dst 0 a i j)
    strayed n a i j = same_block (layer_of_lem _ _ n ed) (slice-of _ _ ed) refl refl

-- ---- they differ

pub images_missed : ImagesMissed
images_missed c rs k (inl (es, ed)) from to n pos im g =
    let x = done c rs k from to g in
    let z₀ = shallow (dimension c.src) (dimension c.dst) (depth c) x.dz (inl (es, ed)) x.deep in
    let e : S.z_of (dimension c.dst) (z c.dst) + x.dz ≡ slice_of (dimension c.dst) (z c.dst + n) = ap (λ (b : TexelBlock). b.slice) (sym x.image.written ∙ im.written) in
    let f = rw ed at e in
    omega (arith, f, z₀)
images_missed c rs k (inr (es, ed)) from to n pos im g =
    let x = done c rs k from to g in
    let l₀ = none_above (dimension c.src) (depth c) x.layer es x.there in
    let e : S.layer_of (dimension c.dst) (z c.dst) + x.layer ≡ layer_of (dimension c.dst) (z c.dst + n) = ap (λ (b : TexelBlock). b.layer) (sym x.image.written ∙ im.written) in
    let f = rw ed at e in
    omega (arith, f, l₀)

pub they_differ : TheyDiffer
they_differ c rs k m pw ph pd =
    let part = some_named c rs k in
    let from = image_block c.src 1 part.0.aspect 0 0 in
    let to = image_block c.dst 1 part.0.aspect 0 0 in
    let side = dst_side c rs k in
    let im : CopiesImage c 1 from to =
    record {
      part = part.0;
      asked = part.1;
      i = 0;
      j = 0;
      column = quotient_some _ _ pw side.w_whole;
      row = quotient_some _ _ ph side.h_whole;
      taken = refl;
      written = refl;
    } in
    (from, to, (1, pd, im), λ g. images_missed c rs k m from to 1 (omega arith) im g)

-- ---- every case

by_dimensions : (v w : TextureDimension) (zv zw d : ℕ) → zv + d ≤ limit v → zw + d ≤ limit w → ((v ≡ w) ⊎ (d ≤ 1)) ⊎ (((v ≡ D2) × (w ≡ D3)) ⊎ ((v ≡ D3) × (w ≡ D2)))
by_dimensions D1 w zv zw d h l = inl (inr (omega arith))
by_dimensions D2 D1 zv zw d h l = inl (inr (omega arith))
by_dimensions D2 D2 zv zw d h l = inl (inl refl)
by_dimensions D2 D3 zv zw d h l = inr (inl (refl, refl))
by_dimensions D3 D1 zv zw d h l = inl (inr (omega arith))
by_dimensions D3 D2 zv zw d h l = inr (inr (refl, refl))
by_dimensions D3 D3 zv zw d h l = inl (inl refl)

pub exhaustive : Exhaustive
exhaustive c rs k = by_dimensions (dimension c.src) (dimension c.dst) (z c.src) (z c.dst) (depth c) (src_side c rs k).deep (dst_side c rs k).deep
