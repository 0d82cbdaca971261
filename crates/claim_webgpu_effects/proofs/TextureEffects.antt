-- What the regions of a copy between textures do.
-- Assumes nothing.
use mathlib.Core.Path.{◌≡◌, refl, sym, ap, ◌∙◌}
use mathlib.Core.List.{List}
use mathlib.Core.Logic.{◌⊎◌, inl, inr}
use Prim.Native.Nat.{ℕ, ◌+◌, ◌*◌, ◌/◌, ◌%◌, ◌≤◌, ◌<◌, min}
use native.Mathlib.Omega.{arith}
use native.Mathlib.Nat.{div-one}
use Rattle.mip_levels.specs.declared.TextureDimension.{TextureDimension}
use Rattle.mip_levels.specs.declared.TextureDimension.TheVariants.{D1, D2, D3}
use Rattle.formats.specs.Aspects.{chosen_aspects}
use Rattle.rule_copy_range.specs.Range as R
use Rattle.rule_selectors.specs.declared.TextureCopyBase.{TextureCopyBase}
use Rattle.rule_selectors.specs.Selector as S
use Rattle.records.specs.declared.TextureSide.{TextureSide}
use Rattle.plan_textures.specs.declared.TextureCopy.{TextureCopy}
use Rattle.claim_webgpu_rules.specs.Formats.{Aspect, Part, Format, format_of, named, dimension_of}
use Rattle.claim_texture_regions.specs.Regions as T
use Rattle.claim_texture_regions.proofs.Accepted as A
use Rattle.claim_texture_regions.proofs.Same.{same_layers, same_depth, same_layer, same_z}
use Rattle.claim_texture_regions.proofs.Claims.{every_texture_copy}
use Rattle.claim_webgpu_effects.specs.Blocks.{TexelBlock, In}
use Rattle.claim_webgpu_effects.specs.Standard.{block_at, ImageCopied}
use Rattle.claim_webgpu_effects.specs.Regions.{Carries}
use Rattle.claim_webgpu_effects.specs.Effects.{Accepted, CarriedBy, dimension, TextureEffects}
use Rattle.claim_webgpu_effects.proofs.Formats.{HasBit, named_has, has_named, part_of, named_all, Alike}
use Rattle.claim_webgpu_effects.proofs.Figures.{in_blocks_lem, in_texels, some_blocks, same_block, no_zero, depth_some, Image, image_of, layer_for, slice_for, region_of_lem}
use Rattle.claim_webgpu_effects.proofs.Sides.{Side, side_of_lem}
use Rattle.claim_webgpu_effects.proofs.TextureParts as parts

-- ---- a region of the standard's formats divides nothing

abbrev pub z : TextureSide → ℕ
z s = s.view.origin.z

abbrev plain_side : TextureSide → ℕ → ℕ → TextureCopyBase
plain_side s layer bits =
    record {
      mip_level = s.view.mip_level;
      array_layer = S.layer_of (dimension s) (z s) + layer;
      origin = record { x = s.view.origin.x; y = s.view.origin.y; z = S.z_of (dimension s) (z s) };
      aspect = record { 0 = bits };
    }

abbrev region_depth : T.Copy → ℕ
region_depth c = min (R.depth_of (dimension c.src) (T.depth c)) (R.depth_of (dimension c.dst) (T.depth c))

abbrev plain : T.Copy → ℕ → ℕ → ℕ → TextureCopy
plain c layer src dst =
    record {
      src = plain_side c.src layer src;
      dst = plain_side c.dst layer dst;
      size = record { width = c.size.width; height = c.size.height; depth = region_depth c };
    }

dimension_is : (s : TextureSide) → T.dimension s ≡ dimension s
unfolding T.dimension dimension_of
dimension_is s = refl

plain_side_lem : (s : TextureSide) (layer bits : ℕ) → T.side_of s layer bits 1 ≡ plain_side s layer bits
plain_side_lem s layer bits = rw (dimension_is s, same_layer (dimension s) (z s), same_z (dimension s) (z s), div-one s.view.origin.x.0, div-one s.view.origin.y.0)

plain_region : (c : T.Copy) (layer : ℕ) (q : T.Part) → q.factor ≡ 1 → T.region_of c layer q ≡ plain c layer q.src q.dst
plain_region c layer q e =
    rw (e, plain_side_lem c.src layer q.src, plain_side_lem c.dst layer q.dst, div-one c.size.width.0, div-one c.size.height.0, dimension_is c.src, dimension_is c.dst, same_depth (dimension c.src) (T.depth c), same_depth (dimension c.dst) (T.depth c))

-- ---- what they do, by layer and depth

-- the block in column i and row j, a layer and a slice on from where the first region starts
abbrev pub shifted : TextureSide → ℕ → ℕ → Aspect → ℕ → ℕ → TexelBlock
shifted s layer dz aspect i j =
    record {
      level = s.view.mip_level;
      aspect = aspect;
      layer = S.layer_of (dimension s) (z s) + layer;
      slice = S.z_of (dimension s) (z s) + dz;
      x = s.view.origin.x.0 + i * (format_of s.texture.format).block_width_of;
      y = s.view.origin.y.0 + j * (format_of s.texture.format).block_height_of;
    }

pub record Done (c : T.Copy) (from to : TexelBlock) : Type 0 where
  pub some : 0 < T.depth c
  pub layer : ℕ
  pub dz : ℕ
  pub there : layer < R.layers_of (dimension c.src) (T.depth c)
  pub deep : dz < region_depth c
  pub image : ImageCopied c (shifted c.src layer dz) (shifted c.dst layer dz) from to

module _ (c : T.Copy) (rs : List TextureCopy) (k : Accepted c rs) where
  checks : A.Accepted k.i k.j c
  checks = (A.accepted k.i k.j c k.plan k.planned).0

  regions_are : rs ≡ T.regions_of c
  regions_are = (every_texture_copy k.i k.j c k.plan k.planned rs).0 k.given

  among : (r : TextureCopy) → In r (T.regions_of c) → In r rs
  among r i = rw regions_are i

  abbrev f : Format
  f = format_of c.dst.texture.format

  pub src_side : Side c.src.texture c.src.view c.size
  src_side = side_of_lem c.src.texture c.src.view c.size checks.src_bounds checks.src_range k.src_known

  pub dst_side : Side c.dst.texture c.dst.view c.size
  dst_side = side_of_lem c.dst.texture c.dst.view c.size checks.dst_bounds checks.dst_range k.dst_known

  abbrev word : ℕ
  word = parts.word k.i k.j c checks k.src_known k.dst_known

  alike : Alike c.src.texture.format c.dst.texture.format
  alike = parts.formats_alike k.i k.j c checks k.src_known k.dst_known

  chosen : chosen_aspects c.dst.texture.format c.dst.view.aspect ≡ word
  chosen = parts.dst_chosen k.i k.j c checks k.src_known k.dst_known

  -- an accepted copy names an aspect
  pub some_named : (p : Part) × In p (named f c.dst.view.aspect)
  some_named = named_all c.dst.texture.format c.dst.view.aspect k.dst_known chosen

  module _ (from to : TexelBlock) (layer : ℕ) where
    imaged : (src dst : ℕ) (q : Carries f (plain c layer src dst) from to) → HasBit word q.aspect → ImageCopied c (shifted c.src layer q.dz) (shifted c.dst layer q.dz) from to
    imaged src dst q has =
        let format = c.dst.texture.format in
        let x = in_blocks_lem f.block_width_of c.dst.view.origin.x.0 q.dx c.size.width.0 dst_side.x_whole (ap (λ (t : TexelBlock). t.x % f.block_width_of) (sym q.destination) ∙ q.grid.0) dst_side.w_whole q.x in
        let y = in_blocks_lem f.block_height_of c.dst.view.origin.y.0 q.dy c.size.height.0 dst_side.y_whole (ap (λ (t : TexelBlock). t.y % f.block_height_of) (sym q.destination) ∙ q.grid.1) dst_side.h_whole q.y in
        let part = part_of format q.aspect k.dst_known has in
        record {
          part = part.0;
          asked = has_named format c.dst.view.aspect k.dst_known part.0 part.1 (rw (chosen, part.2) has);
          i = q.dx / f.block_width_of;
          j = q.dy / f.block_height_of;
          column = x.1;
          row = y.1;
          taken = q.source ∙ rw (part.2, alike.width, alike.height, x.0, y.0);
          written = q.destination ∙ rw (part.2, x.0, y.0);
        }

    carries :
        (dz src dst : ℕ) → dz < region_depth c → (q : ImageCopied c (shifted c.src layer dz) (shifted c.dst layer dz) from to)
        → HasBit src q.part.aspect → HasBit dst q.part.aspect → Carries f (plain c layer src dst) from to
    carries dz src dst deep q hs hd =
        let x = in_texels f.block_width_of c.dst.view.origin.x.0 q.i c.size.width.0 dst_side.bw_pos dst_side.x_whole dst_side.w_whole q.column in
        let y = in_texels f.block_height_of c.dst.view.origin.y.0 q.j c.size.height.0 dst_side.bh_pos dst_side.y_whole dst_side.h_whole q.row in
        record {
          aspect = q.part.aspect;
          src_bits = hs;
          dst_bits = hd;
          dx = q.i * f.block_width_of;
          dy = q.j * f.block_height_of;
          dz = dz;
          x = x.0;
          y = y.0;
          z = deep;
          source = q.taken ∙ rw (alike.width, alike.height);
          destination = q.written;
          grid = (ap (λ (t : TexelBlock). t.x % f.block_width_of) q.written ∙ x.1, ap (λ (t : TexelBlock). t.y % f.block_height_of) q.written ∙ y.1);
        }

  layers_are : T.layers_of (T.dimension c.src) (T.depth c) ≡ R.layers_of (dimension c.src) (T.depth c)
  layers_are = ap (λ (v : TextureDimension). T.layers_of v (T.depth c)) (dimension_is c.src) ∙ sym (same_layers (dimension c.src) (T.depth c))

  pub done : (from to : TexelBlock) → CarriedBy c rs from to → Done c from to
  done from to (r, i, q) =
      let s = parts.split c (rw regions_are at i) in
      let q' : Carries f (T.region_of c s.layer s.part) from to = rw s.region q in
      let has = parts.part_has k.i k.j c checks k.src_known k.dst_known s.part in
      let w : Carries f (plain c s.layer s.part.src s.part.dst) from to = rw (plain_region c s.layer s.part (has q'.aspect s.of_copy q'.src_bits).1) at q' in
      record {
        some = depth_some c.size.width.0 c.size.height.0 (T.depth c) s.some;
        layer = s.layer;
        dz = w.dz;
        there = rw layers_are at s.there;
        deep = w.z;
        image = imaged from to s.layer s.part.src s.part.dst w (has w.aspect s.of_copy w.src_bits).0;
      }

  pub carried : (from to : TexelBlock) → Done c from to → CarriedBy c rs from to
  carried from to d =
      let im = d.image in
      let named = named_has c.dst.texture.format c.dst.view.aspect k.dst_known im.part im.asked in
      let q = parts.has_part k.i k.j c checks k.src_known k.dst_known im.part.aspect (rw chosen at named.1) in
      let some = no_zero c.size.width.0 c.size.height.0 (T.depth c) (some_blocks _ _ _ im.column) (some_blocks _ _ _ im.row) d.some in
      let r = T.region_of c d.layer q.0 in
      let w : Carries f r from to = rw (plain_region c d.layer q.0 q.4) (carries from to d.layer d.dz q.0.src q.0.dst d.deep im q.2 q.3) in
      (r, among r (parts.joined c d.layer q.0 some (rw layers_are d.there) q.1), w)

-- ---- the same blocks, said in another way

pub image_alike :
    {c : T.Copy} {from to : TexelBlock} (s s' d d' : Aspect → ℕ → ℕ → TexelBlock) → ((a : Aspect) (i j : ℕ) → s a i j ≡ s' a i j)
    → ((a : Aspect) (i j : ℕ) → d a i j ≡ d' a i j) → ImageCopied c s d from to → ImageCopied c s' d' from to
image_alike s s' d d' es ed q =
    record {
      part = q.part;
      asked = q.asked;
      i = q.i;
      j = q.j;
      column = q.column;
      row = q.row;
      taken = q.taken ∙ es q.part.aspect q.i q.j;
      written = q.written ∙ ed q.part.aspect q.i q.j;
    }

abbrev pub image_block : TextureSide → ℕ → Aspect → ℕ → ℕ → TexelBlock
image_block s k a i j = block_at s.texture s.view a i j k

pub shifted_is : (s : TextureSide) (d l dz k : ℕ) → Image (dimension s) (z s) d l dz k → (a : Aspect) (i j : ℕ) → shifted s l dz a i j ≡ image_block s k a i j
shifted_is s d l dz k im a i j = same_block im.layer im.slice refl refl

-- ---- within one dimension, or of one image

few : (v : TextureDimension) (d l : ℕ) → d ≤ 1 → l < R.layers_of v d → l ≡ 0
few D1 d l h m = omega arith
few D2 d l h m = omega arith
few D3 d l h m = omega arith

pub one : (v : TextureDimension) (d : ℕ) → 0 < d → 0 < R.layers_of v d
one D1 d h = omega arith
one D2 d h = h
one D3 d h = omega arith

fits : (v w : TextureDimension) (d l : ℕ) → (v ≡ w) ⊎ (d ≤ 1) → 0 < d → l < R.layers_of v d → l < R.layers_of w d
fits v w d l (inl e) pos h = rw (← e) h
fits v w d l (inr e) pos h = rw (few v d l e h) (one w d pos)

first_layer : (v : TextureDimension) → (layer_for v 0 ≡ 0) × (slice_for v 0 ≡ 0)
first_layer D1 = (refl, refl)
first_layer D2 = (refl, refl)
first_layer D3 = (refl, refl)

same_region : (v w : TextureDimension) (d k : ℕ) → (v ≡ w) ⊎ (d ≤ 1) → k < d → (layer_for w k ≡ layer_for v k) × (slice_for w k ≡ slice_for v k)
same_region v w d k (inl e) h = rw e (refl, refl)
same_region v w d k (inr e) h =
    let k₀ : k ≡ 0 = omega arith in
    let a = first_layer v in
    let b = first_layer w in
    rw k₀ (b.0 ∙ sym a.0, b.1 ∙ sym a.1)

pub every_texture_effect : TextureEffects
every_texture_effect c rs k h from to = (
  λ g.
      let x = done c rs k from to g in
      let s = image_of (dimension c.src) (z c.src) (T.depth c) x.layer x.dz (src_side c rs k).deep x.some x.there (omega (arith, x.deep)) in
      let t = image_of (dimension c.dst) (z c.dst) (T.depth c) x.layer x.dz (dst_side c rs k).deep x.some (fits _ _ _ _ h x.some x.there) (omega (arith, x.deep)) in
      (x.layer + x.dz, s.below, image_alike _ _ _ _ (shifted_is c.src _ _ _ _ s) (shifted_is c.dst _ _ _ _ t) x.image),
  λ (n, l, im).
      let e = same_region (dimension c.src) (dimension c.dst) (T.depth c) n h l in
      let s = region_of_lem (dimension c.src) (z c.src) (T.depth c) n (src_side c rs k).deep l in
      let t = rw (e.0, e.1) at (region_of_lem (dimension c.dst) (z c.dst) (T.depth c) n (dst_side c rs k).deep l) in
      carried c rs k from to
      (record {
        some = omega arith;
        layer = layer_for (dimension c.src) n;
        dz = slice_for (dimension c.src) n;
        there = s.there;
        deep = omega (arith, s.deep, t.deep);
        image = image_alike _ _ _ _ (λ a i j. sym (shifted_is c.src _ _ _ _ s a i j)) (λ a i j. sym (shifted_is c.dst _ _ _ _ t a i j)) im;
      }),
)
