-- The regions of a copy between formats of the standard: each is of a layer and a part, and the parts have the format's aspects.
-- Assumes nothing.
use mathlib.Core.Path.{◌≡◌, refl, sym, ap, ◌∙◌}
use mathlib.Core.Bool.{Bool, true, false, cond}
use mathlib.Core.List.{List, [], ◌∷◌}
use Prim.Native.Nat.{ℕ, zero, suc, ◌+◌, ◌-◌, ◌*◌, ◌/◌, ◌%◌, ◌≤◌, ◌<◌}
use native.Mathlib.Omega.{arith}
use native.Mathlib.Nat.{add-zero, zero-add, mul-zero, mod-lt, div-lt_iff_lt-mul}
use lib.Dec.{eqb}
use lib.ListN.{length, get_or}
use lib.Arith.{digits_lt, digits_div, digits_mod}
use borrow.Author.Tests.{ne_eqb, eqb-true}
use Rattle.conditions.specs.Conditions.{pick, stop_if}
use Rattle.formats.specs.Table.{format_row, aspects_of, is_multi_planar, remove_srgb}
use Rattle.formats.specs.Aspects.{aspect_specific_format}
use Rattle.plan_textures.specs.declared.TextureCopy.{TextureCopy}
use Rattle.copy_textures.specs.Copy.{is_this, is_plane_split}
use Rattle.claim_webgpu_rules.specs.Formats.{Aspect, Color, Depth, Stencil, Known}
use Rattle.claim_webgpu_rules.proofs.Rows.{below}
use Rattle.claim_texture_regions.specs.Regions.{Copy, Part, part, bits, parts, dimension, depth, layers_of, is_empty, is_nv12, region_of, region_at, regions_from, regions_of}
use Rattle.claim_texture_regions.proofs.Accepted as A
use Rattle.claim_texture_regions.proofs.Same.{same_bits_lem}
use Rattle.claim_webgpu_effects.specs.Blocks.{In, first, later}
use Rattle.claim_webgpu_effects.proofs.Formats.{HasBit, nowhere, Alike, alike}

-- ---- elements of a list by number

pub in_at : {X : Type 0} (xs : List X) (t : ℕ) (none : X) → t < length xs → In (get_or xs t none) xs
in_at [] t none h = absurd (omega arith)
in_at (x ∷ xs) zero none h = first refl
in_at (x ∷ xs) (suc t) none h = later (in_at xs t none (omega arith))

pub at_in : {X : Type 0} {x : X} (xs : List X) (none : X) → In x xs → (t : ℕ) × (t < length xs) × (get_or xs t none ≡ x)
at_in [] none h = nowhere h
at_in (y ∷ ys) none (first e) = (0, omega arith, e)
at_in (y ∷ ys) none (later h) = let t = at_in ys none h in (suc t.0, omega (arith, t.1), t.2)

-- ---- the regions by layer and part

module _ (c : Copy) where
  number_of : {r : TextureCopy} (n k : ℕ) → In r (regions_from c k n) → (m : ℕ) × (m < n) × (region_at c (k + m) ≡ r)
  number_of zero k h = nowhere h
  number_of (suc n) k (first e) = (0, omega arith, ap (region_at c) (add-zero k) ∙ e)
  number_of (suc n) k (later h) =
      let t = number_of n (suc k) h in
      let e : k + suc t.0 ≡ suc k + t.0 = omega arith in
      (suc t.0, omega (arith, t.1), ap (region_at c) e ∙ t.2)

  of_number : (n k m : ℕ) → m < n → In (region_at c (k + m)) (regions_from c k n)
  of_number zero k m h = absurd (omega arith)
  of_number (suc n) k zero h = first (ap (region_at c) (sym (add-zero k)))
  of_number (suc n) k (suc m) h =
      let e : suc k + m ≡ k + suc m = omega arith in
      let i : In (region_at c (k + suc m)) (regions_from c (suc k) n) = rw (← e) (of_number n (suc k) m (omega arith)) in
      later i

  abbrev layers : ℕ
  layers = layers_of (dimension c.src) (depth c)

  abbrev count : ℕ
  count = length (parts c)

  pub record Split (r : TextureCopy) : Type 0 where
    pub some : is_empty c.size ≡ false
    pub layer : ℕ
    pub there : layer < layers
    pub part : Part
    pub of_copy : In part (parts c)
    pub region : region_of c layer part ≡ r

  pub split : {r : TextureCopy} → In r (regions_of c) → Split r
  split {r} h = let n = number_of _ 0 h in go (is_empty c.size) refl n.0 n.1 (ap (region_at c) (sym (zero-add n.0)) ∙ n.2)
    where
      positive : (m n : ℕ) → m < layers * n → 0 < n
      positive m zero h = absurd (omega (arith, h, mul-zero layers))
      positive m (suc n) h = omega arith

      go : (t : Bool) → is_empty c.size ≡ t → (m : ℕ) → m < cond t 0 (layers * count) → region_at c m ≡ r → Split r
      go true e m l q = absurd (omega arith)
      go false e m l q =
          let pos = positive m count l in
          record {
            some = e;
            layer = m / count;
            there = (div-lt_iff_lt-mul pos).1 l;
            part = get_or (parts c) (m % count) (part 0 0 1);
            of_copy = in_at (parts c) (m % count) (part 0 0 1) (mod-lt m pos);
            region = q;
          }

  pub joined : (layer : ℕ) (q : Part) → is_empty c.size ≡ false → layer < layers → In q (parts c) → In (region_of c layer q) (regions_of c)
  joined layer q some l i =
      let t = at_in (parts c) (part 0 0 1) i in
      let m = layer * count + t.0 in
      let e : region_at c (0 + m) ≡ region_of c layer q = ap (region_at c) (zero-add m) ∙ rw (digits_div layer t.1, digits_mod layer t.1, t.2) in
      rw (some, ← e) (of_number (layers * count) 0 m (digits_lt l t.1))

-- ---- the parts have the format's aspects

-- depth, then stencil; else all at once
abbrev parts_of : Bool → ℕ → List Part
parts_of combined word = cond combined (part 2 2 1 ∷ part 4 4 1 ∷ []) (part word word 1 ∷ [])

abbrev Bears : ℕ → Aspect → Part → Type 0
Bears word a q = HasBit word a × (q.factor ≡ 1)

apart : {C : Type 0} → ◌≡◌ {A = ℕ} 0 1 → C
apart e = absurd (omega (arith, e))

bears : (word : ℕ) (a : Aspect) (q : Part) (t : Bool) → eqb word 6 ≡ t → In q (parts_of t word) → HasBit q.src a → Bears word a q
bears word a q true e (first p) h = rw (eqb-true word 6 e, ← p) (of_depth a (rw (← p) at h), refl)
  where
    of_depth : (a : Aspect) → HasBit 2 a → HasBit 6 a
    of_depth Color h = apart h
    of_depth Depth h = refl
    of_depth Stencil h = apart h
bears word a q true e (later (first p)) h = rw (eqb-true word 6 e, ← p) (of_stencil a (rw (← p) at h), refl)
  where
    of_stencil : (a : Aspect) → HasBit 4 a → HasBit 6 a
    of_stencil Color h = apart h
    of_stencil Depth h = apart h
    of_stencil Stencil h = refl
bears word a q true e (later (later i)) h = nowhere i
bears word a q false e (first p) h = rw (← p) (rw (← p) at h, refl)
bears word a q false e (later i) h = nowhere i

abbrev Borne : ℕ → Aspect → List Part → Type 0
Borne word a ps = (q : Part) × In q ps × HasBit q.src a × HasBit q.dst a × (q.factor ≡ 1)

borne : (word : ℕ) (a : Aspect) (t : Bool) → eqb word 6 ≡ t → HasBit word a → Borne word a (parts_of t word)
borne word Color true e h = apart (rw (eqb-true word 6 e) at h)
borne word Depth true e h = (part 2 2 1, first refl, refl, refl, refl)
borne word Stencil true e h = (part 4 4 1, later (first refl), refl, refl, refl)
borne word a false e h = (part word word 1, first refl, h, h, refl)

-- the format of which one is the srgb comes before it
no_larger : (format : ℕ) → remove_srgb format ≤ format
unfolding remove_srgb
no_larger format = go (format_row format).srgb
  where
    go : (t : Bool) → pick t (format - 1) format ≤ format
    go true = omega arith
    go false = omega arith

module _ (i j : ℕ) (c : Copy) (k : A.Accepted i j c) (src_known : Known c.src.texture.format) (dst_known : Known c.dst.texture.format) where
  abbrev pub word : ℕ
  word = aspects_of c.dst.texture.format

  no_split : is_plane_split c.src c.dst ≡ false
  unfolding is_plane_split aspect_specific_format is_multi_planar stop_if is_this
  no_split =
      let known = below c.src.texture.format src_known in
      rw (ne_eqb (remove_srgb c.src.texture.format) 21 (λ e. omega (arith, e, no_larger c.src.texture.format)))

  pub formats_alike : Alike c.src.texture.format c.dst.texture.format
  formats_alike = alike _ _ src_known dst_known (k.formats no_split)

  src_bits : bits c.src ≡ word
  src_bits = sym (same_bits_lem c.src k.src_bounds) ∙ k.src_aspects no_split ∙ formats_alike.aspects

  pub dst_chosen : A.bits c.dst ≡ word
  dst_chosen = k.dst_aspects

  dst_bits : bits c.dst ≡ word
  dst_bits = sym (same_bits_lem c.dst k.dst_bounds) ∙ dst_chosen

  src_plain : is_nv12 c.src ≡ false
  src_plain = let known = below c.src.texture.format src_known in ne_eqb c.src.texture.format 21 (λ e. omega (arith, e))

  parts_are : parts c ≡ parts_of (eqb word 6) word
  unfolding parts
  parts_are = rw (src_bits, dst_bits, src_plain)

  -- a part's aspects are the format's, and each of those is a part's
  pub part_has : (q : Part) (a : Aspect) → In q (parts c) → HasBit q.src a → HasBit word a × (q.factor ≡ 1)
  part_has q a i h = bears word a q (eqb word 6) refl (rw parts_are at i) h

  pub has_part : (a : Aspect) → HasBit word a → (q : Part) × In q (parts c) × HasBit q.src a × HasBit q.dst a × (q.factor ≡ 1)
  has_part a h = rw parts_are (borne word a (eqb word 6) refl h)
