-- Copies within one texture against the standard's sets of subresources.
-- Assumes nothing.
use Rattle.std.specs.Prelude.{Result, Ok, Err}
use mathlib.Core.Path.{◌≡◌, refl, sym, ◌∙◌}
use mathlib.Core.Bool.{Bool, true, false, ◌&&◌, ◌||◌}
use mathlib.Core.List.{List, [], ◌∷◌}
use mathlib.Core.Logic.{◌⊎◌, inl, inr, ⊎_elim}
use Prim.Native.Nat.{ℕ, ◌+◌, ◌<◌, max}
use native.Mathlib.Omega.{arith}
use lib.Dec.{eqb, ltb}
use borrow.Author.Tests.{lt-ltb, ltb-true, eq-eqb, eqb-true, eqb-false}
use Rattle.conditions.specs.Conditions.{every}
use Rattle.conditions.proofs.Rules.{AllTrue, either, both_true, all_true}
use Rattle.conditions.proofs.Tables.{every_below, at_below}
use Rattle.measures.specs.declared.Extent3d.{Extent3d}
use Rattle.flags.specs.Flags.{meets}
use Rattle.mip_levels.specs.declared.TextureDimension.{TextureDimension}
use Rattle.mip_levels.specs.declared.TextureDimension.TheVariants.{D1, D2, D3}
use Rattle.formats.specs.declared.TextureAspect.{TextureAspect}
use Rattle.formats.specs.declared.TextureAspect.TheVariants.{All, StencilOnly, DepthOnly, Plane0, Plane1, Plane2}
use Rattle.formats.specs.Aspects.{chosen_aspects}
use Rattle.refusals.specs.Order.{Checks, checked}
use Rattle.refusals.proofs.Order.{all_pass as none-refuses, none_in, test_fails, test_off, checked_passes}
use Rattle.records.specs.declared.Texture.{Texture}
use Rattle.records.specs.declared.TexelCopyTextureInfo.{TexelCopyTextureInfo}
use Rattle.rule_selectors.specs.Selector.{overlaps, same_texture_checks}
use Rattle.claim_webgpu_rules.specs.Formats.{Aspect, Color, Depth, Stencil, Part, formats, Known, format_of, named, dimension_of}
use Rattle.claim_webgpu_rules.specs.WebGpu.{Subresource, Among, InSet, LayerOf, Disjoint}
use Rattle.claim_webgpu_rules.specs.Agreement.{bits, layers_of, MovesWithin, AllowsWithin, SameTexture, SameTextureParts}
use Rattle.claim_webgpu_rules.proofs.Rows.{same, same_is, decided, below, row_of}
use Rattle.refusals.specs.declared.TransferError.{TransferError}

-- ---- aspects that meet: a test of each of the three, computed of every format and two views

is : Aspect → Aspect → Bool
is Color Color = true
is Color Depth = false
is Color Stencil = false
is Depth Color = false
is Depth Depth = true
is Depth Stencil = false
is Stencil Color = false
is Stencil Depth = false
is Stencil Stencil = true

is_same : (a b : Aspect) → is a b ≡ true → a ≡ b
unfolding is
is_same Color Color e = refl
is_same Color Depth e = let z : ◌≡◌ {A = ℕ} 0 1 = cc in absurd (omega arith)
is_same Color Stencil e = let z : ◌≡◌ {A = ℕ} 0 1 = cc in absurd (omega arith)
is_same Depth Color e = let z : ◌≡◌ {A = ℕ} 0 1 = cc in absurd (omega arith)
is_same Depth Depth e = refl
is_same Depth Stencil e = let z : ◌≡◌ {A = ℕ} 0 1 = cc in absurd (omega arith)
is_same Stencil Color e = let z : ◌≡◌ {A = ℕ} 0 1 = cc in absurd (omega arith)
is_same Stencil Depth e = let z : ◌≡◌ {A = ℕ} 0 1 = cc in absurd (omega arith)
is_same Stencil Stencil e = refl

is_itself : (a : Aspect) → is a a ≡ true
unfolding is
is_itself Color = refl
is_itself Depth = refl
is_itself Stencil = refl

has : List Part → Aspect → Bool
has [] a = false
has (p ∷ ps) a = is p.aspect a || has ps a

among_of : (a : Aspect) (ps : List Part) → has ps a ≡ true → Among a ps
unfolding has
among_of a [] e = let z : ◌≡◌ {A = ℕ} 0 1 = cc in absurd (omega arith)
among_of a (p ∷ ps) e = ⊎_elim (λ h. inl (is_same p.aspect a h)) (λ h. inr (among_of a ps h)) (either (is p.aspect a) (has ps a) e)

or_right : (s t : Bool) → t ≡ true → (s || t) ≡ true
or_right true t e = refl
or_right false t e = e

among_by : (a : Aspect) (ps : List Part) → Among a ps → has ps a ≡ true
unfolding has
among_by a [] h = absurd h
among_by a (p ∷ ps) (inl e) = rw (e, is_itself a)
among_by a (p ∷ ps) (inr h) = or_right (is p.aspect a) (has ps a) (among_by a ps h)

both : List Part → List Part → Aspect → Bool
both ps qs a = has ps a && has qs a

common : List Part → List Part → Bool
common ps qs = both ps qs Color || (both ps qs Depth || both ps qs Stencil)

Common : List Part → List Part → Type 0
Common ps qs = (a : Aspect) × Among a ps × Among a qs

common_of : (ps qs : List Part) → common ps qs ≡ true → Common ps qs
unfolding common Common both
common_of ps qs e = ⊎_elim (at Color) (λ r. ⊎_elim (at Depth) (at Stencil) (either (both ps qs Depth) (both ps qs Stencil) r)) (either (both ps qs Color) _ e)
  where
    at : (a : Aspect) → both ps qs a ≡ true → Common ps qs
    at a h = let p = both_true (has ps a) (has qs a) h in (a, among_of a ps p.0, among_of a qs p.1)

both_by : (ps qs : List Part) (a : Aspect) → Among a ps → Among a qs → both ps qs a ≡ true
unfolding both
both_by ps qs a p q = rw (among_by a ps p, among_by a qs q)

common_by : (ps qs : List Part) → Common ps qs → common ps qs ≡ true
unfolding common Common
common_by ps qs (Color, p, q) = rw (both_by ps qs Color p q)
common_by ps qs (Depth, p, q) = or_right (both ps qs Color) _ (rw (both_by ps qs Depth p q))
common_by ps qs (Stencil, p, q) = or_right (both ps qs Color) _ (or_right (both ps qs Depth) _ (both_by ps qs Stencil p q))

-- ---- the bits of what two views name meet exactly where an aspect is common

meeting : TextureAspect → TextureAspect → ℕ → Bool
meeting a b f =
    same (meets (bits (named (format_of f) a)) (bits (named (format_of f) b))) (common (named (format_of f) a) (named (format_of f) b))

tests : TextureAspect → ℕ → List Bool
tests a f = meeting a All f ∷ meeting a StencilOnly f ∷ meeting a DepthOnly f ∷ meeting a Plane0 f ∷ meeting a Plane1 f ∷ meeting a Plane2 f ∷ []

all_pass : (a : TextureAspect) → every_below (λ f. every (tests a f)) 21 ≡ true
unfolding tests meeting meets common both has is formats format_of named
all_pass All = refl
all_pass StencilOnly = refl
all_pass DepthOnly = refl
all_pass Plane0 = refl
all_pass Plane1 = refl
all_pass Plane2 = refl

meets_is : (f : ℕ) (a b : TextureAspect) → Known f → meets (bits (named (format_of f) a)) (bits (named (format_of f) b)) ≡ common (named (format_of f) a) (named (format_of f) b)
unfolding tests meeting
meets_is f a b k = same_is _ _ (passed b)
  where
    all : AllTrue (tests a f)
    all = all_true (tests a f) (at_below (λ f. every (tests a f)) 21 (all_pass a) f (below f k))

    passed : (b : TextureAspect) → meeting a b f ≡ true
    passed All = all.0
    passed StencilOnly = all.1.0
    passed DepthOnly = all.1.1.0
    passed Plane0 = all.1.1.1.0
    passed Plane1 = all.1.1.1.1.0
    passed Plane2 = all.1.1.1.1.1.0

-- ---- layers: 2D goes by them, and elsewhere two z are near only where they are one

other_dimension : {C : Type 0} {d : TextureDimension} → d ≡ D2 → (d ≡ D1) ⊎ (d ≡ D3) → C
other_dimension e (inl f) = let z : ◌≡◌ {A = ℕ} 0 1 = cc in absurd (omega arith)
other_dimension e (inr f) = let z : ◌≡◌ {A = ℕ} 0 1 = cc in absurd (omega arith)

near :
    (d : TextureDimension) (a b depth layer : ℕ) → ((d ≡ D2 → ⊥) → a ≡ b) → LayerOf d a depth layer → LayerOf d b depth layer
    → (a < b + layers_of d depth) × (b < a + layers_of d depth)
near D1 a b depth layer e p q = let h = e (λ x. other_dimension x (inl refl)) in (omega arith, omega arith)
near D2 a b depth layer e p q = (omega arith, omega arith)
near D3 a b depth layer e p q = let h = e (λ x. other_dimension x (inr refl)) in (omega arith, omega arith)

one_layer :
    (d : TextureDimension) (a b depth : ℕ) → a < b + layers_of d depth → b < a + layers_of d depth
    → (layer : ℕ) × LayerOf d a depth layer × LayerOf d b depth layer
one_layer D1 a b depth p q = (0, refl, refl)
one_layer D2 a b depth p q = (max a b, (omega arith, omega arith), (omega arith, omega arith))
one_layer D3 a b depth p q = (0, refl, refl)

only_layer : (d : TextureDimension) (z depth : ℕ) → (d ≡ D2 → ⊥) → LayerOf d z depth 0
only_layer D1 z depth u = refl
only_layer D2 z depth u = absurd (u refl)
only_layer D3 z depth u = refl

one_z : (d : TextureDimension) (a b depth : ℕ) → (d ≡ D2 → ⊥) → a < b + layers_of d depth → b < a + layers_of d depth → a ≡ b
one_z D1 a b depth u p q = omega arith
one_z D2 a b depth u p q = absurd (u refl)
one_z D3 a b depth u p q = omega arith

opposite : true ≡ false → ⊥
opposite e = let z : ◌≡◌ {A = ℕ} 0 1 = cc in omega arith

-- ---- the rule

module _ (t : Texture) (src dst : TexelCopyTextureInfo) (size : Extent3d) (k : Known t.format) where
  abbrev from : List Part
  from = named (format_of t.format) src.aspect

  abbrev to : List Part
  to = named (format_of t.format) dst.aspect

  abbrev d : TextureDimension
  d = dimension_of t.dimension

  abbrev depth : ℕ
  depth = size.depth_or_array_layers

  abbrev n : ℕ
  n = layers_of d depth

  -- what overlaps: a common aspect, z that are near, and one level
  record Overlap : Type 0 where
    shared : Common from to
    left : src.origin.z < dst.origin.z + n
    right : dst.origin.z < src.origin.z + n
    level : src.mip_level ≡ dst.mip_level

  meets_named : meets (chosen_aspects t.format src.aspect) (chosen_aspects t.format dst.aspect) ≡ common from to
  meets_named =
      let r = row_of t.format k in
      rw (r.chosen src.aspect, r.chosen dst.aspect) (meets_is t.format src.aspect dst.aspect k)

  overlap_by : Overlap → overlaps src dst t.format n ≡ true
  unfolding overlaps
  overlap_by o =
      rw (meets_named, common_by from to o.shared, lt-ltb src.origin.z (dst.origin.z + n) o.left, lt-ltb dst.origin.z (src.origin.z + n) o.right)
      (eq-eqb src.mip_level dst.mip_level o.level)

  overlap_of : overlaps src dst t.format n ≡ true → Overlap
  unfolding overlaps
  overlap_of e =
      let all = all_true (meets (chosen_aspects t.format src.aspect) (chosen_aspects t.format dst.aspect) ∷ ltb src.origin.z (dst.origin.z + n) ∷ ltb dst.origin.z (src.origin.z + n) ∷ eqb src.mip_level dst.mip_level ∷ []) e in
      record {
        shared = common_of from to (sym meets_named ∙ all.0);
        left = ltb-true _ _ all.1.0;
        right = ltb-true _ _ all.1.1.0;
        level = eqb-true _ _ all.1.1.1.0;
      }

  abbrev rule : Checks
  rule = same_texture_checks src dst t.format n

  -- the rule goes on exactly where nothing overlaps
  allows : (Overlap → ⊥) → AllowsWithin t src dst size
  unfolding same_texture_checks
  allows apart = go (overlaps src dst t.format n) refl
    where
      go : (o : Bool) → overlaps src dst t.format n ≡ o → checked rule ≡ (Ok tt)
      go true e = absurd (apart (overlap_of e))
      go false e = none-refuses Unit tt rule (test_off _ _ e, tt)

  allowed : AllowsWithin t src dst size → Overlap → ⊥
  unfolding same_texture_checks
  allowed e o =
      let z : ◌≡◌ {A = Bool} true false = sym (overlap_by o) ∙ test_fails _ _ (none_in rule (checked_passes rule e) 0) in
      let y : ◌≡◌ {A = ℕ} 0 1 = cc in
      omega arith

  -- a subresource in both sets makes the copies overlap, but for the exception
  overlapping : (MovesWithin t src dst → ⊥) → (s : Subresource) → InSet t src size s → InSet t dst size s → Overlap
  unfolding Common
  overlapping kept s p q =
      let level = sym p.level ∙ q.level in
      let shared : (a : Aspect) × Among a from × Among a to = (s.aspect, p.aspect, q.aspect) in
      let z = near d src.origin.z dst.origin.z depth s.layer (λ u. decided _ _ (λ m. kept (record { unlayered = u; level = level; moved = m; shared = shared }))) p.layer q.layer in
      record { shared = shared; left = z.0; right = z.1; level = level }

  -- and copies that overlap have one in common
  in_both : Overlap → (s : Subresource) × InSet t src size s × InSet t dst size s
  unfolding Common
  in_both o =
      let l = one_layer d src.origin.z dst.origin.z depth o.left o.right in (
        record { level = src.mip_level; aspect = o.shared.0; layer = l.0 },
        record { level = refl; aspect = o.shared.1; layer = l.1 },
        record { level = o.level; aspect = o.shared.2; layer = l.2 },
      )

  -- whether the exception holds is decided
  layered : (d : TextureDimension) → (d ≡ D2) ⊎ (d ≡ D2 → ⊥)
  layered D1 = inr (λ e. other_dimension e (inl refl))
  layered D2 = inl refl
  layered D3 = inr (λ e. other_dimension e (inr refl))

  moves_or_not : MovesWithin t src dst ⊎ (MovesWithin t src dst → ⊥)
  unfolding Common
  moves_or_not = ⊎_elim (λ e. inr (λ m. m.unlayered e)) (λ u. go u (eqb src.mip_level dst.mip_level) (eqb src.origin.z dst.origin.z) (common from to) refl refl refl) (layered d)
    where
      go :
          (d ≡ D2 → ⊥) → (l z c : Bool) → eqb src.mip_level dst.mip_level ≡ l → eqb src.origin.z dst.origin.z ≡ z → common from to ≡ c
          → MovesWithin t src dst ⊎ (MovesWithin t src dst → ⊥)
      go u false z c p q r = inr (λ m. eqb-false _ _ p m.level)
      go u true true c p q r = inr (λ m. m.moved (eqb-true _ _ q))
      go u true false false p q r = inr (λ m. opposite (sym (common_by from to m.shared) ∙ r))
      go u true false true p q r = inl (record { unlayered = u; level = eqb-true _ _ p; moved = eqb-false _ _ q; shared = common_of from to r })

pub same_texture_parts : SameTextureParts
same_texture_parts t src dst size m apart =
    let d = dimension_of t.dimension in
    let depth = size.depth_or_array_layers in
    apart
    (record { level = src.mip_level; aspect = m.shared.0; layer = 0 })
    (record { level = refl; aspect = m.shared.1; layer = only_layer d src.origin.z depth m.unlayered })
    (record { level = m.level; aspect = m.shared.2; layer = only_layer d dst.origin.z depth m.unlayered })

module _ (t : Texture) (src dst : TexelCopyTextureInfo) (size : Extent3d) (k : Known t.format) where
  disjoint_or_moves : AllowsWithin t src dst size → Disjoint t src dst size ⊎ MovesWithin t src dst
  disjoint_or_moves g = ⊎_elim (λ m. inr m) (λ kept. inl (λ s p q. allowed t src dst size k g (overlapping t src dst size k kept s p q))) (moves_or_not t src dst size k)

  allows_by : Disjoint t src dst size ⊎ MovesWithin t src dst → AllowsWithin t src dst size
  allows_by (inl apart) = allows t src dst size k (λ o. let b = in_both t src dst size k o in apart b.0 b.1 b.2)
  allows_by (inr m) = allows t src dst size k (λ o. m.moved (one_z (dimension_of t.dimension) src.origin.z dst.origin.z size.depth_or_array_layers m.unlayered o.left o.right))

pub same_texture : SameTexture
same_texture t src dst size k = (disjoint_or_moves t src dst size k, allows_by t src dst size k)
