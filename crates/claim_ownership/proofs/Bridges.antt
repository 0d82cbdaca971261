-- The planner's definitions have the claim's figures, over plain numbers.
-- Assumes nothing.
use Rattle.std.specs.Prelude.{Option, Some, None}
use mathlib.Core.Path.{◌≡◌, refl, sym, ap}
use mathlib.Core.Bool.{Bool, true, false, cond, not, ◌&&◌, ◌||◌}
use mathlib.Core.Logic.{◌⊎◌, inl, inr}
use mathlib.Core.List.{[], ◌∷◌}
use Prim.Native.Nat.{ℕ, ◌+◌, ◌-◌, ◌*◌, ◌/◌, ◌%◌, ◌^◌, ◌≤◌, ◌<◌, max}
use native.Mathlib.Omega.{arith}
use lib.Dec.{eqb, leb, ltb}
use borrow.Author.Tests.{leb-true, ltb-true, ltb-false, eqb-true, eqb-false, eq-eqb, ne_eqb, le-leb, lt-leb}
use Rattle.conditions.specs.Conditions.{pick, stop_if}
use Rattle.conditions.proofs.Rules.{both_true, all_true}
use Rattle.measures.specs.declared.Extent3d.{Extent3d}
use Rattle.measures.specs.Measure.{or_else}
use Rattle.mip_levels.specs.Level.{texture_dimension, side_at, mip_level_size, texels_at}
use Rattle.mip_levels.proofs.Halving.{level_laws}
use Rattle.formats.specs.declared.TextureAspect.{TextureAspect}
use Rattle.formats.specs.declared.TextureAspect.TheVariants.{All, StencilOnly, DepthOnly, Plane0, Plane1, Plane2}
use Rattle.formats.specs.Table.{is_format}
use Rattle.records.specs.declared.Texture.{Texture}
use Rattle.records.specs.Limits.{max_side}
use Rattle.records.specs.Bounds.{within, size_in_bounds, fields_in_bounds, samples_in_bounds, format_suits, texture_in_bounds}
use Rattle.rule_linear_data.specs.Linear.{stacked}
use Rattle.rule_copy_range.specs.Range.{layers_of, depth_of}
use Rattle.rule_selectors.specs.Selector.{layer_of, z_of}
use Rattle.rule_init_ranges.specs.declared.MemoryInitKind.{MemoryInitKind}
use Rattle.rule_init_ranges.specs.declared.MemoryInitKind.TheVariants.{ImplicitlyInitialized, NeedsInitializedMemory}
use Rattle.rule_init_ranges.specs.Init as I
use Rattle.claim_ownership.specs.Formats.{is_all}
use Rattle.claim_ownership.specs.Regions.{or_dense}
use Rattle.claim_ownership.specs.Ranges.{down, up, run, touched, filled}

-- ---- choices and tests

pub pick_is : {A : Type 0} (t : Bool) (a b : A) → pick t a b ≡ cond t a b
pick_is true a b = refl
pick_is false a b = refl

test_is : (a b x y : ℕ) → (a ≡ b → x ≡ y) → (x ≡ y → a ≡ b) → eqb a b ≡ eqb x y
test_is a b x y f g = go (eqb x y) refl
  where
    go : (t : Bool) → eqb x y ≡ t → eqb a b ≡ t
    go true e = eq-eqb a b (g (eqb-true x y e))
    go false e = ne_eqb a b (λ q. eqb-false x y e (f q))

pub single_is : (n : ℕ) → not (ltb 1 n) ≡ leb n 1
single_is n = go (ltb 1 n) refl
  where
    go : (t : Bool) → ltb 1 n ≡ t → not t ≡ leb n 1
    go true e = sym (lt-leb n 1 (ltb-true 1 n e))
    go false e = sym (le-leb n 1 (ltb-false 1 n e))

pub neither_is : (s t : Bool) → not (s || t) ≡ (not t && not s)
neither_is true true = refl
neither_is true false = refl
neither_is false true = refl
neither_is false false = refl

-- ---- figures

pub dense_is : (o : Option ℕ) (n : ℕ) → or_else o n ≡ or_dense o n
unfolding or_else or_dense
dense_is (Some m) n = refl
dense_is None n = refl

pub stacked_is : (n stride last : ℕ) → stacked n stride last ≡ cond (eqb n 0) 0 ((n - 1) * stride + last)
unfolding stacked
stacked_is n stride last = pick_is (eqb n 0) 0 ((n - 1) * stride + last)

pub side_is : (n level : ℕ) → side_at n level ≡ max 1 (n / 2 ^ level)
unfolding side_at
side_is n level = ap (λ (m : ℕ). max 1 m) (level_laws.halves n level)

pub all_is : (a : TextureAspect) → I.is_all a ≡ is_all a
unfolding I.is_all is_all
all_is All = refl
all_is StencilOnly = refl
all_is DepthOnly = refl
all_is Plane0 = refl
all_is Plane1 = refl
all_is Plane2 = refl

-- ---- by the dimension

bounds : (least n most : ℕ) → within least n most ≡ true → (least ≤ n) × (n ≤ most)
unfolding within
bounds least n most e = let p = both_true _ _ e in (leb-true _ _ p.0, leb-true _ _ p.1)

flat : (e : Extent3d) → size_in_bounds (texture_dimension 1) e ≡ true → e.height.0 ≡ 1
unfolding size_in_bounds texture_dimension stop_if
flat e h = eqb-true _ _ (all_true (within 1 e.width.0 max_side ∷ eqb e.height.0 1 ∷ eqb e.depth_or_array_layers 1 ∷ []) h).1.0

-- a texture is 1D, of height 1, or 2D, or 3D
abbrev pub Dimensioned : Texture → Type 0
Dimensioned t = ((t.dimension ≡ 1) × (t.size.height.0 ≡ 1)) ⊎ ((t.dimension ≡ 2) ⊎ (t.dimension ≡ 3))

pub known : (t : Texture) → texture_in_bounds t ≡ true → (is_format t.format ≡ true) × Dimensioned t
unfolding texture_in_bounds fields_in_bounds
known t b =
    let f = both_true (is_format t.format) _ (both_true (fields_in_bounds t) (samples_in_bounds t && format_suits t) b).0 in
    let d = both_true (within 1 t.dimension 3) _ f.1 in
    let s = both_true (size_in_bounds (texture_dimension t.dimension) t.size) _ d.1 in
    let w = bounds _ _ _ d.0 in
    (f.0, go s.0 w.0 w.1 (eqb t.dimension 1) (eqb t.dimension 2) refl refl)
  where
    go : size_in_bounds (texture_dimension t.dimension) t.size ≡ true → 1 ≤ t.dimension → t.dimension ≤ 3 → (x y : Bool) → eqb t.dimension 1 ≡ x → eqb t.dimension 2 ≡ y → Dimensioned t
    go h lo hi true y e f = let n = eqb-true _ _ e in inl (n, flat t.size (rw n at h))
    go h lo hi false true e f = inr (inl (eqb-true _ _ f))
    go h lo hi false false e f = let n = eqb-false t.dimension 1 e in let m = eqb-false t.dimension 2 f in inr (inr (omega arith))

-- regions and ranges of d images from z on, in a texture of dimension n
pub record ByDimension (n from d : ℕ) : Type 0 where
  pub layers : layers_of (texture_dimension n) d ≡ cond (eqb n 2) d 1
  pub depth : depth_of (texture_dimension n) d ≡ cond (eqb n 2) 1 d
  pub layer : layer_of (texture_dimension n) from ≡ cond (eqb n 2) (from + 0) 0
  pub z : z_of (texture_dimension n) from ≡ cond (eqb n 2) 0 (from + 0)
  pub range : I.init_layers (texture_dimension n) from d ≡ cond (eqb n 3) (record { start = 0; end = 1 }) (record { start = from; end = from + d })

by_1 : (z d : ℕ) → z + d ≤ 1 → 0 < d → ByDimension 1 z d
unfolding texture_dimension stop_if
by_1 z d h pos = record { layers = refl; depth = omega arith; layer = refl; z = omega arith; range = refl }

by_2 : (z d : ℕ) → ByDimension 2 z d
unfolding texture_dimension stop_if
by_2 z d = record { layers = refl; depth = refl; layer = omega arith; z = refl; range = refl }

by_3 : (z d : ℕ) → ByDimension 3 z d
unfolding texture_dimension stop_if
by_3 z d = record { layers = refl; depth = refl; layer = refl; z = omega arith; range = refl }

one_deep : (e : Extent3d) (level : ℕ) → (mip_level_size (texture_dimension 1) e level).depth_or_array_layers ≡ 1
unfolding texels_at mip_level_size texture_dimension stop_if
one_deep e level = refl

pub by_dimension :
    (t : Texture) (level z d : ℕ) → Dimensioned t → z + d ≤ (mip_level_size (texture_dimension t.dimension) t.size level).depth_or_array_layers → 0 < d
    → ByDimension t.dimension z d
by_dimension t level z d (inl (e, low)) h pos = rw e (by_1 z d (rw (e, one_deep t.size level) at h) pos)
by_dimension t level z d (inr (inl e)) h pos = rw e (by_2 z d)
by_dimension t level z d (inr (inr e)) h pos = rw e (by_3 z d)

-- ---- the cover

flip : (a b d e : Bool) (p q : MemoryInitKind) → pick ((not a || (not b || not d)) || not e) p q ≡ cond (a && (b && (d && e))) q p
flip false b d e p q = refl
flip true false d e p q = refl
flip true true false e p q = refl
flip true true true false p q = refl
flip true true true true p q = refl

-- a side of 1 stays 1
stays : (level : ℕ) → max 1 (1 / 2 ^ level) ≡ 1
stays level =
    let low = level_laws.fewer 1 level (omega arith) in
    let some = level_laws.some 1 level in
    omega (arith, side_is 1 level)

-- the kind where the cover is partial, p, or whole, q
module _ (size e : Extent3d) (level : ℕ) (a : TextureAspect) (p q : MemoryInitKind) where
  abbrev plans : ℕ → MemoryInitKind
  plans n = pick (I.size_differs (texture_dimension n) size (mip_level_size (texture_dimension n) e level) || not (I.is_all a)) p q

  abbrev w : Bool
  w = eqb size.width.0 (max 1 (e.width.0 / 2 ^ level))

  abbrev h : Bool
  h = eqb size.height.0 (max 1 (e.height.0 / 2 ^ level))

  abbrev d : Bool
  d = eqb size.depth_or_array_layers (max 1 (e.depth_or_array_layers / 2 ^ level))

  abbrev claims : ℕ → MemoryInitKind
  claims n = cond (w && (h && ((not (eqb n 3) || d) && is_all a))) q p

  kind_1 : e.height.0 ≡ 1 → plans 1 ≡ claims 1
  unfolding I.size_differs texels_at mip_level_size texture_dimension stop_if
  kind_1 low = rw (low, stays level, side_is e.width.0 level, all_is a) (flip w (eqb size.height.0 1) true (is_all a) p q)

  kind_2 : plans 2 ≡ claims 2
  unfolding I.size_differs texels_at mip_level_size texture_dimension stop_if
  kind_2 = rw (side_is e.width.0 level, side_is e.height.0 level, all_is a) (flip w h true (is_all a) p q)

  kind_3 : plans 3 ≡ claims 3
  unfolding I.size_differs texels_at mip_level_size texture_dimension stop_if
  kind_3 = rw (side_is e.width.0 level, side_is e.height.0 level, side_is e.depth_or_array_layers level, all_is a) (flip w h d (is_all a) p q)

pub kind_is : (t : Texture) (size : Extent3d) (level : ℕ) (a : TextureAspect) (p q : MemoryInitKind) → Dimensioned t → plans size t.size level a p q t.dimension ≡ claims size t.size level a p q t.dimension
kind_is t size level a p q (inl (e, low)) = rw e (kind_1 size t.size level a p q low)
kind_is t size level a p q (inr (inl e)) = rw e (kind_2 size t.size level a p q)
kind_is t size level a p q (inr (inr e)) = rw e (kind_3 size t.size level a p q)

-- ---- words of four bytes

down_is : (n : ℕ) → I.aligned_down n ≡ down n
unfolding I.aligned_down
down_is n = omega arith

up_is : (n : ℕ) → I.aligned_up n ≡ up n
unfolding I.aligned_up
up_is n = omega arith

pub touched_is : (s e : ℕ) → I.outward s e ≡ touched s e
unfolding I.outward touched
touched_is s e = rw (down_is, up_is)

-- a range unless two numbers are equal, where two others are equal with them
unless_is :
    (x y x' y' a b a' b' : ℕ) (k : MemoryInitKind) → (x ≡ y → x' ≡ y') → (x' ≡ y' → x ≡ y) → ((x' ≡ y' → ⊥) → (a ≡ a') × (b ≡ b'))
    → I.unless (eqb x y) (I.buffer_range a b k) ≡ cond (eqb x' y') None (run a' b' k)
unless_is x y x' y' a b a' b' k f g same = rw (test_is x y x' y' f g) (go (eqb x' y') refl)
  where
    go : (t : Bool) → eqb x' y' ≡ t → I.unless t (I.buffer_range a b k) ≡ cond t None (run a' b' k)
    go true e = refl
    go false e = let h = same (eqb-false x' y' e) in rw (h.0, h.1)

pub filled_is : (s e : ℕ) → I.inward s e ≡ filled s e
unfolding I.inward I.aligned_down I.aligned_up filled
filled_is s e =
    let head = unless_is (I.aligned_up s) s (s % 4) 0 (I.aligned_down s) (I.aligned_up s) (up s - 4) (up s) NeedsInitializedMemory (λ q. omega arith) (λ q. omega arith) (λ n. (omega arith, omega arith)) in
    let whole = unless_is (I.aligned_up s) (I.aligned_down e) (up s) (down e) (I.aligned_up s) (I.aligned_down e) (up s) (down e) ImplicitlyInitialized (λ q. omega arith) (λ q. omega arith) (λ n. (omega arith, omega arith)) in
    let tail = unless_is (I.aligned_down e) e (e % 4) 0 (I.aligned_down e) (I.aligned_down e + 4) (down e) (down e + 4) NeedsInitializedMemory (λ q. omega arith) (λ q. omega arith) (λ n. (omega arith, omega arith)) in
    cc
