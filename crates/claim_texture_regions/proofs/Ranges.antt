-- The ranges that the plan of an accepted copy between textures reports are the copy's.
-- Assumes nothing.
use mathlib.Core.Path.{◌≡◌, refl, ap}
use mathlib.Core.Bool.{Bool, true, false, cond, not, ◌&&◌, ◌||◌}
use mathlib.Core.List.{[], ◌∷◌}
use Prim.Native.Nat.{ℕ, max}
use native.Mathlib.Omega.{arith}
use lib.Dec.{eqb}
use borrow.Author.Tests.{eqb-true}
use Rattle.conditions.specs.Conditions.{pick}
use Rattle.conditions.proofs.Rules.{both_true, all_true}
use Rattle.measures.specs.declared.Extent3d.{Extent3d}
use Rattle.mip_levels.specs.declared.TextureDimension.{TextureDimension}
use Rattle.mip_levels.specs.declared.TextureDimension.TheVariants.{D1, D2, D3}
use Rattle.mip_levels.specs.Level.{texture_dimension, side_at, mip_level_size, texels_at}
use Rattle.mip_levels.proofs.Halving.{level_laws}
use Rattle.formats.specs.declared.TextureAspect.{TextureAspect}
use Rattle.formats.specs.declared.TextureAspect.TheVariants.{All, StencilOnly, DepthOnly, Plane0, Plane1, Plane2}
use Rattle.formats.specs.Table.{is_format}
use Rattle.records.specs.declared.Texture.{Texture}
use Rattle.records.specs.declared.TextureSide.{TextureSide}
use Rattle.records.specs.Limits.{max_side}
use Rattle.records.specs.Bounds.{within, size_in_bounds, fields_in_bounds, samples_in_bounds, format_suits, texture_in_bounds}
use Rattle.records.specs.Extents.{logical_extent}
use Rattle.rule_init_ranges.specs.declared.MemoryInitKind.{MemoryInitKind}
use Rattle.rule_init_ranges.specs.declared.MemoryInitKind.TheVariants.{ImplicitlyInitialized, NeedsInitializedMemory}
use Rattle.rule_init_ranges.specs.Init as I
use Rattle.measures.specs.Measure as M
use Rattle.plan_textures.specs.Plan as N
use Rattle.copy_textures.specs.Copy as T
use Rattle.claim_texture_regions.specs.Regions.{Copy, dimension, is_empty}
use Rattle.claim_texture_regions.specs.Ranges.{is_all, layers_from, halved, covers_level, covers, range_of, ranges_of}
use Rattle.claim_texture_regions.specs.Claim.{EveryTextureRange}
use Rattle.claim_texture_regions.proofs.Accepted.{accepted, plan_for}
use Rattle.claim_texture_regions.proofs.Same.{same_dimension, same_pick}

-- ---- layers and level, by the dimension

same_layers : (v : TextureDimension) (z d : ℕ) → I.init_layers v z d ≡ layers_from v z d
same_layers D1 z d = refl
same_layers D2 z d = refl
same_layers D3 z d = refl

same_side : (n level : ℕ) → side_at n level ≡ halved n level
unfolding side_at
same_side n level = ap (λ (m : ℕ). max 1 m) (level_laws.halves n level)

-- a side of 1 stays 1
stays : (level : ℕ) → halved 1 level ≡ 1
stays level =
    let low = level_laws.fewer 1 level (omega arith) in
    let some = level_laws.some 1 level in
    omega (arith, same_side 1 level)

-- as a 1D texture's height does
flat : (v : TextureDimension) (e : Extent3d) → size_in_bounds v e ≡ true → v ≡ D1 → e.height.0 ≡ 1
unfolding size_in_bounds
flat v e h d = eqb-true _ _ (all_true (within 1 e.width.0 max_side ∷ eqb e.height.0 1 ∷ eqb e.depth_or_array_layers 1 ∷ []) (rw d at h)).1.0

bounded : (t : Texture) → texture_in_bounds t ≡ true → size_in_bounds (texture_dimension t.dimension) t.size ≡ true
unfolding texture_in_bounds fields_in_bounds
bounded t b =
    let f = both_true (is_format t.format) _ (both_true (fields_in_bounds t) (samples_in_bounds t && format_suits t) b).0 in
    (both_true (size_in_bounds (texture_dimension t.dimension) t.size) _ (both_true (within 1 t.dimension 3) _ f.1).1).0

-- ---- the cover

neither : (a b d : Bool) → (not a || (not b || not d)) ≡ not (a && (b && d))
neither false b d = refl
neither true false d = refl
neither true true d = refl

module _ (size e : Extent3d) (level : ℕ) where
  abbrev w : Bool
  w = eqb size.width.0 (halved e.width.0 level)

  abbrev h : Bool
  h = eqb size.height.0 (halved e.height.0 level)

  abbrev d : Bool
  d = eqb size.depth_or_array_layers (halved e.depth_or_array_layers level)

  differs : (v : TextureDimension) → (v ≡ D1 → e.height.0 ≡ 1) → I.size_differs v size (mip_level_size v e level) ≡ not (covers_level v size e level)
  unfolding I.size_differs texels_at mip_level_size
  differs D1 low = rw (low refl, stays level, same_side e.width.0 level) (neither w (eqb size.height.0 1) true)
  differs D2 low = rw (same_side e.width.0 level, same_side e.height.0 level) (neither w h true)
  differs D3 low = rw (same_side e.width.0 level, same_side e.height.0 level, same_side e.depth_or_array_layers level) (neither w h d)

same_all : (a : TextureAspect) → I.is_all a ≡ is_all a
unfolding I.is_all
same_all All = refl
same_all StencilOnly = refl
same_all DepthOnly = refl
same_all Plane0 = refl
same_all Plane1 = refl
same_all Plane2 = refl

flip : {A : Type 0} (s t : Bool) (a b : A) → pick (not s || not t) a b ≡ cond (s && t) b a
flip true true a b = refl
flip true false a b = refl
flip false t a b = refl

-- ---- the plan's ranges

same_range : (s : TextureSide) (size : Extent3d) (kind : MemoryInitKind) → I.texture_range s.view s.texture size kind ≡ range_of s size kind
unfolding I.texture_range
same_range s size kind = rw (same_dimension s, same_layers (dimension s) s.view.origin.z size.depth_or_array_layers)

same_kind : (s : TextureSide) (size : Extent3d) (p q : MemoryInitKind) → texture_in_bounds s.texture ≡ true → pick (I.is_partial_cover size s.view s.texture) p q ≡ cond (covers s size) q p
unfolding I.is_partial_cover logical_extent
same_kind s size p q b =
    let low = flat (dimension s) s.texture.size (rw (same_dimension s) at (bounded s.texture b)) in
    rw (same_dimension s, differs size s.texture.size s.view.mip_level (dimension s) low, same_all s.view.aspect)
    (flip (covers_level (dimension s) size s.texture.size s.view.mip_level) (is_all s.view.aspect) p q)

ranges_are : (c : Copy) → texture_in_bounds c.dst.texture ≡ true → (plan_for c).ranges ≡ ranges_of c
unfolding T.plan_for N.plan_of N.ranges_of I.src_texture_range I.dst_texture_range M.is_empty
ranges_are c b =
    rw (same_range c.src, same_range c.dst, same_kind c.dst c.size NeedsInitializedMemory ImplicitlyInitialized b) (same_pick (is_empty c.size) _ _)

pub every_texture_range : EveryTextureRange
every_texture_range i j c p e = let k = accepted i j c p e in rw (← k.1) (ranges_are c k.0.dst_bounds)
