-- A plan's words give the plan without its ranges, which has the same regions.
-- Assumes nothing.
use Rattle.std.specs.Prelude.{Option, Some, None}
use Prim.{tt}
use mathlib.Core.Path.{◌≡◌, refl}
use mathlib.Core.Bool.{Bool, true, false}
use mathlib.Core.List.{List, [], ◌∷◌, ◌++◌}
use Prim.Native.Nat.{ℕ, zero, suc, ◌-◌, ◌^◌, ◌<◌}
use native.Mathlib.Omega.{arith}
use native.Mathlib.Nat.{mod-eq_of_lt}
use borrow.Author.Tests.{ne_eqb}
use lib.Dec.{eqb}
use Rattle.conditions.specs.Conditions.{stop_if}
use Rattle.rule_copy_range.specs.declared.CopyExtent.{CopyExtent}
use Rattle.rule_selectors.specs.declared.TextureCopyBase.{TextureCopyBase}
use Rattle.plan_rows.specs.Rows.{or_absent, base_numbers, size_numbers, buffer_texture_copy_numbers}
use Rattle.plan_buffers.specs.Asking as K
use Rattle.plan_buffer_texture.specs.Asking as L
use Rattle.plan_textures.specs.declared.CopyParts.{CopyParts}
use Rattle.plan_textures.specs.declared.CopyParts.TheVariants.{Whole, DepthStencil, Planes}
use Rattle.plan_textures.specs.Numbers.{parts_number, parts_from}
use Rattle.plan_kinds.specs.declared.Plan.{Plan}
use Rattle.plan_kinds.specs.declared.Plan.TheVariants.{Buffers, BufferTexture, Textures}
use Rattle.plan_kinds.specs.Regions.{left_of, next_numbers, region_numbers, behind_of, regions_from, regions_left}
use Rattle.plan_kinds.proofs.Ranges.{numbers_with, behind_with}
use Rattle.c_words.specs.Words.{buffer_words, buffer_texture_words, texture_words}
use Rattle.c_plans.specs.PlanWords.{low, option_from, base_from, extent_from, buffers_from, buffer_texture_from, textures_from}
use Rattle.c_plans.specs.Laws.{without_ranges, read_back, Narrow, given_numbers, narrow_numbers, EveryPlan}

-- ---- reading back

low_is : (n : ℕ) → n < 2 ^ 32 → low n ≡ n
low_is n h = mod-eq_of_lt h

option_back : (o : Option ℕ) → Narrow (given_numbers o) → option_from (or_absent o) ≡ o
unfolding option_from or_absent
option_back (Some n) h =
    let no : n ≡ 2 ^ 64 - 1 → ⊥ = λ e. omega (arith, e, h.0) in
    rw (ne_eqb n (2 ^ 64 - 1) no, low_is n h.0)
option_back None h = refl

parts_back : (parts : CopyParts) → parts_from (parts_number parts) ≡ parts
unfolding parts_from parts_number
parts_back Whole = refl
parts_back DepthStencil = refl
parts_back Planes = refl

narrow_both : (a b : List ℕ) → Narrow (a ++ b) → Narrow a × Narrow b
narrow_both [] b h = (tt, h)
narrow_both (x ∷ a) b h = let r = narrow_both a b h.1 in ((h.0, r.0), r.1)

module _ (rest : List ℕ) where
  base_back : (b : TextureCopyBase) → Narrow (base_numbers b ++ rest) → base_from b.mip_level b.array_layer b.origin.x.0 b.origin.y.0 b.origin.z b.aspect.0 ≡ b
  unfolding base_from
  base_back b h =
      rw (low_is b.mip_level h.0, low_is b.array_layer h.1.0, low_is b.origin.x.0 h.1.1.0, low_is b.origin.y.0 h.1.1.1.0, low_is b.origin.z h.1.1.1.1.0, low_is b.aspect.0 h.1.1.1.1.1.0)

  extent_back : (e : CopyExtent) → Narrow (size_numbers e ++ rest) → extent_from e.width.0 e.height.0 e.depth ≡ e
  extent_back e h = rw (low_is e.width.0 h.0, low_is e.height.0 h.1.0, low_is e.depth h.1.1.0)

read : (p : Plan) → Narrow (narrow_numbers p) → read_back p ≡ without_ranges p
unfolding read_back without_ranges narrow_numbers buffers_from buffer_texture_from textures_from buffer_words buffer_texture_words texture_words buffer_texture_copy_numbers
read (Buffers p) h = rw (low_is p.left h.0)
read (BufferTexture p) h =
    let r = p.region in
    let sized = h.1.1.1.1.1.1.1 in
    let bytes = given_numbers r.bytes_per_row in
    let rows = given_numbers r.rows_per_image in
    let given = narrow_both bytes rows sized.1.1.1 in
    rw (low_is p.left h.0, option_back r.bytes_per_row given.0, option_back r.rows_per_image given.1, base_back (size_numbers r.size ++ (bytes ++ rows)) r.base h.1, extent_back (bytes ++ rows) r.size sized)
read (Textures p) h =
    let there = h.1.1.1.1.1.1.1.1 in
    let sized = there.1.1.1.1.1.1 in
    rw (low_is p.left h.0, low_is p.part h.1.0, parts_back p.parts, base_back (base_numbers p.dst ++ size_numbers p.size) p.src h.1.1, base_back (size_numbers p.size) p.dst there, extent_back [] p.size sized)

-- ---- the same regions

left_bare : (p : Plan) → left_of (without_ranges p) ≡ left_of p
unfolding left_of without_ranges
left_bare (Buffers p) = refl
left_bare (BufferTexture p) = refl
left_bare (Textures p) = refl

numbers_bare : (p : Plan) → region_numbers (without_ranges p) ≡ region_numbers p
unfolding region_numbers next_numbers without_ranges K.next_of L.next_of stop_if
numbers_bare (Buffers p) = by (eqb p.left 0) refl
  where
    by : (t : Bool) → eqb p.left 0 ≡ t → region_numbers (without_ranges (Buffers p)) ≡ region_numbers (Buffers p)
    by true e = rw e
    by false e = rw e
numbers_bare (BufferTexture p) = by (eqb p.left 0) refl
  where
    by : (t : Bool) → eqb p.left 0 ≡ t → region_numbers (without_ranges (BufferTexture p)) ≡ region_numbers (BufferTexture p)
    by true e = rw e
    by false e = rw e
numbers_bare (Textures p) = numbers_with None p

behind_bare : (p : Plan) → behind_of (without_ranges p) ≡ without_ranges (behind_of p)
unfolding behind_of without_ranges K.next_of L.next_of K.advanced L.advanced stop_if
behind_bare (Buffers p) = by (eqb p.left 0) refl
  where
    by : (t : Bool) → eqb p.left 0 ≡ t → behind_of (without_ranges (Buffers p)) ≡ without_ranges (behind_of (Buffers p))
    by true e = rw e
    by false e = rw e
behind_bare (BufferTexture p) = by (eqb p.left 0) refl
  where
    by : (t : Bool) → eqb p.left 0 ≡ t → behind_of (without_ranges (BufferTexture p)) ≡ without_ranges (behind_of (BufferTexture p))
    by true e = rw e
    by false e = rw e
behind_bare (Textures p) = behind_with None p

regions_bare : (n : ℕ) (p : Plan) → regions_from n (without_ranges p) ≡ regions_from n p
unfolding regions_from
regions_bare zero p = refl
regions_bare (suc n) p = rw (numbers_bare p, behind_bare p, regions_bare n (behind_of p))

pub every_plan : EveryPlan
unfolding regions_left
every_plan p h = (read p h, rw (left_bare p) (regions_bare (left_of p) p))
