-- A plan whose numbers are below the one that stands for absent gives regions whose numbers are.
-- Assumes nothing.
use Prim.{tt}
use mathlib.Core.Path.{◌≡◌, ap, ◌∙◌}
use mathlib.Core.Bool.{Bool, true, false}
use mathlib.Core.List.{List, [], ◌∷◌, ◌++◌}
use Prim.Native.Nat.{ℕ, suc, ◌+◌, ◌-◌, ◌*◌, ◌%◌, ◌^◌, ◌<◌}
use native.Mathlib.Omega.{arith}
use native.Mathlib.Nat.{mod-lt, mod-eq_of_lt, div-le_self, suc-mul}
use borrow.Author.Tests.{ne_eqb}
use lib.Dec.{eqb}
use Rattle.measures.specs.Measure.{divided_by}
use Rattle.conditions.specs.Conditions.{pick, stop_if}
use Rattle.flags.specs.FormatAspects.{DEPTH, STENCIL, PLANE_0, PLANE_1}
use Rattle.rule_copy_range.specs.declared.CopyExtent.{CopyExtent}
use Rattle.rule_selectors.specs.declared.TextureCopyBase.{TextureCopyBase}
use Rattle.rule_selectors.specs.Selector.{next_layer}
use Rattle.plan_buffers.specs.Asking as K
use Rattle.plan_buffer_texture.specs.declared.BufferTexturePlan.{BufferTexturePlan}
use Rattle.plan_buffer_texture.specs.Asking as L
use Rattle.plan_textures.specs.declared.CopyParts.{CopyParts}
use Rattle.plan_textures.specs.declared.CopyParts.TheVariants.{Whole, DepthStencil, Planes}
use Rattle.plan_textures.specs.declared.TextureCopy.{TextureCopy}
use Rattle.plan_textures.specs.declared.TexturePlan.{TexturePlan}
use Rattle.plan_textures.specs.Asking as X
use Rattle.plan_kinds.specs.declared.Plan.{Plan}
use Rattle.plan_kinds.specs.declared.Plan.TheVariants.{Buffers, BufferTexture, Textures}
use Rattle.plan_kinds.specs.Regions.{left_of}
use Rattle.claim_region_output.specs.Asking.{Region, buffers, textures, handed_back, Gives, ended, gave}
use Rattle.claim_region_output.specs.Numbers.{Number, given, absent, optional, base_numbers, sides, numbers, Below}
use Rattle.claim_region_output.specs.Printed.{Told}
use Rattle.claim_region_output.proofs.Asks.{some, next, some_left, its_region}

abbrev pub Small : List Number → Type 0
Small ns = Below (2 ^ 64 - 1) ns

small_both : (ns ms : List Number) → Small ns → Small ms → Small (ns ++ ms)
small_both [] ms h k = k
small_both (given n ∷ ns) ms h k = (h.0, small_both ns ms h.1 k)
small_both (absent ∷ ns) ms h k = small_both ns ms h k

-- the last region's offset, and the numbers that every region has
pub record FitBufferTexture (p : BufferTexturePlan) : Type 0 where
  pub last : p.region.offset + (p.left - 1) * p.stride < 2 ^ 64 - 1
  pub bytes : Small (optional p.region.bytes_per_row ∷ [])
  pub rows : Small (optional p.region.rows_per_image ∷ [])
  pub base : Small (base_numbers p.region.base)
  pub size : Small (sides p.region.size)

pub record FitTextures (p : TexturePlan) : Type 0 where
  pub src : Small (base_numbers p.src)
  pub dst : Small (base_numbers p.dst)
  pub size : Small (sides p.size)

abbrev pub Fit : Plan → Type 0
Fit (Buffers p) = Small (numbers (buffers p.region))
Fit (BufferTexture p) = FitBufferTexture p
Fit (Textures p) = FitTextures p

-- ---- the next region

wrapped : (n : ℕ) → n % 2 ^ 32 < 2 ^ 64 - 1
wrapped n = omega (arith, mod-lt n {m = 2 ^ 32} (omega arith))

next_place : (b : TextureCopyBase) → Small (base_numbers b) → Small (base_numbers (next_layer b))
unfolding next_layer
next_place b h = (h.0, (wrapped (b.array_layer + 1), h.1.1))

-- a part's base and size
part_place : (b : TextureCopyBase) (aspects factor : ℕ) → aspects < 64 → Small (base_numbers b) → Small (base_numbers (X.base_as b aspects factor))
unfolding X.base_as divided_by
part_place b aspects factor few h =
    (h.0, (h.1.0, (omega (arith, div-le_self b.origin.x.0 factor, h.1.1.0), (omega (arith, div-le_self b.origin.y.0 factor, h.1.1.1.0), (h.1.1.1.1.0, (omega (arith, few), tt))))))

part_sides : (e : CopyExtent) (factor : ℕ) → Small (sides e) → Small (sides (X.size_by e factor))
unfolding X.size_by divided_by
part_sides e factor h = (omega (arith, div-le_self e.width.0 factor, h.0), (omega (arith, div-le_self e.height.0 factor, h.1.0), h.1.1))

module _ (p : TexturePlan) (f : FitTextures p) where
  small_copy : (r : TextureCopy) → Small (base_numbers r.src) → Small (base_numbers r.dst) → Small (sides r.size) → Small (numbers (textures r))
  unfolding numbers
  small_copy r s d e = small_both (base_numbers r.src) (base_numbers r.dst ++ sides r.size) s (small_both (base_numbers r.dst) (sides r.size) d e)

  small_part : (aspects factor : ℕ) → aspects < 64 → Small (numbers (textures (X.region_as p aspects factor)))
  unfolding X.region_as
  small_part aspects factor few =
      small_copy (X.region_as p aspects factor) (part_place p.src aspects factor few f.src) (part_place p.dst aspects factor few f.dst) (part_sides p.size factor f.size)

  either_part : (t : Bool) (a b : TextureCopy) → Small (numbers (textures a)) → Small (numbers (textures b)) → Small (numbers (textures (pick t a b)))
  either_part true a b h k = h
  either_part false a b h k = k

  small_texture : (parts : CopyParts) → Small (numbers (textures (X.region_of parts p)))
  unfolding X.region_of
  small_texture Whole = small_copy (record { src = p.src; dst = p.dst; size = p.size }) f.src f.dst f.size
  small_texture DepthStencil = either_part (eqb p.part 0) _ _ (small_part DEPTH 1 (omega arith)) (small_part STENCIL 1 (omega arith))
  small_texture Planes = either_part (eqb p.part 0) _ _ (small_part PLANE_0 1 (omega arith)) (small_part PLANE_1 2 (omega arith))

  -- ---- the plan after it

  other_part_lem : FitTextures (X.other_part p)
  unfolding X.other_part
  other_part_lem = record { src = f.src; dst = f.dst; size = f.size }

  other_layer_lem : FitTextures (X.other_layer p)
  unfolding X.other_layer
  other_layer_lem = record { src = next_place p.src f.src; dst = next_place p.dst f.dst; size = f.size }

  either_plan : (t : Bool) → FitTextures (pick t (X.other_part p) (X.other_layer p))
  either_plan true = other_part_lem
  either_plan false = other_layer_lem

  textures_on : (parts : CopyParts) → FitTextures (X.advanced parts p)
  unfolding X.advanced
  textures_on Whole = other_layer_lem
  textures_on DepthStencil = either_plan (eqb p.part 0)
  textures_on Planes = either_plan (eqb p.part 0)

small_next : (p : Plan) → Fit p → Small (numbers (next p))
unfolding numbers
small_next (Buffers p) f = f
small_next (BufferTexture p) f =
    let r = p.region in
    let bytes = optional r.bytes_per_row in
    let rows = optional r.rows_per_image in
    let placed = base_numbers r.base ++ sides r.size in
    let placed-small = small_both (base_numbers r.base) (sides r.size) f.base f.size in
    (omega (arith, f.last), small_both (bytes ∷ []) (rows ∷ placed) f.bytes (small_both (rows ∷ []) placed f.rows placed-small))
small_next (Textures p) f = small_texture p f p.parts

module _ (p : BufferTexturePlan) (f : FitBufferTexture p) where
  last_on : 0 < p.left - 1 → (p.region.offset + p.stride) % 2 ^ 64 + (p.left - 1 - 1) * p.stride < 2 ^ 64 - 1
  last_on more =
      let n : p.left - 1 ≡ suc (p.left - 1 - 1) = omega (arith, more) in
      let one : (p.left - 1) * p.stride ≡ (p.left - 1 - 1) * p.stride + p.stride = ap (λ (k : ℕ). k * p.stride) n ∙ suc-mul (p.left - 1 - 1) p.stride in
      let below : p.region.offset + p.stride < 2 ^ 64 = omega (arith, one, f.last) in
      rw (mod-eq_of_lt below) (omega (arith, one, f.last))

  layer_on_lem : 0 < (L.advanced p).left → FitBufferTexture (L.advanced p)
  unfolding L.advanced L.moved
  layer_on_lem more = record { last = last_on more; bytes = f.bytes; rows = f.rows; base = next_place p.region.base f.base; size = f.size }

fit_on : (p : Plan) → 0 < left_of p → Fit p → 0 < left_of (handed_back p) → Fit (handed_back p)
unfolding left_of handed_back K.next_of L.next_of X.next_of K.advanced stop_if
fit_on (Buffers p) h f = rw (ne_eqb p.left 0 (some h)) (λ more. f)
fit_on (BufferTexture p) h f = rw (ne_eqb p.left 0 (some h)) (layer_on_lem p f)
fit_on (Textures p) h f = rw (ne_eqb p.left 0 (some h)) (λ more. textures_on p f p.parts)

-- ---- all regions

pub all_told : {p : Plan} {rs : List Region} → Gives p rs → (0 < left_of p → Fit p) → Told rs
all_told (ended e f) fit = tt
all_told {p} (gave {r = r} e g) fit =
    let h = some_left p r e in
    (rw (← its_region p r e) (small_next p (fit h)), all_told g (λ more. fit_on p h (fit h) more))
