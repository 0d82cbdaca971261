-- Level sizes and level counts against the standard's.
-- Assumes nothing.
use mathlib.Core.Path.{◌≡◌, refl, ap, ◌∙◌}
use mathlib.Core.Bool.{Bool, true, false, cond}
use Prim.Native.Nat.{ℕ, ◌+◌, ◌-◌, ◌*◌, ◌/◌, ◌%◌, ◌^◌, ◌≤◌, ◌<◌, max}
use native.Mathlib.Omega.{arith}
use native.Mathlib.Nat.{pos_of_ne-zero, div-add-mod', pow-zero}
use lib.Dec.{eqb, ltb}
use borrow.Author.Tests.{eqb-true, eqb-false, ltb-true, ltb-false}
use Rattle.conditions.specs.Conditions.{stop_if}
use Rattle.measures.specs.Measure.{rounded_up, blocks_of, physical_size, round_up}
use Rattle.measures.proofs.Rounding.{blocks_of_whole, blocks_of_rest}
use Rattle.measures.specs.declared.Extent3d.{Extent3d}
use Rattle.mip_levels.specs.declared.TextureDimension.{TextureDimension}
use Rattle.mip_levels.specs.declared.TextureDimension.TheVariants.{D1, D2, D3}
use Rattle.mip_levels.specs.Level.{side_at, mip_level_size, max_mip_levels, texels_at}
use Rattle.mip_levels.specs.Level as levels
use Rattle.mip_levels.proofs.Halving.{level_laws, reaches, reached}
use Rattle.formats.proofs.Rows.{every_format}
use Rattle.records.specs.Bounds as B
use Rattle.records.specs.Extents.{logical_extent, physical_extent}
use Rattle.claim_webgpu_rules.specs.Formats.{dimension_of}
use Rattle.claim_webgpu_rules.specs.WebGpu.{half_at, logical_size, to_block, physical_subresource_size, mip_side}
use Rattle.claim_webgpu_rules.specs.Agreement.{LogicalExtents, PhysicalExtents, LevelCounts}
use Rattle.claim_webgpu_rules.proofs.Rows.{row_of}

-- both name the same dimension, whatever the number
pub dimension_is : (n : ℕ) → levels.texture_dimension n ≡ dimension_of n
unfolding levels.texture_dimension dimension_of stop_if
dimension_is n = go (eqb n 1) (eqb n 3)
  where
    go : (s t : Bool) → stop_if s D1 (stop_if t D3 D2) ≡ cond s D1 (cond t D3 D2)
    go true t = refl
    go false true = refl
    go false false = refl

half_is : (n level : ℕ) → side_at n level ≡ half_at n level
unfolding side_at
half_is n level = ap (λ (k : ℕ). max 1 k) (level_laws.halves n level)

size_is : (d : TextureDimension) (e : Extent3d) (level : ℕ) → mip_level_size d e level ≡ logical_size d e level
unfolding texels_at mip_level_size logical_size
size_is D1 e level = rw (half_is e.width.0 level)
size_is D2 e level = rw (half_is e.width.0 level, half_is e.height.0 level)
size_is D3 e level = rw (half_is e.width.0 level, half_is e.height.0 level, half_is e.depth_or_array_layers level)

pub logical_extents : LogicalExtents
unfolding logical_extent
logical_extents t level = size_is (levels.texture_dimension t.dimension) t.size level ∙ ap (λ d. logical_size d t.size level) (dimension_is t.dimension)

-- rounding up by blocks is rounding to the next multiple
block_is : (n block : ℕ) → 0 < block → rounded_up n block ≡ to_block n block
unfolding rounded_up to_block
block_is n block pos = go (eqb (n % block) 0) refl
  where
    go : (t : Bool) → eqb (n % block) 0 ≡ t → blocks_of n block * block ≡ cond t n ((n / block + 1) * block)
    go true e =
        let z = eqb-true (n % block) 0 e in
        ap (λ (k : ℕ). k * block) (blocks_of_whole block pos n z) ∙ omega (arith, div-add-mod' n block)
    go false e = ap (λ (k : ℕ). k * block) (blocks_of_rest block pos n (pos_of_ne-zero (eqb-false (n % block) 0 e)))

pub physical_extents : PhysicalExtents
unfolding physical_extent round_up physical_size physical_subresource_size
physical_extents t level k =
    let f = every_format t.format in
    let r = row_of t.format k in
    let e = logical_size (dimension_of t.dimension) t.size level in
    rw (logical_extents t level)
    (rw (block_is e.width.0 _ f.width_some, block_is e.height.0 _ f.height_some, r.width, r.height))

-- the last level is reached, and the next is not
counted : (n : ℕ) → 0 < n → (0 < max_mip_levels n) × (2 ^ (max_mip_levels n - 1) ≤ n) × (n < 2 ^ max_mip_levels n)
counted n pos =
    let first = (level_laws.counted n 0 pos).1 (reaches n 0 (omega (arith, pow-zero 2))) in
    let reach = reached n (max_mip_levels n - 1) ((level_laws.counted n (max_mip_levels n - 1) pos).0 (omega arith)) in
    (first, reach, go (ltb n (2 ^ max_mip_levels n)) refl)
  where
    go : (t : Bool) → ltb n (2 ^ max_mip_levels n) ≡ t → n < 2 ^ max_mip_levels n
    go true e = ltb-true n (2 ^ max_mip_levels n) e
    go false e =
        let more = (level_laws.counted n (max_mip_levels n) pos).1 (reaches n (max_mip_levels n) (ltb-false n (2 ^ max_mip_levels n) e)) in
        absurd (omega arith)

-- the sides that count are the same
pub side_is : (d : TextureDimension) (e : Extent3d) → B.mip_side d e ≡ mip_side d e
unfolding B.mip_side
side_is D1 e = refl
side_is D2 e = refl
side_is D3 e = refl

pub level_counts : LevelCounts
level_counts d e pos =
    let c = counted (mip_side d e) pos in
    rw (side_is d e) (record { some = c.0; reached = c.1; last = c.2 })
