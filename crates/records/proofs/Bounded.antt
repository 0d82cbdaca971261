-- What the bounds of a record say of its fields.
-- Assumes nothing.
use mathlib.Core.Path.{◌≡◌}
use mathlib.Core.Bool.{true, ◌&&◌}
use mathlib.Core.List.{[], ◌∷◌}
use Prim.Native.Nat.{ℕ, ◌%◌, ◌≤◌, ◌<◌, ◌^◌}
use native.Mathlib.Omega.{arith}
use lib.Dec.{eqb, leb}
use borrow.Author.Tests.{leb-true, eqb-true}
use Rattle.conditions.specs.Conditions.{every}
use Rattle.conditions.proofs.Rules.{both_true, all_true}
use Rattle.measures.specs.declared.Extent3d.{Extent3d}
use Rattle.measures.specs.Measure.{multiple}
use Rattle.mip_levels.specs.declared.TextureDimension.{TextureDimension}
use Rattle.mip_levels.specs.declared.TextureDimension.TheVariants.{D1, D2, D3}
use Rattle.mip_levels.specs.Level.{texture_dimension, mip_level_size, texels_at}
use Rattle.mip_levels.proofs.Halving.{level_laws}
use Rattle.formats.specs.Table.{is_format, block_width_of, block_height_of}
use Rattle.records.specs.declared.Buffer.{Buffer}
use Rattle.records.specs.declared.Texture.{Texture}
use Rattle.records.specs.Limits.{max_buffer_size, max_side, max_side3d, max_layers, max_levels, max_texture_usage}
use Rattle.records.specs.Bounds.{within, buffer_in_bounds, size_in_bounds, mip_side, levels_in_bounds, sides_whole, fields_in_bounds, samples_in_bounds, format_suits, planes_suit, dimension_suits, texture_in_bounds}
use Rattle.records.specs.Extents.{logical_extent}
use Rattle.records.specs.Laws.{Sized, TextureLaws, RecordLaws}

is_within : (least n most : ℕ) → within least n most ≡ true → (least ≤ n) × (n ≤ most)
unfolding within
is_within least n most e = let p = both_true _ _ e in (leb-true _ _ p.0, leb-true _ _ p.1)

-- a side, and a depth or a count of layers, within limits that are within the largest
spread :
    (side depth : ℕ) (e : Extent3d) → side ≤ max_side → depth ≤ max_side3d
    → every (within 1 e.width.0 side ∷ within 1 e.height.0 side ∷ within 1 e.depth_or_array_layers depth ∷ []) ≡ true → Sized e
spread side depth e s d b =
    let t = all_true (within 1 e.width.0 side ∷ within 1 e.height.0 side ∷ within 1 e.depth_or_array_layers depth ∷ []) b in
    let w = is_within _ _ _ t.0 in
    let h = is_within _ _ _ t.1.0 in
    let l = is_within _ _ _ t.1.1.0 in
    record {
      width_some = w.0;
      width_few = omega arith;
      height_some = h.0;
      height_few = omega arith;
      depth_some = l.0;
      depth_few = omega arith;
    }

sized : (d : TextureDimension) (e : Extent3d) → size_in_bounds d e ≡ true → Sized e
unfolding size_in_bounds
sized D1 e b =
    let t = all_true (within 1 e.width.0 max_side ∷ eqb e.height.0 1 ∷ eqb e.depth_or_array_layers 1 ∷ []) b in
    let w = is_within _ _ _ t.0 in
    let h : e.height.0 ≡ 1 = eqb-true _ _ t.1.0 in
    let l : e.depth_or_array_layers ≡ 1 = eqb-true _ _ t.1.1.0 in
    record {
      width_some = w.0;
      width_few = w.1;
      height_some = omega arith;
      height_few = omega arith;
      depth_some = omega arith;
      depth_few = omega arith;
    }
sized D2 e b = spread max_side max_layers e (omega arith) (omega arith) b
sized D3 e b = spread max_side3d max_side3d e (omega arith) (omega arith) b

-- the side that is halved is not 0, and within the largest limit
mip_side_lem : (d : TextureDimension) (e : Extent3d) → Sized e → (0 < mip_side d e) × (mip_side d e < 2 ^ max_levels)
unfolding mip_side
mip_side_lem D1 e s = (omega arith, omega arith)
mip_side_lem D2 e s = (omega arith, omega arith)
mip_side_lem D3 e s = (omega arith, omega arith)

pub mip_side_within : (d : TextureDimension) (e : Extent3d) → size_in_bounds d e ≡ true → (0 < mip_side d e) × (mip_side d e < 2 ^ max_levels)
mip_side_within d e b = mip_side_lem d e (sized d e b)

-- a level of it is no larger, and has texels
level_sized : (d : TextureDimension) (e : Extent3d) (level : ℕ) → Sized e → Sized (mip_level_size d e level)
unfolding texels_at mip_level_size
level_sized D1 e level s =
    let w = level_laws.fewer e.width.0 level s.width_some in
    record {
      width_some = level_laws.some e.width.0 level;
      width_few = omega arith;
      height_some = omega arith;
      height_few = omega arith;
      depth_some = omega arith;
      depth_few = omega arith;
    }
level_sized D2 e level s =
    let w = level_laws.fewer e.width.0 level s.width_some in
    let h = level_laws.fewer e.height.0 level s.height_some in
    record {
      width_some = level_laws.some e.width.0 level;
      width_few = omega arith;
      height_some = level_laws.some e.height.0 level;
      height_few = omega arith;
      depth_some = s.depth_some;
      depth_few = s.depth_few;
    }
level_sized D3 e level s =
    let w = level_laws.fewer e.width.0 level s.width_some in
    let h = level_laws.fewer e.height.0 level s.height_some in
    let d = level_laws.fewer e.depth_or_array_layers level s.depth_some in
    record {
      width_some = level_laws.some e.width.0 level;
      width_few = omega arith;
      height_some = level_laws.some e.height.0 level;
      height_few = omega arith;
      depth_some = level_laws.some e.depth_or_array_layers level;
      depth_few = omega arith;
    }

-- the tests that a texture within its bounds passes, by name
record Passed (t : Texture) : Type 0 where
  size : size_in_bounds (texture_dimension t.dimension) t.size ≡ true
  levels : levels_in_bounds (texture_dimension t.dimension) t.size t.mip_level_count ≡ true
  sides : sides_whole t.format t.size ≡ true

passed : (t : Texture) → texture_in_bounds t ≡ true → Passed t
unfolding texture_in_bounds fields_in_bounds format_suits
passed t b =
    let all = both_true (fields_in_bounds t) (samples_in_bounds t && format_suits t) b in
    let formats = both_true (samples_in_bounds t) (format_suits t) all.1 in
    let fields =
    all_true
    (is_format t.format
    ∷ within 1 t.dimension 3
    ∷ size_in_bounds (texture_dimension t.dimension) t.size
    ∷ levels_in_bounds (texture_dimension t.dimension) t.size t.mip_level_count
    ∷ leb t.usage.0 max_texture_usage
    ∷ [])
    all.0
    in
    let suits = all_true (dimension_suits t.format t.dimension ∷ sides_whole t.format t.size ∷ planes_suit t ∷ []) formats.1 in
    record { size = fields.1.1.0; levels = fields.1.1.1.0; sides = suits.1.0 }

-- whole blocks on both sides
whole : (format : ℕ) (e : Extent3d) → sides_whole format e ≡ true → (e.width.0 % block_width_of format ≡ 0) × (e.height.0 % block_height_of format ≡ 0)
unfolding sides_whole multiple
whole format e b = let p = both_true _ _ b in (eqb-true _ _ p.0, eqb-true _ _ p.1)

-- some levels, and no more than the largest side has
counted : (d : TextureDimension) (e : Extent3d) (levels : ℕ) → Sized e → levels_in_bounds d e levels ≡ true → (0 < levels) × (levels ≤ max_levels)
unfolding levels_in_bounds
counted d e levels s b =
    let l = is_within _ _ _ b in
    let few = level_laws.few (mip_side d e) max_levels (mip_side_lem d e s).1 (omega arith) in
    (l.0, omega arith)

pub texture_laws : (t : Texture) → texture_in_bounds t ≡ true → TextureLaws t
unfolding logical_extent
texture_laws t b =
    let p = passed t b in
    let s = sized (texture_dimension t.dimension) t.size p.size in
    let l = counted (texture_dimension t.dimension) t.size t.mip_level_count s p.levels in
    let w = whole t.format t.size p.sides in
    record {
      sized = s;
      level_sized = λ level. level_sized (texture_dimension t.dimension) t.size level s;
      levels_some = l.0;
      levels_few = l.1;
      width_whole = w.0;
      height_whole = w.1;
    }

pub buffer_laws : (b : Buffer) → buffer_in_bounds b ≡ true → b.size ≤ max_buffer_size
unfolding buffer_in_bounds
buffer_laws b e = leb-true _ _ (both_true _ _ e).0

pub record_laws : RecordLaws
record_laws = record { buffer = buffer_laws; texture = texture_laws }
