-- The planner's bounds of records are document 01's.
-- Assumes nothing.
use Rattle.std.proofs.lemmas.Bool.{or_left, or_right}
use mathlib.Core.Path.{◌≡◌, refl, ◌∙◌}
use mathlib.Core.Bool.{Bool, true, false, not, ◌&&◌, ◌||◌, cond}
use mathlib.Core.List.{[], ◌∷◌}
use mathlib.Core.Logic.{◌⊎◌, inl, inr, ⊎_elim}
use Prim.Native.Nat.{ℕ, ◌-◌, ◌/◌, ◌%◌, ◌^◌, ◌≤◌, ◌<◌}
use native.Mathlib.Omega.{arith}
use native.Mathlib.Nat.{mod-one}
use lib.Dec.{eqb, leb}
use borrow.Author.Tests.{ltb-true, lt-ltb, leb-true, leb-false, le-leb, eqb-true, eq-eqb}
use Rattle.conditions.specs.Conditions.{every}
use Rattle.conditions.proofs.Rules.{both_true, either, all_true}
use Rattle.conditions.proofs.Tables.{every_below, at_below}
use Rattle.measures.specs.declared.Extent3d.{Extent3d}
use Rattle.measures.specs.Measure.{multiple}
use Rattle.mip_levels.specs.declared.TextureDimension.{TextureDimension}
use Rattle.mip_levels.specs.declared.TextureDimension.TheVariants.{D1, D2, D3}
use Rattle.mip_levels.specs.Level as levels
use Rattle.mip_levels.specs.Level.{max_mip_levels}
use Rattle.mip_levels.proofs.Halving.{level_laws}
use Rattle.formats.specs.Table.{formats, format_row, is_format, block_width_of, block_height_of, is_multi_planar, block_dimensions}
use Rattle.records.specs.declared.Buffer.{Buffer}
use Rattle.records.specs.declared.Texture.{Texture}
use Rattle.records.specs.Bounds as B
use Rattle.records.specs.Bounds.{within, buffer_in_bounds, size_in_bounds, levels_in_bounds, may_be_multisampled, samples_in_bounds, dimension_suits, sides_whole, planes_suit, fields_in_bounds, format_suits, texture_in_bounds}
use Rattle.claim_webgpu_rules.specs.Formats.{dimension_of}
use Rattle.claim_webgpu_rules.specs.WebGpu.{mip_side}
use Rattle.claim_webgpu_rules.proofs.Sizes.{dimension_is, side_is}
use Rattle.claim_webgpu_copies.specs.Bounds.{Between, BufferInBounds, SizeInBounds, FourSamples, TextureInBounds, RecordBounds}

-- ---- tests

between_of : (a n b : ℕ) → within a n b ≡ true → Between a n b
unfolding within
between_of a n b e = let p = both_true (leb a n) (leb n b) e in (leb-true a n p.0, leb-true n b p.1)

between_by : (a n b : ℕ) → Between a n b → within a n b ≡ true
unfolding within
between_by a n b h = rw (le-leb a n h.0) (le-leb n b h.1)

rest_of : (n m : ℕ) → multiple n m ≡ true → n % m ≡ 0
unfolding multiple
rest_of n m e = eqb-true (n % m) 0 e

no_rest : (n m : ℕ) → n % m ≡ 0 → multiple n m ≡ true
unfolding multiple
no_rest n m e = eq-eqb (n % m) 0 e

-- ---- buffers

buffer_of_lem : (b : Buffer) → buffer_in_bounds b ≡ true → BufferInBounds b
unfolding buffer_in_bounds
buffer_of_lem b e = let p = both_true _ _ e in record { size = leb-true _ _ p.0; usage = leb-true _ _ p.1 }

buffer_by : (b : Buffer) → BufferInBounds b → buffer_in_bounds b ≡ true
unfolding buffer_in_bounds
buffer_by b h = rw (le-leb b.size 268435456 h.size) (le-leb b.usage.0 1023 h.usage)

-- ---- sides and levels

size_of : (d : TextureDimension) (e : Extent3d) → size_in_bounds d e ≡ true → SizeInBounds d e
unfolding size_in_bounds
size_of D1 e h = let p = all_true (within 1 e.width.0 8192 ∷ eqb e.height.0 1 ∷ eqb e.depth_or_array_layers 1 ∷ []) h in (between_of _ _ _ p.0, eqb-true _ _ p.1.0, eqb-true _ _ p.1.1.0)
size_of D2 e h = let p = all_true (within 1 e.width.0 8192 ∷ within 1 e.height.0 8192 ∷ within 1 e.depth_or_array_layers 256 ∷ []) h in (between_of _ _ _ p.0, between_of _ _ _ p.1.0, between_of _ _ _ p.1.1.0)
size_of D3 e h = let p = all_true (within 1 e.width.0 2048 ∷ within 1 e.height.0 2048 ∷ within 1 e.depth_or_array_layers 2048 ∷ []) h in (between_of _ _ _ p.0, between_of _ _ _ p.1.0, between_of _ _ _ p.1.1.0)

size_by_lem : (d : TextureDimension) (e : Extent3d) → SizeInBounds d e → size_in_bounds d e ≡ true
unfolding size_in_bounds
size_by_lem D1 e h = rw (between_by 1 e.width.0 8192 h.0, eq-eqb e.height.0 1 h.1) (eq-eqb e.depth_or_array_layers 1 h.2)
size_by_lem D2 e h = rw (between_by 1 e.width.0 8192 h.0, between_by 1 e.height.0 8192 h.1) (between_by 1 e.depth_or_array_layers 256 h.2)
size_by_lem D3 e h = rw (between_by 1 e.width.0 2048 h.0, between_by 1 e.height.0 2048 h.1) (between_by 1 e.depth_or_array_layers 2048 h.2)

some_side : (d : TextureDimension) (e : Extent3d) → SizeInBounds d e → 0 < mip_side d e
some_side D1 e h = omega arith
some_side D2 e h = omega arith
some_side D3 e h = omega arith

module _ (d : TextureDimension) (e : Extent3d) (n : ℕ) (h : SizeInBounds d e) where
  levels_of : levels_in_bounds d e n ≡ true → (1 ≤ n) × (1 ≤ mip_side d e / 2 ^ (n - 1))
  unfolding levels_in_bounds
  levels_of t =
      let p = between_of 1 n (max_mip_levels (B.mip_side d e)) t in
      let few : n - 1 < max_mip_levels (mip_side d e) = rw (← side_is d e) (omega (arith, p.0, p.1)) in
      (p.0, rw (← level_laws.halves (mip_side d e) (n - 1)) ((level_laws.counted (mip_side d e) (n - 1) (some_side d e h)).0 few))

  levels_by : 1 ≤ n → 1 ≤ mip_side d e / 2 ^ (n - 1) → levels_in_bounds d e n ≡ true
  unfolding levels_in_bounds
  levels_by some last =
      let few = (level_laws.counted (mip_side d e) (n - 1) (some_side d e h)).1 (rw (level_laws.halves (mip_side d e) (n - 1)) last) in
      between_by 1 n (max_mip_levels (B.mip_side d e)) (some, rw (side_is d e) (omega arith))

-- ---- formats: blocks are 4×4 for 11 to 14, else 1×1

blocks : ℕ → Bool
blocks f = eqb (block_width_of f) (cond (within 11 f 14) 4 1) && eqb (block_height_of f) (cond (within 11 f 14) 4 1)

all_blocks : every_below blocks 22 ≡ true
unfolding blocks within block_dimensions format_row formats
all_blocks = refl

block_sides : (f : ℕ) → f ≤ 21 → (block_width_of f ≡ cond (within 11 f 14) 4 1) × (block_height_of f ≡ cond (within 11 f 14) 4 1)
unfolding blocks
block_sides f h = let p = both_true _ _ (at_below blocks 22 all_blocks f (omega arith)) in (eqb-true _ _ p.0, eqb-true _ _ p.1)

module _ (t : Texture) (known : t.format ≤ 21) where
  whole_of : sides_whole t.format t.size ≡ true → Between 11 t.format 14 → (t.size.width.0 % 4 ≡ 0) × (t.size.height.0 % 4 ≡ 0)
  unfolding sides_whole
  whole_of e b =
      let p = both_true _ _ e in
      let s = block_sides t.format known in
      let four = between_by 11 t.format 14 b in
      let w : block_width_of t.format ≡ 4 = s.0 ∙ rw four in
      let h : block_height_of t.format ≡ 4 = s.1 ∙ rw four in
      (rw (← w) (rest_of _ _ p.0), rw (← h) (rest_of _ _ p.1))

  whole_by : (Between 11 t.format 14 → (t.size.width.0 % 4 ≡ 0) × (t.size.height.0 % 4 ≡ 0)) → sides_whole t.format t.size ≡ true
  unfolding sides_whole
  whole_by h = go (within 11 t.format 14) refl
    where
      go : (b : Bool) → within 11 t.format 14 ≡ b → (multiple t.size.width.0 (block_width_of t.format) && multiple t.size.height.0 (block_height_of t.format)) ≡ true
      go true e =
          let s = block_sides t.format known in
          let r = h (between_of 11 t.format 14 e) in
          rw (s.0, s.1, e, no_rest t.size.width.0 4 r.0) (no_rest t.size.height.0 4 r.1)
      go false e =
          let s = block_sides t.format known in
          rw (s.0, s.1, e, no_rest t.size.width.0 1 (mod-one _)) (no_rest t.size.height.0 1 (mod-one _))

module _ (t : Texture) where
  flat_of : dimension_suits t.format t.dimension ≡ true → 11 ≤ t.format → t.dimension ≡ 2
  unfolding dimension_suits
  flat_of e h = ⊎_elim (λ l. absurd (omega (arith, leb-true t.format 10 l))) (λ d. eqb-true t.dimension 2 d) (either (leb t.format 10) (eqb t.dimension 2) e)

  flat_by : (11 ≤ t.format → t.dimension ≡ 2) → dimension_suits t.format t.dimension ≡ true
  unfolding dimension_suits
  flat_by h = go (leb t.format 10) refl
    where
      go : (b : Bool) → leb t.format 10 ≡ b → (b || eqb t.dimension 2) ≡ true
      go true e = refl
      go false e = eq-eqb t.dimension 2 (h (omega (arith, leb-false t.format 10 e)))

  planes_of : planes_suit t ≡ true → t.format ≡ 21 → (t.size.width.0 % 2 ≡ 0) × (t.size.height.0 % 2 ≡ 0) × (t.mip_level_count ≡ 1)
  unfolding planes_suit is_multi_planar
  planes_of e f =
      let p = all_true (multiple t.size.width.0 2 ∷ multiple t.size.height.0 2 ∷ eqb t.mip_level_count 1 ∷ []) (rw (eq-eqb t.format 21 f) at e) in
      (rest_of _ _ p.0, rest_of _ _ p.1.0, eqb-true _ _ p.1.1.0)

  planes_by : (t.format ≡ 21 → (t.size.width.0 % 2 ≡ 0) × (t.size.height.0 % 2 ≡ 0) × (t.mip_level_count ≡ 1)) → planes_suit t ≡ true
  unfolding planes_suit is_multi_planar
  planes_by h = go (eqb t.format 21) refl
    where
      go : (b : Bool) → eqb t.format 21 ≡ b → (not b || every (multiple t.size.width.0 2 ∷ multiple t.size.height.0 2 ∷ eqb t.mip_level_count 1 ∷ [])) ≡ true
      go true e = let r = h (eqb-true _ _ e) in rw (no_rest t.size.width.0 2 r.0, no_rest t.size.height.0 2 r.1) (eq-eqb t.mip_level_count 1 r.2)
      go false e = refl

  -- ---- samples

  multisampled_of : may_be_multisampled t.format ≡ true → (t.format ≤ 10) ⊎ Between 15 t.format 20
  unfolding may_be_multisampled
  multisampled_of e = ⊎_elim (λ l. inl (leb-true _ _ l)) (λ b. inr (between_of _ _ _ b)) (either (leb t.format 10) _ e)

  multisampled_by : (t.format ≤ 10) ⊎ Between 15 t.format 20 → may_be_multisampled t.format ≡ true
  unfolding may_be_multisampled
  multisampled_by (inl l) = or_left (leb t.format 10) _ (le-leb _ _ l)
  multisampled_by (inr b) = or_right (leb t.format 10) _ (between_by _ _ _ b)

  samples_of : samples_in_bounds t ≡ true → (t.sample_count ≡ 1) ⊎ FourSamples t
  unfolding samples_in_bounds
  samples_of e = ⊎_elim (λ one. inl (eqb-true _ _ one)) (λ four. inr (of four)) (either (eqb t.sample_count 1) _ e)
    where
      of : every (eqb t.sample_count 4 ∷ eqb t.dimension 2 ∷ eqb t.size.depth_or_array_layers 1 ∷ eqb t.mip_level_count 1 ∷ may_be_multisampled t.format ∷ []) ≡ true → FourSamples t
      of e =
          let p = all_true (eqb t.sample_count 4 ∷ eqb t.dimension 2 ∷ eqb t.size.depth_or_array_layers 1 ∷ eqb t.mip_level_count 1 ∷ may_be_multisampled t.format ∷ []) e in
          record { four = eqb-true _ _ p.0; flat = eqb-true _ _ p.1.0; one_layer = eqb-true _ _ p.1.1.0; one_level = eqb-true _ _ p.1.1.1.0; format = multisampled_of p.1.1.1.1.0 }

  samples_by : (t.sample_count ≡ 1) ⊎ FourSamples t → samples_in_bounds t ≡ true
  unfolding samples_in_bounds
  samples_by (inl one) = or_left (eqb t.sample_count 1) _ (eq-eqb _ _ one)
  samples_by (inr f) =
      or_right (eqb t.sample_count 1) _
      (rw (eq-eqb t.sample_count 4 f.four, eq-eqb t.dimension 2 f.flat, eq-eqb t.size.depth_or_array_layers 1 f.one_layer, eq-eqb t.mip_level_count 1 f.one_level) (multisampled_by f.format))

  -- ---- the whole record

  abbrev d : TextureDimension
  d = dimension_of t.dimension

  same_dimension : levels.texture_dimension t.dimension ≡ d
  same_dimension = dimension_is t.dimension

  texture_of_lem : texture_in_bounds t ≡ true → TextureInBounds t
  unfolding texture_in_bounds fields_in_bounds format_suits is_format formats
  texture_of_lem e =
      let parts = all_true (fields_in_bounds t ∷ samples_in_bounds t ∷ format_suits t ∷ []) e in
      let v = levels.texture_dimension t.dimension in
      let f = all_true (is_format t.format ∷ within 1 t.dimension 3 ∷ size_in_bounds v t.size ∷ levels_in_bounds v t.size t.mip_level_count ∷ leb t.usage.0 31 ∷ []) parts.0 in
      let s = all_true (dimension_suits t.format t.dimension ∷ sides_whole t.format t.size ∷ planes_suit t ∷ []) parts.1.1.0 in
      let format : t.format < 22 = ltb-true t.format 22 f.0 in
      let known : t.format ≤ 21 = omega arith in
      let size = size_of d t.size (rw same_dimension at f.1.1.0) in
      let l = levels_of d t.size t.mip_level_count size (rw same_dimension at f.1.1.1.0) in
      record {
        format = known;
        dimension = between_of _ _ _ f.1.0;
        size = size;
        levels = l.0;
        last_level = l.1;
        usage = leb-true _ _ f.1.1.1.1.0;
        samples = samples_of parts.1.0;
        flat = flat_of s.0;
        blocks = whole_of t known s.1.0;
        planes = planes_of s.1.1.0;
      }

  fields_by : TextureInBounds t → fields_in_bounds t ≡ true
  unfolding fields_in_bounds is_format formats
  fields_by h =
      rw (
        lt-ltb t.format 22 (omega (arith, h.format)),
        between_by 1 t.dimension 3 h.dimension,
        same_dimension,
        size_by_lem d t.size h.size,
        levels_by d t.size t.mip_level_count h.size h.levels h.last_level,
      )
      (le-leb t.usage.0 31 h.usage)

  suits_by : TextureInBounds t → format_suits t ≡ true
  unfolding format_suits
  suits_by h = rw (flat_by h.flat, whole_by t h.format h.blocks) (planes_by h.planes)

  texture_by : TextureInBounds t → texture_in_bounds t ≡ true
  unfolding texture_in_bounds
  texture_by h = rw (fields_by h, samples_by h.samples) (suits_by h)

pub record_bounds : RecordBounds
record_bounds = record { buffers = λ b. (buffer_of_lem b, buffer_by b); textures = λ t. (texture_of_lem t, texture_by t) }
