-- The plan of an accepted copy with no size of 0, in the claim's own words.
-- Assumes nothing.
use Rattle.std.specs.Prelude.{Some}
use mathlib.Core.Path.{◌≡◌, refl, sym, ◌∙◌}
use mathlib.Core.Bool.{Bool, true, false, cond, ◌||◌, not}
use Prim.Native.Nat.{ℕ, ◌+◌, ◌*◌, ◌<◌}
use native.Mathlib.Omega.{arith}
use native.Mathlib.Nat.{zero-mul}
use borrow.Author.Tests.{ne_eqb}
use Rattle.conditions.specs.Conditions.{stop_if}
use Rattle.formats.specs.Aspects.{chosen_aspects}
use Rattle.refusals.specs.declared.CopySide.TheVariants.{Source, Destination}
use Rattle.rule_copy_range.specs.Range.{copy_extent, layer_count_of}
use Rattle.rule_selectors.specs.Selector.{base_of}
use Rattle.records.specs.Extents.{logical_extent}
use Rattle.rule_init_ranges.specs.declared.MemoryInitKind.TheVariants.{ImplicitlyInitialized, NeedsInitializedMemory}
use Rattle.rule_init_ranges.specs.Init.{buffer_init, is_source, src_texture_range, dst_texture_range, texture_range, is_partial_cover}
use Rattle.measures.specs.Measure.{is_empty}
use Rattle.plan_buffer_texture.specs.declared.BufferTexturePlan.{BufferTexturePlan}
use Rattle.plan_buffer_texture.specs.Plan.{first_region, ranges_of, plan_of}
use Rattle.copy_buffer_texture.specs.declared.UploadSource.TheVariants as S
use Rattle.copy_buffer_texture.specs.Copy.{Direction, Upload, Download, Copy}
use Rattle.copy_buffer_texture.specs.Plan as planner
use Rattle.claim_ownership.specs.Copy.{depth, image, total, count, region_at}
use Rattle.claim_ownership.specs.Ranges.{covers, contiguous, touched, filled, buffer_ranges}
use Rattle.claim_ownership.specs.Ranges as R
use Rattle.claim_ownership.proofs.Accepted.{Checks}
use Rattle.claim_ownership.proofs.Bridges.{Dimensioned, known, ByDimension, by_dimension, kind_is, touched_is, filled_is}
use Rattle.claim_ownership.proofs.Sound.{linear_of, linear_is, level_deep, figured}

abbrev pub plan_of_copy : Copy → BufferTexturePlan
plan_of_copy c =
    record {
      region = region_at c 0;
      stride = image c;
      left = count c;
      ranges = Some ((R.texture_range c), (buffer_ranges c));
      bytes_checked = total c;
    }

-- a buffer that is read is the source, one that is written the destination
read_is : (t : Bool) (s n : ℕ) → buffer_init s Source n t ≡ touched s (s + n)
unfolding buffer_init stop_if is_source
read_is true s n = touched_is s (s + n)
read_is false s n = touched_is s (s + n)

written_is : (t : Bool) (s n : ℕ) → buffer_init s Destination n t ≡ cond t (filled s (s + n)) (touched s (s + n))
unfolding buffer_init stop_if is_source
written_is true s n = filled_is s (s + n)
written_is false s n = touched_is s (s + n)

run_is : (d : Direction) (c : Copy) → planner.buffer_ranges d c.layout.offset (linear_of c) ≡ R.ranges_by d c
unfolding planner.source_ranges
run_is (Upload (S.Buffer b)) c = read_is (contiguous c) c.layout.offset (total c)
run_is (Upload (S.Memory length)) c = refl
run_is (Download b) c = written_is (contiguous c) c.layout.offset (total c)

module _ (c : Copy) (p : BufferTexturePlan) (k : Checks c p) (pw : 0 < c.size.width.0) (ph : 0 < c.size.height.0) (pd : 0 < depth c) where
  some_size : is_empty c.size ≡ false
  unfolding is_empty
  some_size = rw (ne_eqb c.size.width.0 0 (λ e. omega arith), ne_eqb c.size.height.0 0 (λ e. omega arith), ne_eqb (depth c) 0 (λ e. omega arith))

  shape : Dimensioned c.texture
  shape = (known c.texture k.accepted.texture_bounds).1

  sides : ByDimension c.texture.dimension c.view.origin.z (depth c)
  sides = by_dimension c.texture c.view.mip_level c.view.origin.z (depth c) shape (level_deep c p k) pd

  texture_is : (d : Direction) → d ≡ c.direction → planner.copy_texture_range d c ≡ R.texture_range c
  unfolding src_texture_range dst_texture_range texture_range is_partial_cover logical_extent covers
  texture_is (Upload source) e =
      let l = sides.range in
      let m = kind_is c.texture c.size c.view.mip_level c.view.aspect NeedsInitializedMemory ImplicitlyInitialized shape in
      rw (← e, l, m)
  texture_is (Download b) e = let l = sides.range in rw (← e, l)

  region_is : first_region c.layout (base_of c.view c.texture (chosen_aspects c.texture.format c.view.aspect)) (copy_extent c.texture c.size) ≡ region_at c 0
  unfolding first_region base_of copy_extent
  region_is =
      let o : c.layout.offset ≡ c.layout.offset + 0 * image c = omega (arith, zero-mul (image c)) in
      let l = sides.layer in
      let z = sides.z in
      let d = sides.depth in
      let a = (figured c p k).chosen in
      cc

  pub plan_is : p ≡ plan_of_copy c
  unfolding planner.plan_for plan_of ranges_of layer_count_of
  plan_is = sym k.plan ∙ rw (linear_is c p k, some_size, region_is, sides.layers, texture_is c.direction refl, run_is c.direction c)
