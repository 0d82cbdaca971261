-- Where the range rule goes on.
-- Assumes nothing.
use Rattle.std.proofs.Common.{ap}
use Rattle.std.specs.Prelude.{Ok}
use Rattle.std.proofs.Common.{◌≡◌, ℕ, ◌+◌, ◌-◌, ◌%◌, ◌≤◌, Bool, true, false, not, ◌||◌, eqb, ltb, [], sym, refl, ◌∙◌, arith, ltb-false, le-ltb, eq-eqb, eqb-true, leb-false}
use mathlib.Core.List.{flatten}
use borrow.Author.Tests.{not-false, lt-leb}
use Rattle.conditions.proofs.Rules.{neither, not_both}
use Rattle.measures.specs.declared.Texels.{Texels}
use Rattle.measures.specs.declared.BlockDimensions.{BlockDimensions}
use Rattle.measures.specs.declared.Extent3d.{Extent3d}
use Rattle.measures.specs.declared.Origin3d.{Origin3d}
use Rattle.measures.specs.Measure.{multiple, texels}
use Rattle.formats.specs.Table.{block_dimensions}
use Rattle.refusals.specs.declared.CopySide.{CopySide}
use Rattle.refusals.specs.declared.TextureErrorDimension.{TextureErrorDimension}
use Rattle.refusals.specs.declared.TextureErrorDimension.TheVariants.{X, Y, Z}
use Rattle.refusals.specs.Order.{first}
use Rattle.refusals.proofs.Order.{first_of_all, clear, none_in, flat_empty, test_fails, test_off}
use Rattle.records.specs.declared.Texture.{Texture}
use Rattle.records.specs.declared.TexelCopyTextureInfo.{TexelCopyTextureInfo}
use Rattle.records.specs.Extents.{physical_extent}
use Rattle.rule_copy_range.specs.declared.Subject.{Subject}
use Rattle.rule_copy_range.specs.declared.CopyExtent.{CopyExtent}
use Rattle.rule_copy_range.specs.Range.{is_partial, overruns, dimension_checks, side_checks, block_checks, subject_of, requires_exact, copy_extent, layer_count_of, range_checks, range_checked}
use Rattle.rule_copy_range.specs.Laws.{RangeLaws, EveryRange}

-- ---- one dimension

pub record Run (exact : Bool) (start size limit : Texels) : Type 0 where
  pub inside : start.0 + size.0 ≤ limit.0
  pub whole : exact ≡ true → size.0 ≡ limit.0

module _ (of : Subject) (d : TextureErrorDimension) (start size limit : Texels) (exact : Bool) where
  pub run_of : flatten (dimension_checks of d start size limit exact) ≡ [] → Run exact start size limit
  unfolding dimension_checks overruns is_partial
  run_of h =
      let n = none_in (dimension_checks of d start size limit exact) h in
      let b = neither (ltb limit.0 start.0) (ltb (limit.0 - start.0) size.0) (test_fails _ _ (n 1)) in
      let low : start.0 ≤ limit.0 = ltb-false limit.0 start.0 b.0 in
      let fits : size.0 ≤ limit.0 - start.0 = ltb-false (limit.0 - start.0) size.0 b.1 in
      record {
        inside = omega arith;
        whole = λ e.
            let parts = neither (not (eqb start.0 0)) (not (eqb size.0 limit.0)) (not_both exact (not (eqb start.0 0) || not (eqb size.0 limit.0)) (test_fails _ _ (n 0)) e) in
            eqb-true size.0 limit.0 (not-false (eqb size.0 limit.0) parts.1);
      }

  not_partial : Run exact start size limit → (t : Bool) → exact ≡ t → is_partial exact start.0 size.0 limit.0 ≡ false
  unfolding is_partial
  not_partial r true e =
      let w = r.whole e in
      rw (e, eq-eqb start.0 0 (omega arith), eq-eqb size.0 limit.0 w)
  not_partial r false e = rw e

  pub run_goes : Run exact start size limit → flatten (dimension_checks of d start size limit exact) ≡ []
  unfolding dimension_checks overruns
  run_goes r =
      let i = r.inside in
      flat_empty (dimension_checks of d start size limit exact)
      (test_off _ _ (not_partial r exact refl), (test_off _ _ (rw (le-ltb limit.0 start.0 (omega arith), le-ltb (limit.0 - start.0) size.0 (omega arith))), tt))

-- ---- the three dimensions, and whole blocks

module _ (of : Subject) (o : Origin3d) (size extent : Extent3d) (exact : Bool) where
  record Runs : Type 0 where
    x : Run exact o.x size.width extent.width
    y : Run exact o.y size.height extent.height
    z : Run false (texels o.z) (texels size.depth_or_array_layers) (texels extent.depth_or_array_layers)

  runs_of : flatten (side_checks of o size extent exact) ≡ [] → Runs
  unfolding side_checks
  runs_of h =
      let n = none_in (side_checks of o size extent exact) h in
      record { x = run_of of X _ _ _ exact (n 0); y = run_of of Y _ _ _ exact (n 1); z = run_of of Z _ _ _ false (n 2) }

  runs_go : Runs → flatten (side_checks of o size extent exact) ≡ []
  unfolding side_checks
  runs_go r =
      flat_empty (side_checks of o size extent exact)
      (run_goes of X _ _ _ exact r.x, (run_goes of Y _ _ _ exact r.y, (run_goes of Z _ _ _ false r.z, tt)))

-- a multiple, as a remainder
rest_of : (n m : ℕ) → not (multiple n m) ≡ false → n % m ≡ 0
unfolding multiple
rest_of n m h = eqb-true (n % m) 0 (not-false (eqb (n % m) 0) h)

no_rest : (n m : ℕ) → n % m ≡ 0 → not (multiple n m) ≡ false
unfolding multiple
no_rest n m h = rw (eq-eqb (n % m) 0 h)

module _ (o : Origin3d) (size : Extent3d) (block : BlockDimensions) where
  record Whole : Type 0 where
    x : o.x.0 % block.width.0 ≡ 0
    y : o.y.0 % block.height.0 ≡ 0
    w : size.width.0 % block.width.0 ≡ 0
    h : size.height.0 % block.height.0 ≡ 0

  whole_of : flatten (block_checks o size block) ≡ [] → Whole
  unfolding block_checks
  whole_of b =
      let n = none_in (block_checks o size block) b in
      record { x = rest_of _ _ (test_fails _ _ (n 0)); y = rest_of _ _ (test_fails _ _ (n 1)); w = rest_of _ _ (test_fails _ _ (n 2)); h = rest_of _ _ (test_fails _ _ (n 3)) }

  whole_goes : Whole → flatten (block_checks o size block) ≡ []
  unfolding block_checks
  whole_goes r =
      flat_empty (block_checks o size block)
      (test_off _ _ (no_rest _ _ r.x), (test_off _ _ (no_rest _ _ r.y), (test_off _ _ (no_rest _ _ r.w), (test_off _ _ (no_rest _ _ r.h), tt))))

-- ---- the rule

module _ (view : TexelCopyTextureInfo) (t : Texture) (side : CopySide) (size : Extent3d) where
  abbrev extent : Extent3d
  extent = physical_extent t view.mip_level

  range_passes : RangeLaws view t size → flatten (range_checks view t side size) ≡ []
  unfolding range_checks
  range_passes r =
      let l = r.level in
      flat_empty (range_checks view t side size) (
        test_off _ _ (lt-leb _ _ l),
        (
          runs_go (subject_of t side) view.origin size extent (requires_exact t)
              (record {
                x = record { inside = r.x_inside; whole = r.exact_width };
                y = record { inside = r.y_inside; whole = r.exact_height };
                z = record { inside = r.z_inside; whole = λ e. let z : ◌≡◌ {A = ℕ} 0 1 = cc in absurd (omega arith) };
              }),
          (
            whole_goes view.origin size (block_dimensions t.format) (record { x = r.x_whole; y = r.y_whole; w = r.width_whole; h = r.height_whole }),
            tt,
          ),
        ),
      )

  range_holds : flatten (range_checks view t side size) ≡ [] → RangeLaws view t size
  unfolding range_checks
  range_holds h =
      let n = none_in (range_checks view t side size) h in
      let r = runs_of (subject_of t side) view.origin size extent (requires_exact t) (n 1) in
      let w = whole_of view.origin size (block_dimensions t.format) (n 2) in
      record {
        level = leb-false _ _ (test_fails _ _ (n 0));
        x_inside = r.x.inside;
        y_inside = r.y.inside;
        z_inside = r.z.inside;
        x_whole = w.x;
        y_whole = w.y;
        width_whole = w.w;
        height_whole = w.h;
        exact_width = r.x.whole;
        exact_height = r.y.whole;
      }

pub every_range : EveryRange
every_range view t side size = record { passes = range_passes view t side size; holds = range_holds view t side size }

-- ---- the same of the rule's answer

module _ (view : TexelCopyTextureInfo) (t : Texture) (side : CopySide) (size : Extent3d) where
  abbrev given : CopyExtent × ℕ
  given = (copy_extent t size, layer_count_of t size)

  first_found : range_checked view t side size ≡ first (flatten (range_checks view t side size)) (Ok given)
  unfolding range_checked
  first_found = first_of_all (CopyExtent × ℕ) (range_checks view t side size) (Ok given)

  pub range_goes : RangeLaws view t size → range_checked view t side size ≡ Ok given
  unfolding first
  range_goes r = first_found ∙ rw (range_passes view t side size r)

  pub range_went :
      (v : CopyExtent) (n : ℕ) → range_checked view t side size ≡ Ok (v, n)
      → RangeLaws view t size × (copy_extent t size ≡ v) × (layer_count_of t size ≡ n)
  range_went v n h =
      let c = clear (CopyExtent × ℕ) given (flatten (range_checks view t side size)) (v, n) (sym h ∙ first_found) in
      (range_holds view t side size c.0, alike c.1, alike_layers c.1)
    where
      alike : ◌≡◌ {A = CopyExtent × ℕ} (v, n) given → copy_extent t size ≡ v
      alike e = sym (ap (λ (p : CopyExtent × ℕ). p.0) e)

      alike_layers : ◌≡◌ {A = CopyExtent × ℕ} (v, n) given → layer_count_of t size ≡ n
      alike_layers e = sym (ap (λ (p : CopyExtent × ℕ). p.1) e)
