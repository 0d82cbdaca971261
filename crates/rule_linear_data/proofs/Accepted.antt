-- Where the rule of linear data goes on.
-- Assumes nothing.
use Rattle.std.specs.Prelude.{Option, Some, None, Ok}
use mathlib.Core.Path.{◌≡◌, refl, sym, ◌∙◌}
use mathlib.Core.Bool.{false, not}
use mathlib.Core.List.{[], flatten}
use Prim.Native.Nat.{ℕ, ◌-◌, ◌*◌, ◌^◌, ◌≤◌, ◌<◌}
use native.Mathlib.Omega.{arith}
use native.Mathlib.Nat.{mul-le-mul_right}
use lib.Dec.{ltb}
use borrow.Author.Tests.{lt-ltb, le-ltb, ltb-true, ltb-false, not-false}
use Rattle.conditions.proofs.Rules.{not_no}
use Rattle.measures.specs.declared.Extent3d.{Extent3d}
use Rattle.measures.specs.Measure.{or_else}
use Rattle.formats.specs.declared.TextureAspect.{TextureAspect}
use Rattle.refusals.specs.declared.CopySide.{CopySide}
use Rattle.refusals.specs.Order.{first}
use Rattle.refusals.proofs.Order.{first_of_all, clear, none_in, flat_empty, test_fails, test_off}
use Rattle.records.specs.declared.TexelCopyBufferLayout.{TexelCopyBufferLayout}
use Rattle.rule_linear_data.specs.declared.Dense.{Dense}
use Rattle.rule_linear_data.specs.declared.LinearData.{LinearData}
use Rattle.rule_linear_data.specs.Linear.{row_stride_of, image_stride_of, image_bytes_of, total_bytes, dense_of, linear_data, is_below, linear_checks, linear_checked}
use Rattle.rule_linear_data.specs.Laws.{LinearLaws, EveryLinear}

-- a given value is not below the dense one, which stands for an absent one
not_below_lem : (o : Option ℕ) (least : ℕ) → is_below o least ≡ false → least ≤ or_else o least
unfolding is_below or_else
not_below_lem (Some n) least h = ltb-false n least h
not_below_lem None least h = omega arith

at_least : (o : Option ℕ) (least : ℕ) → least ≤ or_else o least → is_below o least ≡ false
unfolding is_below or_else
at_least (Some n) least h = le-ltb n least h
at_least None least h = refl

module _ (layout : TexelCopyBufferLayout) (bufferSize : ℕ) (side : CopySide) (d : Dense) where
  abbrev T : ℕ
  T = total_bytes layout d

  linear_holds : flatten (linear_checks layout bufferSize side d) ≡ [] → LinearLaws layout bufferSize d
  unfolding linear_checks
  linear_holds h =
      let n = none_in (linear_checks layout bufferSize side d) h in
      let low = ltb-false bufferSize layout.offset (test_fails _ _ (n 7)) in
      let fits = ltb-false (bufferSize - layout.offset) T (test_fails _ _ (n 8)) in
      record {
        row_fits = not_below_lem layout.bytes_per_row d.row_bytes (test_fails _ _ (n 0));
        rows_fit = not_below_lem layout.rows_per_image d.rows.0 (test_fails _ _ (n 1));
        bytes_given = test_fails _ _ (n 5);
        rows_given = test_fails _ _ (n 6);
        inside = omega arith;
        stride_fits = ltb-true _ _ (not-false (ltb (image_stride_of layout d) (2 ^ 64)) (test_fails _ _ (n 2)));
        image_fits = ltb-true _ _ (not-false (ltb (image_bytes_of layout d) (2 ^ 64)) (test_fails _ _ (n 3)));
        total_fits = ltb-true _ _ (not-false (ltb T (2 ^ 64)) (test_fails _ _ (n 4)));
      }

  below : (n : ℕ) → n < 2 ^ 64 → not (ltb n (2 ^ 64)) ≡ false
  below n h = not_no (ltb n (2 ^ 64)) (lt-ltb n (2 ^ 64) h)

  linear_passes : LinearLaws layout bufferSize d → flatten (linear_checks layout bufferSize side d) ≡ []
  unfolding linear_checks
  linear_passes l =
      let i = l.inside in
      flat_empty (linear_checks layout bufferSize side d) (
        test_off _ _ (at_least layout.bytes_per_row d.row_bytes l.row_fits),
        (
          test_off _ _ (at_least layout.rows_per_image d.rows.0 l.rows_fit),
          (
            test_off _ _ (below (image_stride_of layout d) l.stride_fits),
            (
              test_off _ _ (below (image_bytes_of layout d) l.image_fits),
              (
                test_off _ _ (below T l.total_fits),
                (
                  test_off _ _ l.bytes_given,
                  (
                    test_off _ _ l.rows_given,
                    (test_off _ _ (le-ltb bufferSize layout.offset (omega arith)), (test_off _ _ (le-ltb (bufferSize - layout.offset) T (omega arith)), tt)),
                  ),
                ),
              ),
            ),
          ),
        ),
      )

rows_within : (layout : TexelCopyBufferLayout) (bufferSize : ℕ) (d : Dense) → LinearLaws layout bufferSize d → d.rows.0 * row_stride_of layout d ≤ image_stride_of layout d
rows_within layout bufferSize d l = mul-le-mul_right (row_stride_of layout d) l.rows_fit

pub every_linear : EveryLinear
every_linear =
    record {
      rule = λ layout bufferSize side d. record { passes = linear_passes layout bufferSize side d; holds = linear_holds layout bufferSize side d };
      rows_within = rows_within;
    }

-- ---- the same of the rule's answer

module _ (layout : TexelCopyBufferLayout) (format : ℕ) (aspect : TextureAspect) (bufferSize : ℕ) (side : CopySide) (size : Extent3d) where
  abbrev d : Dense
  d = dense_of format aspect size

  first_found : linear_checked layout format aspect bufferSize side size ≡ first (flatten (linear_checks layout bufferSize side d)) (Ok (linear_data layout d))
  unfolding linear_checked
  first_found = first_of_all LinearData (linear_checks layout bufferSize side d) (Ok (linear_data layout d))

  pub linear_goes : LinearLaws layout bufferSize d → linear_checked layout format aspect bufferSize side size ≡ Ok (linear_data layout d)
  unfolding first
  linear_goes l = first_found ∙ rw (linear_passes layout bufferSize side d l)

  pub linear_went : (m : LinearData) → linear_checked layout format aspect bufferSize side size ≡ Ok m → LinearLaws layout bufferSize d × (linear_data layout d ≡ m)
  linear_went m h =
      let c = clear LinearData (linear_data layout d) (flatten (linear_checks layout bufferSize side d)) m (sym h ∙ first_found) in
      (linear_holds layout bufferSize side d c.0, sym c.1)
