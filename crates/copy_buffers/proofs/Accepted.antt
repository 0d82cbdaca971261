-- A copy between buffers is planned exactly where its laws hold.
-- Assumes nothing.
use Rattle.std.specs.Prelude.{Ok}
use mathlib.Core.Path.{◌≡◌}
use mathlib.Core.Bool.{false, not}
use Prim.Native.Nat.{ℕ, ◌+◌, ◌-◌, ◌%◌, ◌≤◌}
use native.Mathlib.Omega.{arith}
use lib.Dec.{eqb, ltb}
use borrow.Author.Tests.{ltb-false, le-ltb, not-false, eqb-true, eq-eqb}
use Rattle.conditions.proofs.Rules.{not_no}
use Rattle.measures.specs.Measure.{multiple}
use Rattle.refusals.specs.declared.CopySide.TheVariants.{Source, Destination}
use Rattle.refusals.specs.Order.{decided}
use Rattle.refusals.proofs.Order.{none_found, all_pass, test_fails, test_off}
use Rattle.records.proofs.Checked.{buffer_of_lem, buffer_passes}
use Rattle.plan_buffers.specs.declared.BufferPlan.{BufferPlan}
use Rattle.plan_buffers.specs.Plan.{plan_of}
use Rattle.copy_buffers.specs.Copy.{Copy}
use Rattle.copy_buffers.specs.Plan.{bytes, buffer_copy_checks, planned}
use Rattle.copy_buffers.specs.Laws.{Accepted, EveryCopyLaw}

multiple_of : (n : ℕ) → not (multiple n 4) ≡ false → n % 4 ≡ 0
unfolding multiple
multiple_of n h = eqb-true (n % 4) 0 (not-false (eqb (n % 4) 0) h)

multiple_by : (n : ℕ) → n % 4 ≡ 0 → not (multiple n 4) ≡ false
unfolding multiple
multiple_by n h = not_no (eqb (n % 4) 0) (eq-eqb (n % 4) 0 h)

module _ (c : Copy) where
  abbrev plan : BufferPlan
  plan = plan_of c.src_offset c.dst_offset (bytes c)

  inside : (offset size : ℕ) → ltb size offset ≡ false → ltb (size - offset) (bytes c) ≡ false → offset + bytes c ≤ size
  inside offset size start end = omega (arith, ltb-false size offset start, ltb-false (size - offset) (bytes c) end)

  starts : (offset size : ℕ) → offset + bytes c ≤ size → ltb size offset ≡ false
  starts offset size h = le-ltb size offset (omega arith)

  ends : (offset size : ℕ) → offset + bytes c ≤ size → ltb (size - offset) (bytes c) ≡ false
  ends offset size h = le-ltb (size - offset) (bytes c) (omega arith)

  accepted : (p : BufferPlan) → decided (buffer_copy_checks c) (Ok plan) ≡ Ok p → Accepted c × (plan ≡ p)
  unfolding buffer_copy_checks
  accepted p h =
      let f = none_found BufferPlan plan (buffer_copy_checks c) p h in
      let n = f.0 in (
        record {
          src_bounds = buffer_of_lem c.src Source (n 0);
          dst_bounds = buffer_of_lem c.dst Destination (n 1);
          different = test_fails _ _ (n 2);
          src_usage = not-false _ (test_fails _ _ (n 3));
          dst_usage = not-false _ (test_fails _ _ (n 4));
          size_aligned = multiple_of (bytes c) (test_fails _ _ (n 6));
          src_aligned = multiple_of c.src_offset (test_fails _ _ (n 7));
          dst_aligned = multiple_of c.dst_offset (test_fails _ _ (n 8));
          index_fact = test_fails _ _ (n 9);
          src_inside = inside c.src_offset c.src.size (test_fails _ _ (n 5)) (test_fails _ _ (n 10));
          dst_inside = inside c.dst_offset c.dst.size (test_fails _ _ (n 11)) (test_fails _ _ (n 12));
        },
        f.1,
      )

  plans : Accepted c → decided (buffer_copy_checks c) (Ok plan) ≡ Ok plan
  unfolding buffer_copy_checks
  plans a =
      all_pass BufferPlan plan (buffer_copy_checks c) (
        buffer_passes c.src Source a.src_bounds,
        (
          buffer_passes c.dst Destination a.dst_bounds,
          (
            test_off _ _ a.different,
            (
              test_off _ _ (not_no _ a.src_usage),
              (
                test_off _ _ (not_no _ a.dst_usage),
                (
                  test_off _ _ (starts c.src_offset c.src.size a.src_inside),
                  (
                    test_off _ _ (multiple_by (bytes c) a.size_aligned),
                    (
                      test_off _ _ (multiple_by c.src_offset a.src_aligned),
                      (
                        test_off _ _ (multiple_by c.dst_offset a.dst_aligned),
                        (
                          test_off _ _ a.index_fact,
                          (
                            test_off _ _ (ends c.src_offset c.src.size a.src_inside),
                            (
                              test_off _ _ (starts c.dst_offset c.dst.size a.dst_inside),
                              (
                                test_off _ _ (ends c.dst_offset c.dst.size a.dst_inside),
                                tt,
                              ),
                            ),
                          ),
                        ),
                      ),
                    ),
                  ),
                ),
              ),
            ),
          ),
        ),
      )

pub every_copy_law : EveryCopyLaw
unfolding planned
every_copy_law c = record { has_plan = plans c; is_accepted = accepted c }
