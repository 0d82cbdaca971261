-- Where a copy between textures is accepted.
-- Assumes nothing.
use Rattle.std.specs.Prelude.{Ok}
use mathlib.Core.Path.{◌≡◌, refl}
use mathlib.Core.Bool.{Bool, true, false, not, ◌&&◌}
use mathlib.Core.List.{[], ◌∷◌, flatten}
use Prim.Native.Nat.{ℕ, ◌+◌, ◌≤◌}
use native.Mathlib.Omega.{arith}
use lib.Dec.{eqb}
use borrow.Author.Tests.{eqb-true, eq-eqb, not-false}
use Rattle.conditions.specs.Conditions.{pick}
use Rattle.conditions.proofs.Rules.{not_yes, not_no, not_both}
use Rattle.measures.specs.declared.Texels.{Texels}
use Rattle.measures.specs.declared.Extent3d.{Extent3d}
use Rattle.refusals.specs.declared.CopySide.TheVariants.{Source, Destination}
use Rattle.refusals.specs.declared.TransferError.{TransferError}
use Rattle.refusals.specs.Order.{Checks, refuse_if}
use Rattle.refusals.proofs.Order.{none_found, none_in, all_pass, flat_empty, test_fails, test_off}
use Rattle.records.specs.Bounds.{texture_checks}
use Rattle.rule_copy_range.proofs.Accepted.{Run, run_of, run_goes, every_range}
use Rattle.rule_selectors.specs.Selector.{selector_checks, same_texture_checks}
use Rattle.records.specs.declared.TextureSide.{TextureSide}
use Rattle.plan_textures.specs.declared.TexturePlan.{TexturePlan}
use Rattle.copy_textures.specs.Copy.{BetweenTextures, is_one_texture, splits, formats_differ, plane_width, plane_height, plan_for}
use Rattle.copy_textures.specs.Plan.{plane_checks, texture_copy_checks, texture_to_texture}
use Rattle.copy_textures.specs.Laws.{Accepted, planned, EveryCopyLaw}

-- ---- rules of one check, and checks under a test

module _ (t : Bool) (e : TransferError) where
  alone_fails : flatten (refuse_if t e ∷ []) ≡ [] → t ≡ false
  alone_fails h = test_fails t e (none_in (refuse_if t e ∷ []) h 0)

  alone_off : t ≡ false → flatten (refuse_if t e ∷ []) ≡ []
  alone_off h = flat_empty (refuse_if t e ∷ []) (test_off t e h, tt)

under : (t : Bool) (checks : Checks) → flatten (pick t checks []) ≡ [] → t ≡ true → flatten checks ≡ []
under true checks h e = h
under false checks h e = let z : ◌≡◌ {A = ℕ} 0 1 = cc in absurd (omega arith)

under_off : (t : Bool) (checks : Checks) → (t ≡ true → flatten checks ≡ []) → flatten (pick t checks []) ≡ []
unfolding flatten
under_off true checks h = h refl
under_off false checks h = refl

-- ---- tests that count only where nothing is split

unless : (split t : Bool) → (t && not split) ≡ false → split ≡ false → t ≡ false
unless true t h e = let z : ◌≡◌ {A = ℕ} 0 1 = cc in absurd (omega arith)
unless false true h e = h
unless false false h e = refl

unless_off : (split t : Bool) → (split ≡ false → t ≡ false) → (t && not split) ≡ false
unless_off true true h = refl
unless_off true false h = refl
unless_off false true h = h refl
unless_off false false h = refl

where_whole : (split t : Bool) → (split ≡ false → t ≡ false) → (not split && t) ≡ false
where_whole true t h = refl
where_whole false t h = h refl

-- ---- two numbers that are tested to be equal

equal : (a b : ℕ) → not (eqb a b) ≡ false → a ≡ b
equal a b h = eqb-true a b (not-false _ h)

equal_by : (a b : ℕ) → a ≡ b → not (eqb a b) ≡ false
equal_by a b h = not_no _ (eq-eqb a b h)

-- ---- 9 against the plane

partly : {start size limit : Texels} → start.0 + size.0 ≤ limit.0 → Run false start size limit
partly h = record { inside = h; whole = λ e. let z : ◌≡◌ {A = ℕ} 0 1 = cc in absurd (omega arith) }

module _ (src : TextureSide) (size : Extent3d) where
  abbrev InsideX : Type 0
  InsideX = src.view.origin.x.0 + size.width.0 ≤ (plane_width src).0

  abbrev InsideY : Type 0
  InsideY = src.view.origin.y.0 + size.height.0 ≤ (plane_height src).0

  plane_of : flatten (plane_checks src size) ≡ [] → InsideX × InsideY
  unfolding plane_checks
  plane_of h =
      let n = none_in (plane_checks src size) h in
      ((run_of _ _ _ _ _ false (n 0)).inside, (run_of _ _ _ _ _ false (n 1)).inside)

  plane_goes : InsideX → InsideY → flatten (plane_checks src size) ≡ []
  unfolding plane_checks
  plane_goes x y = flat_empty (plane_checks src size) (run_goes _ _ _ _ _ false (partly x), (run_goes _ _ _ _ _ false (partly y), tt))

-- ---- the whole list

module _ (c : BetweenTextures) where
  accepted : (p : TexturePlan) → planned c ≡ Ok p → Accepted c × (plan_for c ≡ p)
  unfolding texture_to_texture texture_copy_checks texture_checks selector_checks same_texture_checks formats_differ
  accepted p h =
      let k = none_found TexturePlan (plan_for c) (texture_copy_checks c) p h in
      let n = k.0 in (
        record {
          src_bounds = not-false _ (alone_fails _ _ (n 0));
          dst_bounds = not-false _ (alone_fails _ _ (n 1));
          formats = λ e. equal _ _ (unless (splits c) _ (test_fails _ _ (n 2)) e);
          src_range = (every_range c.src.view c.src.texture Source c.size).holds (n 3);
          dst_range = (every_range c.dst.view c.dst.texture Destination c.size).holds (n 4);
          plane_x = λ e. (plane_of c.src c.size (under (splits c) _ (n 5) e)).0;
          plane_y = λ e. (plane_of c.src c.size (under (splits c) _ (n 5) e)).1;
          apart = λ e. alone_fails _ _ (under (is_one_texture c) _ (n 6) e);
          src_chosen = alone_fails _ _ (n 7);
          dst_chosen = alone_fails _ _ (n 8);
          src_aspects = λ e. equal _ _ (not_both (not (splits c)) _ (test_fails _ _ (n 9)) (not_yes _ e));
          dst_aspects = equal _ _ (test_fails _ _ (n 10));
          samples = equal _ _ (test_fails _ _ (n 11));
          src_usage = not-false _ (test_fails _ _ (n 12));
          dst_usage = not-false _ (test_fails _ _ (n 13));
        },
        k.1,
      )

  has_plan : Accepted c → planned c ≡ Ok (plan_for c)
  unfolding texture_to_texture texture_copy_checks texture_checks selector_checks same_texture_checks formats_differ
  has_plan a =
      all_pass TexturePlan (plan_for c) (texture_copy_checks c) (
        alone_off _ _ (not_no _ a.src_bounds),
        (
          alone_off _ _ (not_no _ a.dst_bounds),
          (
            test_off _ _ (unless_off (splits c) _ (λ e. equal_by _ _ (a.formats e))),
            (
              (every_range c.src.view c.src.texture Source c.size).passes a.src_range,
              (
                (every_range c.dst.view c.dst.texture Destination c.size).passes a.dst_range,
                (
                  under_off (splits c) _ (λ e. plane_goes c.src c.size (a.plane_x e) (a.plane_y e)),
                  (
                    under_off (is_one_texture c) _ (λ e. alone_off _ _ (a.apart e)),
                    (
                      alone_off _ _ a.src_chosen,
                      (
                        alone_off _ _ a.dst_chosen,
                        (
                          test_off _ _ (where_whole (splits c) _ (λ e. equal_by _ _ (a.src_aspects e))),
                          (
                            test_off _ _ (equal_by _ _ a.dst_aspects),
                            (
                              test_off _ _ (equal_by _ _ a.samples),
                              (
                                test_off _ _ (not_no _ a.src_usage),
                                (test_off _ _ (not_no _ a.dst_usage), tt),
                              ),
                            ),
                          ),
                        ),
                      ),
                    ),
                  ),
                ),
              ),
            ),
          ),
        ),
      )

pub every_copy_law : EveryCopyLaw
every_copy_law c = record { has_plan = has_plan c; is_accepted = accepted c }
