-- The refusals that the rules of a copy can find: those of a range tell a box, all others have other numbers.
-- Assumes nothing.
use mathlib.Core.Path.{◌≡◌, refl, sym, ap, ◌∙◌}
use mathlib.Core.Bool.{Bool, true, false, ◌||◌}
use Prim.Native.Nat.{ℕ, ◌<◌}
use native.Mathlib.Omega.{arith}
use lib.Dec.{eqb}
use borrow.Author.Tests.{eq-eqb, ltb-true}
use Rattle.measures.specs.declared.Texels.{Texels}
use Rattle.measures.specs.declared.BlockDimensions.{BlockDimensions}
use Rattle.measures.specs.declared.Extent3d.{Extent3d}
use Rattle.measures.specs.declared.Origin3d.{Origin3d}
use Rattle.measures.specs.Measure.{texels}
use Rattle.refusals.specs.declared.CopySide.{CopySide}
use Rattle.refusals.specs.declared.Refusal.{Refusal}
use Rattle.refusals.specs.declared.TextureErrorDimension.{TextureErrorDimension}
use Rattle.refusals.specs.declared.TextureErrorDimension.TheVariants.{X, Y, Z}
use Rattle.refusals.specs.declared.TransferError.{TransferError}
use Rattle.refusals.specs.Numbers.{side_of, dimension_number, numbers_of}
use Rattle.refusals.specs.Order.{refuse_if}
use Rattle.refusals.proofs.Every.{AllOf, AllIn, all_where, all_if, all_flat}
use Rattle.records.specs.declared.Texture.{Texture}
use Rattle.records.specs.declared.TexelCopyTextureInfo.{TexelCopyTextureInfo}
use Rattle.rule_copy_range.specs.Range.{end_of, is_partial, overruns, partial_transfer, texture_overrun, dimension_checks, subject_of, side_checks, block_checks, range_checks}
use Rattle.rule_copy_range.proofs.Overruns.{overrun_of}
use Rattle.claim_refusals.specs.Ends.{Runs, on_x, on_y, on_z, TrueEnd}

-- ---- what the two tests say of a run

overrun_passes : (start size limit : ℕ) → overruns start size limit ≡ true → limit < end_of start size
overrun_passes start size limit h = ltb-true limit (end_of start size) (overrun_of start size limit ∙ h)

part_of : (exact : Bool) (start size limit : ℕ) → is_partial exact start size limit ≡ true → (start ≡ 0) × (end_of start size ≡ limit) → ⊥
unfolding is_partial end_of
part_of false start size limit h whole = let z : ◌≡◌ {A = ℕ} 0 1 = cc in omega arith
part_of true start size limit h whole =
    let a = eq-eqb start 0 whole.0 in
    let b = eq-eqb size limit (omega (arith, whole.0, whole.1)) in
    let z : ◌≡◌ {A = ℕ} 0 1 = cc in omega arith

part_exact : (exact : Bool) (start size limit : ℕ) → is_partial exact start size limit ≡ true → exact ≡ true
unfolding is_partial
part_exact false start size limit h = h
part_exact true start size limit h = refl

-- ---- refusals with other numbers

abbrev pub is_run : ℕ → Bool
is_run number = eqb number 9 || eqb number 10

module _ (Box : Refusal → Type 0) where
  abbrev pub Told : TransferError → Type 0
  Told e = TrueEnd Box (numbers_of e)

  another : (n : Refusal) → is_run n.number ≡ false → TrueEnd Box n
  another n h = record { overrun = λ p. absurd (no 9 refl p); partial = λ p. absurd (no 10 refl p) }
    where
      no : (k : ℕ) → is_run k ≡ true → n.number ≡ k → ⊥
      no k i p = let q = sym (ap is_run p) in let z : ◌≡◌ {A = ℕ} 0 1 = cc in omega arith

  pub tested : (t : Bool) (e : TransferError) → is_run ((numbers_of e).number) ≡ false → AllOf Told (refuse_if t e)
  tested t e h = all_if Told t e (another (numbers_of e) h)

  -- ---- refusals of a range

  module _ (t : Texture) (side : CopySide) (o : Origin3d) (size : Extent3d) (box : (n : Refusal) → n.side ≡ side_of side → Runs o size n.dimension n.start n.end → Box n) where
    pub dimension_told :
        (d : TextureErrorDimension) (start count limit : Texels) (exact : Bool) → Runs o size (dimension_number d) start.0 (end_of start.0 count.0) → (exact ≡ true → dimension_number d ≡ 3 → ⊥)
        → AllIn Told (dimension_checks (subject_of t side) d start count limit exact)
    unfolding dimension_checks subject_of partial_transfer texture_overrun numbers_of
    dimension_told d start count limit exact runs flat = (
      all_where Told _ _ (
          λ h.
          record {
            overrun = λ p. absurd (omega (arith, p));
            partial = λ _. (box _ refl runs, part_of exact start.0 count.0 limit.0 h, flat (part_exact exact start.0 count.0 limit.0 h));
          }
          ),
      (
        all_where Told _ _ (
            λ h.
            record {
              overrun = λ _. (box _ refl runs, overrun_passes start.0 count.0 limit.0 h);
              partial = λ p. absurd (omega (arith, p));
            }
            ),
        tt,
      ),
    )

    pub x_told : (limit : Texels) (exact : Bool) → AllIn Told (dimension_checks (subject_of t side) X o.x size.width limit exact)
    unfolding end_of dimension_number
    x_told limit exact = dimension_told X o.x size.width limit exact on_x (λ _ p. omega (arith, p))

    pub y_told : (limit : Texels) (exact : Bool) → AllIn Told (dimension_checks (subject_of t side) Y o.y size.height limit exact)
    unfolding end_of dimension_number
    y_told limit exact = dimension_told Y o.y size.height limit exact on_y (λ _ p. omega (arith, p))

    z_told : (limit : Texels) → AllIn Told (dimension_checks (subject_of t side) Z (texels o.z) (texels size.depth_or_array_layers) limit false)
    unfolding end_of dimension_number
    z_told limit = dimension_told Z (texels o.z) (texels size.depth_or_array_layers) limit false on_z (λ h p. let z : ◌≡◌ {A = ℕ} 0 1 = cc in omega arith)

  blocks_told : (o : Origin3d) (size : Extent3d) (block : BlockDimensions) → AllIn Told (block_checks o size block)
  unfolding block_checks numbers_of
  blocks_told o size block = (tested _ _ refl, (tested _ _ refl, (tested _ _ refl, (tested _ _ refl, tt))))

  pub range_told :
      (view : TexelCopyTextureInfo) (t : Texture) (side : CopySide) (size : Extent3d)
      → ((n : Refusal) → n.side ≡ side_of side → Runs view.origin size n.dimension n.start n.end → Box n)
      → AllIn Told (range_checks view t side size)
  unfolding range_checks side_checks numbers_of
  range_told view t side size box = (
    tested _ _ refl,
    (
      all_flat Told _ (
        all_flat Told _ (x_told t side view.origin size box _ _),
        (
          all_flat Told _ (y_told t side view.origin size box _ _),
          (
            all_flat Told _ (z_told t side view.origin size box _),
            tt,
          ),
        ),
      ),
      (all_flat Told _ (blocks_told view.origin size _), tt),
    ),
  )
