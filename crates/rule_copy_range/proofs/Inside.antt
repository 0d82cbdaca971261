-- The test of a range holds exactly where the range rule goes on.
-- Assumes nothing.
use Rattle.std.specs.Prelude.{is_ok, Ok}
use Rattle.std.proofs.Common.{◌≡◌, ℕ, ◌+◌, ◌%◌, ◌≤◌, Bool, true, false, ◌&&◌, eqb, ltb, List, [], ◌∷◌, sym, refl, ap, ◌∙◌, arith, ltb-true, lt-ltb, eq-eqb, eqb-true, le-leb, leb-true}
use mathlib.Core.List.{flatten}
use Rattle.conditions.proofs.Rules.{both_true}
use Rattle.measures.specs.declared.Texels.{Texels}
use Rattle.measures.specs.declared.Extent3d.{Extent3d}
use Rattle.measures.specs.Measure.{multiple, texels}
use Rattle.formats.specs.Table.{block_width_of, block_height_of}
use Rattle.refusals.specs.declared.CopySide.{CopySide}
use Rattle.refusals.specs.declared.TransferError.{TransferError}
use Rattle.refusals.specs.Order.{first}
use Rattle.refusals.proofs.Order.{first_of_all}
use Rattle.records.specs.declared.Texture.{Texture}
use Rattle.records.specs.declared.TexelCopyTextureInfo.{TexelCopyTextureInfo}
use Rattle.records.specs.Extents.{physical_extent}
use Rattle.rule_copy_range.specs.Range.{requires_exact, copy_extent, layer_count_of, range_checks, range_checked}
use Rattle.rule_copy_range.specs.Laws.{RangeLaws}
use Rattle.rule_copy_range.specs.Inside.{run_fits, sides_fit, blocks_fit, extent_fits, alignment_fits, in_range}
use Rattle.rule_copy_range.proofs.Accepted.{every_range}
use Rattle.rule_copy_range.specs.declared.CopyExtent.{CopyExtent}

both_hold : (s t : Bool) → s ≡ true → t ≡ true → (s && t) ≡ true
both_hold s t h k = rw (h, k)

-- ---- one run

run_inside : (exact : Bool) (start size limit : Texels) → run_fits exact start size limit ≡ true → start.0 + size.0 ≤ limit.0
unfolding run_fits
run_inside true start size limit h =
    let b = both_true (eqb start.0 0) (eqb size.0 limit.0) h in
    let s = eqb-true start.0 0 b.0 in
    let l = eqb-true size.0 limit.0 b.1 in
    omega arith
run_inside false start size limit h = leb-true (start.0 + size.0) limit.0 h

run_whole : (exact : Bool) (start size limit : Texels) → run_fits exact start size limit ≡ true → exact ≡ true → size.0 ≡ limit.0
unfolding run_fits
run_whole true start size limit h e = eqb-true size.0 limit.0 (both_true (eqb start.0 0) (eqb size.0 limit.0) h).1
run_whole false start size limit h e = let z : ◌≡◌ {A = ℕ} 0 1 = cc in absurd (omega arith)

run_fits_lem : (exact : Bool) (start size limit : Texels) → start.0 + size.0 ≤ limit.0 → (exact ≡ true → size.0 ≡ limit.0) → run_fits exact start size limit ≡ true
unfolding run_fits
run_fits_lem true start size limit i w =
    let l = w refl in
    both_hold (eqb start.0 0) (eqb size.0 limit.0) (eq-eqb start.0 0 (omega arith)) (eq-eqb size.0 limit.0 l)
run_fits_lem false start size limit i w = le-leb (start.0 + size.0) limit.0 i

-- ---- blocks

rest_of : (n m : ℕ) → multiple n m ≡ true → n % m ≡ 0
unfolding multiple
rest_of n m h = eqb-true (n % m) 0 h

no_rest : (n m : ℕ) → n % m ≡ 0 → multiple n m ≡ true
unfolding multiple
no_rest n m h = eq-eqb (n % m) 0 h

-- ---- the rule

none_some : (e : TransferError) (es : List TransferError) → ◌≡◌ {A = List TransferError} [] (e ∷ es) → ⊥
none_some e es h = let z : ◌≡◌ {A = ℕ} 0 1 = cc in omega arith

module _ (view : TexelCopyTextureInfo) (t : Texture) (size : Extent3d) where
  abbrev extent : Extent3d
  extent = physical_extent t view.mip_level

  abbrev x_fits : Bool
  x_fits = run_fits (requires_exact t) view.origin.x size.width extent.width

  abbrev y_fits : Bool
  y_fits = run_fits (requires_exact t) view.origin.y size.height extent.height

  abbrev z_fits : Bool
  z_fits = run_fits false (texels view.origin.z) (texels size.depth_or_array_layers) (texels extent.depth_or_array_layers)

  abbrev bw : ℕ
  bw = block_width_of t.format

  abbrev bh : ℕ
  bh = block_height_of t.format

  laws_of : in_range view t size ≡ true → RangeLaws view t size
  unfolding in_range extent_fits alignment_fits sides_fit blocks_fit
  laws_of h =
      let l = both_true (ltb view.mip_level t.mip_level_count) (extent_fits view t size && alignment_fits view t size) h in
      let s = both_true (extent_fits view t size) (alignment_fits view t size) l.1 in
      let x = both_true x_fits (y_fits && z_fits) s.0 in
      let y = both_true y_fits z_fits x.1 in
      let a = both_true (multiple view.origin.x.0 bw) _ s.1 in
      let b = both_true (multiple view.origin.y.0 bh) _ a.1 in
      let w = both_true (multiple size.width.0 bw) (multiple size.height.0 bh) b.1 in
      record {
        level = ltb-true _ _ l.0;
        x_inside = run_inside (requires_exact t) _ _ _ x.0;
        y_inside = run_inside (requires_exact t) _ _ _ y.0;
        z_inside = run_inside false _ _ _ y.1;
        x_whole = rest_of _ _ a.0;
        y_whole = rest_of _ _ b.0;
        width_whole = rest_of _ _ w.0;
        height_whole = rest_of _ _ w.1;
        exact_width = run_whole (requires_exact t) _ _ _ x.0;
        exact_height = run_whole (requires_exact t) _ _ _ y.0;
      }

  of_laws : RangeLaws view t size → in_range view t size ≡ true
  unfolding in_range extent_fits alignment_fits sides_fit blocks_fit
  of_laws r =
      let l = lt-ltb _ _ r.level in
      let x = run_fits_lem (requires_exact t) _ _ _ r.x_inside r.exact_width in
      let y = run_fits_lem (requires_exact t) _ _ _ r.y_inside r.exact_height in
      let z = run_fits_lem false _ _ _ r.z_inside (λ e. let z : ◌≡◌ {A = ℕ} 0 1 = cc in absurd (omega arith)) in
      rw (l, x, y, z, no_rest _ _ r.x_whole, no_rest _ _ r.y_whole, no_rest _ _ r.width_whole, no_rest _ _ r.height_whole)

  module _ (side : CopySide) where
    goes_where : (b : Bool) → in_range view t size ≡ b → (found : List TransferError) → flatten (range_checks view t side size) ≡ found → b ≡ is_ok (first {R = CopyExtent × ℕ} found (Ok (copy_extent t size, layer_count_of t size)))
    unfolding first
    goes_where true h [] e = refl
    goes_where true h (why ∷ more) e = absurd (none_some why more (sym ((every_range view t side size).passes (laws_of h)) ∙ e))
    goes_where false h [] e = sym h ∙ of_laws ((every_range view t side size).holds e)
    goes_where false h (why ∷ more) e = refl

  -- an answer that is the test's, of whichever side
  pub as_goes_on : (x : Bool) → x ≡ in_range view t size → (side : CopySide) → x ≡ is_ok (range_checked view t side size)
  unfolding range_checked
  as_goes_on x e side = e ∙ goes_where side (in_range view t size) refl (flatten (range_checks view t side size)) refl ∙ sym (ap is_ok (first_of_all (CopyExtent × ℕ) (range_checks view t side size) (Ok (copy_extent t size, layer_count_of t size))))
