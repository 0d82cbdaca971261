-- The checks of records find nothing exactly where the records are within their bounds; and how both textures' go on after one's.
-- Assumes nothing.
use Rattle.std.specs.Prelude.{Result, Err}
use mathlib.Core.Path.{◌≡◌, sym, ◌∙◌}
use mathlib.Core.Bool.{Bool, true, false, not}
use mathlib.Core.List.{[], flatten}
use borrow.Author.Tests.{not-true, not-false}
use Rattle.conditions.proofs.Rules.{not_no, and_lines}
use Rattle.refusals.specs.declared.CopySide.{CopySide}
use Rattle.refusals.specs.declared.TransferError.TheVariants.{InvalidTextureRecord}
use Rattle.refusals.specs.Order.{refuse_if, first}
use Rattle.refusals.proofs.Order.{none_in, flat_empty, test_fails, test_off}
use Rattle.records.specs.declared.Buffer.{Buffer}
use Rattle.records.specs.declared.Texture.{Texture}
use Rattle.records.specs.Bounds.{buffer_in_bounds, texture_in_bounds, buffer_checks, texture_checks}
use Rattle.refusals.specs.declared.TransferError.{TransferError}

pub buffer_of_lem : (b : Buffer) (side : CopySide) → flatten (buffer_checks b side) ≡ [] → buffer_in_bounds b ≡ true
unfolding buffer_checks
buffer_of_lem b side h = not-false _ (test_fails _ _ (none_in (buffer_checks b side) h 0))

pub buffer_passes : (b : Buffer) (side : CopySide) → buffer_in_bounds b ≡ true → flatten (buffer_checks b side) ≡ []
unfolding buffer_checks
buffer_passes b side h = flat_empty (buffer_checks b side) (test_off _ _ (not_no _ h), tt)

pub texture_of_lem : (t : Texture) (side : CopySide) → flatten (texture_checks t side) ≡ [] → texture_in_bounds t ≡ true
unfolding texture_checks
texture_of_lem t side h = not-false _ (test_fails _ _ (none_in (texture_checks t side) h 0))

pub texture_passes : (t : Texture) (side : CopySide) → texture_in_bounds t ≡ true → flatten (texture_checks t side) ≡ []
unfolding texture_checks
texture_passes t side h = flat_empty (texture_checks t side) (test_off _ _ (not_no _ h), tt)

-- ---- one record, then the rest

pub falls : (r t : Bool) → r ≡ t → not r ≡ true → false ≡ t
falls r t p q = sym (not-true r q) ∙ p

pub holds : (r t : Bool) → r ≡ t → not r ≡ false → true ≡ t
holds r t p q = sym (not-false r q) ∙ p

module _ (R : Type 0) (t : Texture) (side : CopySide) (rest x : Result R TransferError) where
  pub record_stops : false ≡ texture_in_bounds t → x ≡ Err (InvalidTextureRecord side) → x ≡ first (flatten (texture_checks t side)) rest
  unfolding texture_checks first refuse_if flatten
  record_stops h k = rw (sym h) k

  pub record_passes : true ≡ texture_in_bounds t → x ≡ rest → x ≡ first (flatten (texture_checks t side)) rest
  unfolding texture_checks first refuse_if flatten
  record_passes h k = rw (sym h) k

pub ruleset recorded = (and_lines, falls, holds, record_stops, record_passes)
