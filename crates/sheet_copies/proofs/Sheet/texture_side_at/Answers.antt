-- What the check does not find alone for `texture_side_at`.
use mathlib.Core.Path.{refl}
use Rattle.refusals.specs.Order.{decided}
use Rattle.sheet_copies.specs.CopyLines.{texture_at, texture_side_at}
use Rattle.sheet_copies.proofs.Named.{index_hands, index_passes}
use Rattle.sheet_copies.proofs.Sheet.texture_side_at.Goals as goal

pub returns-in_err-place : goal.returns-in_err-place
unfolding decided
returns-in_err-place c = rw (← c.word_of-index.ensures) (index_hands _ _ _ c.find_place.ensures c.in_err-place.was c.from_residual.ensures.1)

pub returns : goal.returns
unfolding decided texture_side_at texture_at
returns c = rw (← c.word_of-index.ensures) (index_passes _ _ _ c.find_place.ensures c.in_ok-place.was λ k. rw (c.texture_of.ensures, c.view_of.ensures, c.read_row-row.ensures, k) refl)
