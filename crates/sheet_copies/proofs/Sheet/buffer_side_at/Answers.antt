-- What the check does not find alone for `buffer_side_at`.
use mathlib.Core.Path.{refl}
use Rattle.refusals.specs.Order.{decided}
use Rattle.sheet_copies.specs.CopyLines.{buffer_side_at}
use Rattle.sheet_copies.proofs.Named.{index_hands, named_passes}
use Rattle.sheet_copies.proofs.Sheet.buffer_side_at.Goals as goal

pub returns-in_err-index : goal.returns-in_err-index
unfolding decided
returns-in_err-index c = index_hands _ _ _ c.buffer_at.ensures c.in_err-index.was c.from_residual.ensures.1

pub returns : goal.returns
unfolding decided buffer_side_at
returns c =
    named_passes _ _ _ _ c.buffer_at.ensures c.in_ok-index.was λ i buffer.
    rw (c.value_of.ensures, i, buffer) refl
