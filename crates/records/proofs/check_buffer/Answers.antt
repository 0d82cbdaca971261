-- What the check does not find alone for `check_buffer`.
use Rattle.refusals.specs.Order.{decided, mapped}
use Rattle.refusals.proofs.Order.{ordered}
use Rattle.records.specs.Bounds.{buffer_checks}
use Rattle.records.proofs.check_buffer.Goals as goal

pub returns-then-not-buffer_in_bounds : goal.returns-then-not-buffer_in_bounds
unfolding buffer_checks decided mapped
returns-then-not-buffer_in_bounds c = search ordered depth 8

pub returns : goal.returns
unfolding buffer_checks decided mapped
returns c = search ordered depth 8
