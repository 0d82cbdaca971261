-- What the check does not find alone for `check_texture`.
use Rattle.refusals.specs.Order.{decided, mapped}
use Rattle.refusals.proofs.Order.{ordered}
use Rattle.records.specs.Bounds.{texture_checks}
use Rattle.records.proofs.check_texture.Goals as goal

pub returns-then-not-texture_in_bounds : goal.returns-then-not-texture_in_bounds
unfolding texture_checks decided mapped
returns-then-not-texture_in_bounds c = search ordered depth 8

pub returns : goal.returns
unfolding texture_checks decided mapped
returns c = search ordered depth 8
