-- What the check does not find alone for `levels_in_bounds`.
use Rattle.records.proofs.Bounded.{mip_side_within}
use Rattle.records.proofs.levels_in_bounds.Goals as goal

pub may_have_levels-requires-clause-some : goal.may_have_levels-requires-clause-some
may_have_levels-requires-clause-some c = let a = c.args in rw c.mip_side.ensures (mip_side_within a.dimension a.e c.requires).0

pub may_have_levels-requires-clause-within : goal.may_have_levels-requires-clause-within
may_have_levels-requires-clause-within c = let a = c.args in rw c.mip_side.ensures (mip_side_within a.dimension a.e c.requires).1
