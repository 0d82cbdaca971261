use Rattle.std.proofs.Common.{rules}
use Rattle.plan_rows.proofs.Row.followed_by.Goals as goal
use Rattle.plan_rows.proofs.Padding.{as_long, numbers_before, zeros_behind}

-- src/lib.rt:49:5
pub invariant_of-result : goal.invariant_of-result
invariant_of-result g c = search (rules, as_long, zeros_behind)

-- src/lib.rt:49:5
pub returns : goal.returns
returns g c = search (rules, numbers_before)
