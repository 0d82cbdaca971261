-- What the check does not find alone for `side_at`.
use mathlib.Core.Path.{sym}
use native.Mathlib.Omega.{arith}
use borrow.Author.Rules.{rules}
use Rattle.mip_levels.specs.Level.{side_at}
use Rattle.mip_levels.proofs.Halving.{halved_is, past}
use Rattle.mip_levels.proofs.side_at.Goals as goal

pub returns-then-level-ge32 : goal.returns-then-level-ge32
returns-then-level-ge32 c = sym (past c.args.n c.args.level (search rules) c.if-level-ge32.true)

pub returns : goal.returns
unfolding side_at
returns c = let a = c.args in omega (arith, halved_is a.n a.level, c.max.ensures)
