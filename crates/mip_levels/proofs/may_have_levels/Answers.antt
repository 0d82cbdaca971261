-- What the check does not find alone for `may_have_levels`.
use mathlib.Core.Path.{◌∙◌}
use borrow.Author.Rules.{rules}
use Rattle.mip_levels.proofs.Thresholds.{read_off, not_listed}
use Rattle.mip_levels.proofs.may_have_levels.Goals as goal

pub returns-then-contains : goal.returns-then-contains
returns-then-contains c = let a = c.args in read_off a.n a.levels c.requires.some (search rules) (search rules)

pub returns-else-contains : goal.returns-else-contains
returns-else-contains c = let a = c.args in c.if-contains.false ∙ not_listed a.n a.levels c.requires.within (λ some. search rules)
