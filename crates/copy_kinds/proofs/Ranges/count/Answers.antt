-- What the check does not find alone for `count`.
use native.Mathlib.Omega.{arith}
use borrow.Author.Rules.{rules}
use mathlib.Core.Path.{◌∙◌}
use Rattle.copy_kinds.proofs.Rules.{counted, count_few}
use Rattle.copy_kinds.proofs.Ranges.count.Goals as goal

pub overflow_cast-result : goal.overflow_cast-result
overflow_cast-result c = record { fits = omega (arith, c.given.ensures, counted c.args.self (search rules), count_few c.args.self) }

pub returns : goal.returns
returns c = c.given.ensures ∙ counted c.args.self (search rules)
