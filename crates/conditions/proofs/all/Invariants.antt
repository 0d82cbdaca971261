-- What lasts from turn to turn in `all`.
use mathlib.Core.Path.{◌≡◌}
use mathlib.Core.Bool.{◌&&◌}
use lib.ListN.{drop}
use Rattle.conditions.specs.Conditions.{every}
use Rattle.conditions.proofs.all.Given as goal

abbrev pub invariant-loop-test : goal.invariant-loop-test
invariant-loop-test g l = (l.all && every (drop l.test-index l.test-items)) ≡ every l.test-items
