-- What the check does not find alone for `is_multiple_of`.
use native.Mathlib.Nat.{mod-one}
use borrow.Author.Rules.{rules}
use Rattle.measures.specs.Measure.{multiple}
use Rattle.measures.proofs.Texels.is_multiple_of.Goals as goal

pub returns-then-size-eq1 : goal.returns-then-size-eq1
unfolding multiple
returns-then-size-eq1 c = rw (← c.count-size.ensures.value, c.if-size-eq1.true, mod-one)

pub returns : goal.returns
unfolding multiple
returns c = rw (← c.count-size.ensures.value) (search rules)
