-- What the check does not find alone for `step`.
use mathlib.Core.Path.{refl, sym, ◌∙◌}
use native.Mathlib.Omega.{arith}
use native.Mathlib.Nat.{pos_of_ne-zero}
use borrow.Author.Rules.{rules}
use Rattle.sheet_listing.proofs.Left.{steps_region, steps_copy, left_none}
use Rattle.sheet_listing.proofs.CopiesLeft.step.Goals as goal

pub returns-in-Some : goal.returns-in-Some
returns-in-Some c =
    let put = c.put_region-put.ensures in
    steps_region _ _ _ _ _ _ _ (sym c.in-Some.is ∙ c.unlisted.ensures) put.put put.plan_value (search rules)

pub returns-then-self-eq0 : goal.returns-then-self-eq0
returns-then-self-eq0 c = (λ _. left_none _ _ _ _ _ (sym c.in_default.is ∙ c.unlisted.ensures) (omega (arith, c.if-self-eq0.true)), refl)

pub returns : goal.returns
returns c =
    steps_copy _ _ _ _ _ _ _ _ _ _ (sym c.in_default.is ∙ c.unlisted.ensures) (pos_of_ne-zero c.if-self-eq0.false) c.read_row-line.ensures c.plan_line-answer.ensures c.saturating_sub-number.ensures refl c.put_answer.ensures c.plan_of.ensures (search rules)
