-- What the check does not find alone for `stacked`.
use mathlib.Core.Path.{ap, ◌∙◌}
use Prim.Native.Nat.{ℕ, ◌+◌, ◌-◌, ◌*◌, ◌^◌, ◌≤◌}
use native.Mathlib.Omega.{arith}
use borrow.Author.Tests.{eq-eqb, ne_eqb}
use Rattle.rule_linear_data.specs.Linear.{stacked}
use Rattle.rule_linear_data.specs.Stages.{fitting}
use Rattle.rule_linear_data.proofs.Sums.{fits, over, fitting_of}
use Rattle.rule_linear_data.proofs.stacked.Goals as goal

pub returns-then-items-eq0 : goal.returns-then-items-eq0
unfolding stacked
returns-then-items-eq0 c = rw (eq-eqb _ _ c.if-items-eq0.true) (fits (omega arith))

-- the strides alone do not fit
pub returns-in_err-strides : goal.returns-in_err-strides
unfolding stacked
returns-in_err-strides c =
    let a = c.args in
    let strides : 2 ^ 64 ≤ (a.items - 1) * a.stride = omega (arith, c.in_err-strides.ensures) in
    rw (ne_eqb _ _ c.if-items-eq0.false) (c.from_residual.ensures ∙ over _ (omega arith))

pub returns : goal.returns
unfolding stacked
returns c =
    let a = c.args in
    let strides = c.in_ok-strides.ensures.1 in
    rw (ne_eqb _ _ c.if-items-eq0.false) (fitting_of _ _ c.checked_add.ensures ∙ ap (λ (n : ℕ). fitting (n + a.last)) strides)
