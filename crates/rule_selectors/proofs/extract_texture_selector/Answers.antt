-- What the check does not find alone for `extract_texture_selector`.
use Rattle.std.proofs.Common.{sym, refl, ◌∙◌, ap, eqb}
use Rattle.refusals.specs.Order.{decided}
use Rattle.refusals.proofs.Order.{test_stops, test_passes}
use Rattle.rule_selectors.specs.Selector.{selector_checks, selector_checked}
use Rattle.rule_selectors.proofs.extract_texture_selector.Goals as goal
use Rattle.rule_selectors.specs.declared.TextureCopyBase.{TextureCopyBase}
use Rattle.rule_selectors.specs.declared.TextureSelector.{TextureSelector}

pub returns-then-eq : goal.returns-then-eq
unfolding selector_checked selector_checks decided
returns-then-eq c =
    test_stops (TextureSelector × TextureCopyBase) _ _ _ _ (ap (λ n. eqb n 0) (sym c.chosen_aspects-aspects.ensures) ∙ sym c.eq.ensures ∙ c.if-eq.true) refl

pub returns : goal.returns
unfolding selector_checked selector_checks decided
returns c =
    let a = c.chosen_aspects-aspects.ensures in
    test_passes (TextureSelector × TextureCopyBase) _ _ _ _ (ap (λ n. eqb n 0) (sym a) ∙ sym c.eq.ensures ∙ c.if-eq.false) (rw (sym a) cc)
