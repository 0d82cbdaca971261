-- What the check does not find alone for `measure`.
use Rattle.conditions.specs.Conditions.{◌$◌}
use Rattle.rule_linear_data.proofs.Rules.{whole_goes, whole_hands}
use Rattle.rule_linear_data.proofs.Sums.{fitting_of}
use Rattle.rule_linear_data.specs.Stages.{measured}
use Rattle.rule_linear_data.proofs.LinearCopy.measure.Goals as goal

pub returns-in_err-image_stride : goal.returns-in_err-image_stride
unfolding measured
returns-in_err-image_stride c =
    whole_hands _ _ (fitting_of _ _ c.checked_mul.ensures) c.ok_or.ensures.value c.in_err-image_stride.was c.from_residual.ensures.1

pub returns-in_err-image_bytes : goal.returns-in_err-image_bytes
unfolding measured
returns-in_err-image_bytes c =
    whole_goes _ _ (fitting_of _ _ c.checked_mul.ensures) c.ok_or.ensures.value c.in_ok-image_stride.was $
    whole_hands _ _ c.stacked.ensures c.ok_or-2.ensures.value c.in_err-image_bytes.was c.from_residual-in_err-image_bytes.ensures.1

pub returns-in_err-total : goal.returns-in_err-total
unfolding measured
returns-in_err-total c =
    whole_goes _ _ (fitting_of _ _ c.checked_mul.ensures) c.ok_or.ensures.value c.in_ok-image_stride.was $
    whole_goes _ _ c.stacked.ensures c.ok_or-2.ensures.value c.in_ok-image_bytes.was $
    whole_hands _ _ c.stacked-2.ensures c.ok_or-3.ensures.value c.in_err-total.was c.from_residual-in_err-total.ensures.1

pub returns : goal.returns
unfolding measured
returns c =
    whole_goes _ _ (fitting_of _ _ c.checked_mul.ensures) c.ok_or.ensures.value c.in_ok-image_stride.was $
    whole_goes _ _ c.stacked.ensures c.ok_or-2.ensures.value c.in_ok-image_bytes.was $
    whole_goes _ _ c.stacked-2.ensures c.ok_or-3.ensures.value c.in_ok-total.was c.check_span.ensures
