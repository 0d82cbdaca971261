-- What the check does not find alone for `plan_copy`.
use mathlib.Core.Path.{◌∙◌}
use Rattle.refusals.specs.Order.{decided}
use Rattle.c_records.specs.CRecords.{side_from}
use Rattle.c_records.proofs.Passing.{check_passes, check_hands}
use Rattle.c_memory_uploads.specs.Answer.{answer}
use Rattle.c_memory_uploads.proofs.plan_copy.Goals as goal

pub returns-in_err-t : goal.returns-in_err-t
unfolding answer decided
returns-in_err-t c = check_hands _ _ _ c.side_from.ensures c.in_err-t.was c.from_residual.ensures.1

pub returns : goal.returns
unfolding answer decided side_from
returns c =
    check_passes _ _ _ c.side_from.ensures c.in_ok-t.was
    (λ e. c.copy_memory_to_texture.ensures ∙ rw (c.device_with-device.ensures, c.layout_from-layout.ensures, c.size_from-s.ensures, e))
