-- What the check does not find alone for `read_decimal`.
use mathlib.Core.Path.{◌∙◌}
use Rattle.sheet_fields.proofs.Scans.{scanned_on}
use Rattle.sheet_fields.proofs.read_decimal.Goals as goal

pub loop-b-preserved : goal.loop-b-preserved
loop-b-preserved c =
    let r = scanned_on _ _ _ c.loop-b.b-index c.loop-b-test.true _ c.push.ensures _ c.in_ok-v.was in
    (r.0 ∙ c.loop-b.invariant.0, r.1)
