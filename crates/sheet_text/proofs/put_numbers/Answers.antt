-- What the check does not find alone for `put_numbers`.
use Rattle.sheet_text.proofs.Puts.{underway_on, underway_end}
use Rattle.sheet_text.proofs.put_numbers.Goals as goal

pub loop-n-preserved : goal.loop-n-preserved
loop-n-preserved c =
    underway_on _ _ _ _ _ _ _ _ _ c.loop-n.invariant c.loop-n-test.true c.put_number-next.ensures

pub returns : goal.returns
returns c = underway_end _ _ _ _ _ _ _ c.loop-n.invariant c.loop-n-test.false
