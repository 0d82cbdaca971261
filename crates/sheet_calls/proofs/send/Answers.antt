use Rattle.sheet_calls.proofs.CallLaws.{sending_on, sending_ends, sending_less}
use Rattle.sheet_calls.proofs.send.Goals as goal

pub loop-from-smaller : goal.loop-from-smaller
loop-from-smaller g c = sending_less _ _ _ c.goes_on.ensures c.loop-from-test.true c.write_once-p.ensures

pub loop-from-preserved : goal.loop-from-preserved
loop-from-preserved g c = sending_on _ _ c.loop-from.invariant _ _ c.goes_on.ensures c.loop-from-test.true c.write_once-p.ensures

pub returns : goal.returns
returns g c = sending_ends _ _ c.loop-from.invariant _ _ c.goes_on.ensures c.loop-from-test.false c.ended.ensures
