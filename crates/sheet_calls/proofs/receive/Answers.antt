use Rattle.std.proofs.Common.{rules, ◌-◌, length}
use Rattle.sheet_calls.proofs.CallLaws.{receiving_on, receiving_less, received}
use Rattle.sheet_calls.proofs.receive.Goals as goal

pub loop-from-smaller : goal.loop-from-smaller
loop-from-smaller g c = receiving_less _ _ _ c.goes_on.ensures c.loop-from-test.true c.read_once-p.ensures

pub loop-from-preserved : goal.loop-from-preserved
loop-from-preserved g c =
    let from = c.place-from.result in
    receiving_on from (length c.loop-from.room - from) c.read_once-p.new.room _ c.loop-from.invariant c.goes_on.ensures c.loop-from-test.true c.read_once-p.ensures (search rules)

pub returns-clause-receives : goal.returns-clause-receives
returns-clause-receives g c = received _ c.loop-from.invariant c.goes_on.ensures c.loop-from-test.false _ c.place.ensures c.ended.ensures
