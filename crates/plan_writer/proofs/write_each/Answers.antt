-- What the check does not find alone for `write_each`.
use Prim.Native.Nat.{◌<◌, ◌≤◌}
use native.Mathlib.Omega.{arith}
use Rattle.plan_kinds.specs.Regions.{left_of}
use Rattle.plan_writer.proofs.Writes.{fewer, answer_room, again, ended}
use Rattle.plan_writer.proofs.write_each.Goals as goal

pub store_answer-at-requires : goal.store_answer-at-requires
store_answer-at-requires g c =
    let h : 0 < left_of (g.P.Regions.held c.loop-asked.p) = omega arith in
    answer_room c.loop-asked.invariant h _ c.next_row-asked.ensures.answer

pub loop-asked-smaller : goal.loop-asked-smaller
loop-asked-smaller g c =
    let h : 0 < left_of (g.P.Regions.held c.loop-asked.p) = omega arith in
    fewer c.loop-asked.invariant h c.next_row-asked.ensures.behind

pub loop-asked-preserved : goal.loop-asked-preserved
loop-asked-preserved g c =
    let h : 0 < left_of (g.P.Regions.held c.loop-asked.p) = omega arith in
    let asked = c.next_row-asked.ensures in
    again c.loop-asked.invariant h _ asked.answer _ _ _ asked.behind c.store_answer-at.ensures

pub returns : goal.returns
returns g c =
    let h : left_of (g.P.Regions.held c.loop-asked.p) ≤ 0 = omega arith in
    let all = ended c.loop-asked.invariant h in record { value = all.0; out_after = all.1 }
