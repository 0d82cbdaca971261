-- What the check does not find alone for `replay`.
use Rattle.std.proofs.Common.{true, false, sym, ◌∙◌, arith}
use Rattle.sheet_replay.proofs.Items.{head_inside}
use Rattle.sheet_replay.proofs.Lists.{replaying_ends, replaying_breaks, replaying_on, rest_less}
use Rattle.sheet_replay.proofs.replay.Goals as goal
use Rattle.sheet_replay.proofs.replay.Goals.{then-check_item, else-check_item}

pub returns-in_default-clause-replays : goal.returns-in_default-clause-replays
returns-in_default-clause-replays g c =
    (replaying_breaks c.loop-rest.invariant (sym c.loop-rest-test.true ∙ c.is_end.ensures) (sym c.in_default.is ∙ c.read_head.ensures)).0

pub slice_bounds-sheet-count : goal.slice_bounds-sheet-count
slice_bounds-sheet-count g c = (head_inside _ _ (sym c.read_head.ensures ∙ c.in-Some.is)).sheet

pub slice_bounds-sheet-start : goal.slice_bounds-sheet-start
slice_bounds-sheet-start g c = (head_inside _ _ (sym c.read_head.ensures ∙ c.in-Some.is)).sheet

pub slice_bounds-sheet-end : goal.slice_bounds-sheet-end
slice_bounds-sheet-end g c = let i = head_inside _ _ (sym c.read_head.ensures ∙ c.in-Some.is) in omega (arith, i.text, i.end)

pub slice_bounds-recorded-count : goal.slice_bounds-recorded-count
slice_bounds-recorded-count g c = (head_inside _ _ (sym c.read_head.ensures ∙ c.in-Some.is)).text

pub slice_bounds-recorded-start : goal.slice_bounds-recorded-start
slice_bounds-recorded-start g c = (head_inside _ _ (sym c.read_head.ensures ∙ c.in-Some.is)).text

pub slice_bounds-recorded-end : goal.slice_bounds-recorded-end
slice_bounds-recorded-end g c = (head_inside _ _ (sym c.read_head.ensures ∙ c.in-Some.is)).end

pub slice_bounds-rest-count : goal.slice_bounds-rest-count
slice_bounds-rest-count g c = (head_inside _ _ (sym c.read_head.ensures ∙ c.in-Some.is)).end

pub slice_bounds-rest-start : goal.slice_bounds-rest-start
slice_bounds-rest-start g c = (head_inside _ _ (sym c.read_head.ensures ∙ c.in-Some.is)).end

pub loop-rest-smaller : goal.loop-rest-smaller
loop-rest-smaller g c = rest_less _ _ (sym c.in-Some.is ∙ c.read_head.ensures)

pub loop-rest-preserved : goal.loop-rest-preserved
loop-rest-preserved g c =
    let on = replaying_on c.loop-rest.invariant (sym c.loop-rest-test.true ∙ c.is_end.ensures) _ (sym c.in-Some.is ∙ c.read_head.ensures) in
    elim c.if-check_item.branch [
      | then-check_item w ↦ rw w.counts-is (on true (sym w.if-check_item.true ∙ c.check_item.ensures))
      | else-check_item w ↦ rw w.counts-is (on false (sym w.if-check_item.false ∙ c.check_item.ensures))
    ]

pub returns-clause-replays : goal.returns-clause-replays
returns-clause-replays g c = (replaying_ends c.loop-rest.invariant (sym c.loop-rest-test.false ∙ c.is_end.ensures)).0
