use Rattle.sheet_program.proofs.Parts.{listing_start, turn_stops, turn_ends, turn_less, turn_goes_on, delivered_err}
use borrow.Author.Rules.{rules}
use Rattle.sheet_program.proofs.list.Goals as goal

pub loop-st-init : goal.loop-st-init
loop-st-init g c = listing_start _ _ c.start-st.ensures

pub returns-in_err-send : goal.returns-in_err-send
returns-in_err-send g c =
    let f = c.fill-filled in
    delivered_err _ c.from_residual.ensures.0 (turn_stops f.result.listing c.loop-st.invariant (f.ensures.fills, (f.ensures.count_in_bounds, f.ensures.ends)) (search rules) c.in_err-send.ensures)

pub returns-then-n-eq0 : goal.returns-then-n-eq0
returns-then-n-eq0 g c =
    let f = c.fill-filled in
    turn_ends f.result.listing c.loop-st.invariant (f.ensures.fills, (f.ensures.count_in_bounds, f.ensures.ends)) (search rules) c.in_ok-send.ensures c.if-n-eq0.true

pub loop-st-smaller : goal.loop-st-smaller
loop-st-smaller g c =
    let f = c.fill-filled in
    turn_less f.result.listing c.loop-st.invariant (f.ensures.fills, (f.ensures.count_in_bounds, f.ensures.ends)) (search rules) c.in_ok-send.ensures c.if-n-eq0.false

pub loop-st-preserved : goal.loop-st-preserved
loop-st-preserved g c =
    let f = c.fill-filled in
    turn_goes_on f.result.listing c.loop-st.invariant (f.ensures.fills, (f.ensures.count_in_bounds, f.ensures.ends)) (search rules) c.in_ok-send.ensures
