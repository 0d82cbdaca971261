use Rattle.book_marks.proofs.Updates.{updates_outside, updates_short, updates_done}
use Rattle.book_marks.proofs.update_marks.Goals as goal

pub returns-in_err-checked-clause-answer : goal.returns-in_err-checked-clause-answer
returns-in_err-checked-clause-answer c = (updates_outside c.args.level_count c.args.layer_count c.args.marks.now c.args.range c.args.out.now c.check.result c.check.ensures _ c.in_err-checked.was _ c.from_residual.ensures.1).0

pub returns-in_err-count-clause-answer : goal.returns-in_err-count-clause-answer
returns-in_err-count-clause-answer c = (updates_short c.args.level_count c.args.layer_count c.args.marks.now c.args.range c.args.out.now c.check.result c.check.ensures _ c.in_ok-checked.was _ _ (c.clear.ensures.value, c.clear.ensures.out_after) _ c.in_err-count.was _ c.from_residual-in_err-count.ensures.1).0

pub returns-clause-answer : goal.returns-clause-answer
returns-clause-answer c = (updates_done c.args.level_count c.args.layer_count c.args.marks.now c.args.range c.args.out.now c.check.result c.check.ensures _ c.in_ok-checked.was _ _ (c.clear.ensures.value, c.clear.ensures.out_after) _ c.in_ok-count.was _ c.mark.ensures).0

pub returns-in_err-checked-clause-marks_after : goal.returns-in_err-checked-clause-marks_after
returns-in_err-checked-clause-marks_after c = (updates_outside c.args.level_count c.args.layer_count c.args.marks.now c.args.range c.args.out.now c.check.result c.check.ensures _ c.in_err-checked.was _ c.from_residual.ensures.1).1

pub returns-in_err-count-clause-marks_after : goal.returns-in_err-count-clause-marks_after
returns-in_err-count-clause-marks_after c = (updates_short c.args.level_count c.args.layer_count c.args.marks.now c.args.range c.args.out.now c.check.result c.check.ensures _ c.in_ok-checked.was _ _ (c.clear.ensures.value, c.clear.ensures.out_after) _ c.in_err-count.was _ c.from_residual-in_err-count.ensures.1).1

pub returns-clause-marks_after : goal.returns-clause-marks_after
returns-clause-marks_after c = (updates_done c.args.level_count c.args.layer_count c.args.marks.now c.args.range c.args.out.now c.check.result c.check.ensures _ c.in_ok-checked.was _ _ (c.clear.ensures.value, c.clear.ensures.out_after) _ c.in_ok-count.was _ c.mark.ensures).1

pub returns-in_err-checked-clause-out_after : goal.returns-in_err-checked-clause-out_after
returns-in_err-checked-clause-out_after c = (updates_outside c.args.level_count c.args.layer_count c.args.marks.now c.args.range c.args.out.now c.check.result c.check.ensures _ c.in_err-checked.was _ c.from_residual.ensures.1).2

pub returns-in_err-count-clause-out_after : goal.returns-in_err-count-clause-out_after
returns-in_err-count-clause-out_after c = (updates_short c.args.level_count c.args.layer_count c.args.marks.now c.args.range c.args.out.now c.check.result c.check.ensures _ c.in_ok-checked.was _ _ (c.clear.ensures.value, c.clear.ensures.out_after) _ c.in_err-count.was _ c.from_residual-in_err-count.ensures.1).2

pub returns-clause-out_after : goal.returns-clause-out_after
returns-clause-out_after c = (updates_done c.args.level_count c.args.layer_count c.args.marks.now c.args.range c.args.out.now c.check.result c.check.ensures _ c.in_ok-checked.was _ _ (c.clear.ensures.value, c.clear.ensures.out_after) _ c.in_ok-count.was _ c.mark.ensures).2
