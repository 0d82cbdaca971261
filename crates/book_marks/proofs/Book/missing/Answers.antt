use Rattle.book_marks.proofs.Updates.{updates_outside, asks}
use Rattle.book_marks.specs.Update.{whole_level}
use Rattle.book_marks.proofs.Book.missing.Goals as goal

pub returns-in_err-checked-clause-answer : goal.returns-in_err-checked-clause-answer
returns-in_err-checked-clause-answer c = (updates_outside c.args.self.now.mip_level_count c.args.self.now.array_layer_count c.args.self.now.marks (whole_level c.args.self.now c.args.level) c.args.out.now c.check.result c.check.ensures _ c.in_err-checked.was _ c.from_residual.ensures.1).0

pub returns-clause-answer : goal.returns-clause-answer
returns-clause-answer c = (asks c.args.self.now.mip_level_count c.args.self.now.array_layer_count c.args.self.now.marks (whole_level c.args.self.now c.args.level) c.args.out.now c.check.result c.check.ensures _ c.in_ok-checked.was _ _ (c.clear.ensures.value, c.clear.ensures.out_after)).0

pub returns-in_err-checked-clause-out_after : goal.returns-in_err-checked-clause-out_after
returns-in_err-checked-clause-out_after c = (updates_outside c.args.self.now.mip_level_count c.args.self.now.array_layer_count c.args.self.now.marks (whole_level c.args.self.now c.args.level) c.args.out.now c.check.result c.check.ensures _ c.in_err-checked.was _ c.from_residual.ensures.1).2

pub returns-clause-out_after : goal.returns-clause-out_after
returns-clause-out_after c = (asks c.args.self.now.mip_level_count c.args.self.now.array_layer_count c.args.self.now.marks (whole_level c.args.self.now c.args.level) c.args.out.now c.check.result c.check.ensures _ c.in_ok-checked.was _ _ (c.clear.ensures.value, c.clear.ensures.out_after)).1
