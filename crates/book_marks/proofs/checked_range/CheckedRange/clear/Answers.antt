use Rattle.book_marks.proofs.Updates.{clears_none, clears_short, clears_all}
use Rattle.book_marks.proofs.checked_range.CheckedRange.clear.Goals as goal

pub returns-in-ImplicitlyInitialized-clause-value : goal.returns-in-ImplicitlyInitialized-clause-value
returns-in-ImplicitlyInitialized-clause-value c = (clears_none c.args.marks.now c.args.self.range c.args.out.now c.in-ImplicitlyInitialized.is).0

pub returns-then-out-count-clause-value : goal.returns-then-out-count-clause-value
returns-then-out-count-clause-value c = (clears_short c.args.marks.now c.args.self.range c.args.out.now c.in-NeedsInitializedMemory.is _ c.unmarked_count-count.ensures.value c.if-out-count.true).0

pub returns-else-out-count-clause-value : goal.returns-else-out-count-clause-value
returns-else-out-count-clause-value c = (clears_all c.args.marks.now c.args.self.range c.args.out.now c.in-NeedsInitializedMemory.is _ c.unmarked_count-count.ensures.value _ c.if-out-count.false c.write_unmarked.ensures).0

pub returns-in-ImplicitlyInitialized-clause-out_after : goal.returns-in-ImplicitlyInitialized-clause-out_after
returns-in-ImplicitlyInitialized-clause-out_after c = (clears_none c.args.marks.now c.args.self.range c.args.out.now c.in-ImplicitlyInitialized.is).1

pub returns-then-out-count-clause-out_after : goal.returns-then-out-count-clause-out_after
returns-then-out-count-clause-out_after c = (clears_short c.args.marks.now c.args.self.range c.args.out.now c.in-NeedsInitializedMemory.is _ c.unmarked_count-count.ensures.value c.if-out-count.true).1

pub returns-else-out-count-clause-out_after : goal.returns-else-out-count-clause-out_after
returns-else-out-count-clause-out_after c = (clears_all c.args.marks.now c.args.self.range c.args.out.now c.in-NeedsInitializedMemory.is _ c.unmarked_count-count.ensures.value _ c.if-out-count.false c.write_unmarked.ensures).1
