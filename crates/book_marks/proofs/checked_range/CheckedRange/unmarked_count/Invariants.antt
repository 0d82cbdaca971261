use Rattle.std.proofs.Common.{◌≡◌, ◌+◌, ◌≤◌, length}
use Rattle.book_marks.proofs.Marks.{left}
use Rattle.book_marks.proofs.checked_range.CheckedRange.unmarked_count.Given as goal

abbrev pub invariant-loop-layer : goal.invariant-loop-layer
invariant-loop-layer l =
    (l.count + length (left l.marks l.self.range.mip_level l.layer l.self.range.layers.end) ≡ length (left l.marks l.self.range.mip_level l.self.range.layers.start l.self.range.layers.end)) × (l.count ≤ l.layer) × (l.layer ≤ l.self.range.layers.end)
