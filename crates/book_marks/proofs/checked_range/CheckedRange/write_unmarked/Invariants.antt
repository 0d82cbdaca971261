use Rattle.std.proofs.Common.{◌≡◌, ◌+◌, ◌*◌, ◌≤◌, length}
use Rattle.std.proofs.lemmas.List.Edits.{sets}
use Rattle.book_marks.specs.Update.{place_numbers}
use Rattle.book_marks.proofs.Marks.{left}
use Rattle.book_marks.proofs.checked_range.CheckedRange.write_unmarked.Given as goal

-- with the numbers of the layers that are left the slice is the last one
abbrev pub invariant-loop-layer : goal.invariant-loop-layer
invariant-loop-layer l =
    (sets l.out l.at (place_numbers l.self.range.mip_level (left l.marks l.self.range.mip_level l.layer l.self.range.layers.end)) ≡ sets l.fn.out 0 (place_numbers l.self.range.mip_level (left l.marks l.self.range.mip_level l.self.range.layers.start l.self.range.layers.end)))
    × (l.at + 2 * length (left l.marks l.self.range.mip_level l.layer l.self.range.layers.end) ≤ length l.out)
    × (l.at ≤ 2 * l.layer)
    × (l.layer ≤ l.self.range.layers.end)
