use Rattle.std.proofs.Common.{arith, ◌<◌, length}
use mathlib.Core.Path.{sym, ap, ◌∙◌}
use Rattle.book_marks.proofs.Marks.{left_marked, left_unmarked, left_none}
use Rattle.book_marks.proofs.checked_range.CheckedRange.unmarked_count.Goals as goal
use Rattle.book_marks.proofs.checked_range.CheckedRange.unmarked_count.Goals.{then-not-is_marked, else-not-is_marked}

pub loop-layer-preserved : goal.loop-layer-preserved
loop-layer-preserved c =
    let a = c.args in
    let l = c.loop-layer in
    let inv = l.invariant in
    let on : l.layer < a.self.range.layers.end = omega (arith, c.loop-layer-test.true, c.end-layer-end.ensures) in
    elim c.if-not-is_marked.branch [
      | then-not-is_marked w ↦ let e = left_unmarked a.marks.now a.self.range.mip_level l.layer a.self.range.layers.end on (sym c.is_marked.ensures ∙ w.if-not-is_marked.true) in (omega (arith, ap length e, w.count-is, inv.0), omega (arith, w.count-is), omega (arith, on))
      | else-not-is_marked w ↦ let e = left_marked a.marks.now a.self.range.mip_level l.layer a.self.range.layers.end on (sym c.is_marked.ensures ∙ w.if-not-is_marked.false) in (omega (arith, ap length e, w.count-is, inv.0), omega (arith, w.count-is), omega (arith, on))
    ]

pub returns-clause-value : goal.returns-clause-value
returns-clause-value c =
    let a = c.args in
    let l = c.loop-layer in
    omega (arith, l.invariant.0, ap length (left_none a.marks.now a.self.range.mip_level l.layer a.self.range.layers.end (omega (arith, c.loop-layer-test.false, c.end-layer-end.ensures))))
