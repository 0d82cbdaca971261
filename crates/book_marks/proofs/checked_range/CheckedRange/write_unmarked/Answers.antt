use Rattle.std.proofs.Common.{arith, ◌≡◌, ◌+◌, ◌<◌, ◌≤◌, length}
use mathlib.Core.Path.{sym, ap, ◌∙◌}
use lib.ListN.{length-set}
use lib.Seq.{sets}
use Rattle.book_marks.specs.Update.{place_numbers}
use Rattle.book_marks.proofs.Marks.{left_marked, left_unmarked, left_none, places_on, places_none}
use Rattle.book_marks.proofs.checked_range.CheckedRange.write_unmarked.Goals as goal
use Rattle.book_marks.proofs.checked_range.CheckedRange.write_unmarked.Goals.{then-not-is_marked, else-not-is_marked}

-- at a layer without a mark two numbers more have room
room : (c : goal.Then-not-is_marked) → c.loop-layer.at + 2 ≤ length c.loop-layer.out
room c =
    let a = c.args in
    let l = c.loop-layer in
    omega (arith, l.invariant.1, ap length (left_unmarked a.marks.now a.self.range.mip_level l.layer a.self.range.layers.end (omega (arith, c.loop-layer-test.true, c.end-layer-end.ensures)) (sym c.is_marked.ensures ∙ c.if-not-is_marked.true)))

pub bounds-out-at : goal.bounds-out-at
bounds-out-at c = omega (arith, room c)

pub bounds-out-at-then-not-is_marked : goal.bounds-out-at-then-not-is_marked
bounds-out-at-then-not-is_marked c = simp length-set (omega (arith, room c))

pub loop-layer-preserved : goal.loop-layer-preserved
loop-layer-preserved c =
    let a = c.args in
    let l = c.loop-layer in
    let inv = l.invariant in
    let on : l.layer < a.self.range.layers.end = omega (arith, c.loop-layer-test.true, c.end-layer-end.ensures) in
    elim c.if-not-is_marked.branch [
      | then-not-is_marked w ↦
          let e = left_unmarked a.marks.now a.self.range.mip_level l.layer a.self.range.layers.end on (sym c.is_marked.ensures ∙ w.if-not-is_marked.true) in
          let size : length c.if-not-is_marked.out ≡ length l.out = c.if-not-is_marked.auto.out in (
            rw (w.out-is, w.at-is, c.level-level.ensures) (places_on l.out l.at a.self.range.mip_level l.layer _ _ e ∙ inv.0),
            omega (arith, ap length e, size, w.at-is, inv.1),
            omega (arith, w.at-is, inv.2),
            omega (arith, on),
          )
      | else-not-is_marked w ↦
          let e = left_marked a.marks.now a.self.range.mip_level l.layer a.self.range.layers.end on (sym c.is_marked.ensures ∙ w.if-not-is_marked.false) in (
            rw (w.out-is, w.at-is) (ap (λ zs. sets l.out l.at (place_numbers a.self.range.mip_level zs)) (sym e) ∙ inv.0),
            omega (arith, ap length e, ap length w.out-is, w.at-is, inv.1),
            omega (arith, w.at-is, inv.2),
            omega (arith, on),
          )
    ]

pub returns : goal.returns
returns c =
    let a = c.args in
    let l = c.loop-layer in
    sym (ap (sets l.out l.at) (places_none a.self.range.mip_level _ (left_none a.marks.now a.self.range.mip_level l.layer a.self.range.layers.end (omega (arith, c.loop-layer-test.false, c.end-layer-end.ensures))))) ∙ l.invariant.0
