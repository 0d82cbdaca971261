use mathlib.Core.Path.{sym, ◌∙◌}
use Rattle.std.proofs.Common.{arith}
use Rattle.book_marks.specs.Book.{is_marked, is_level_filled}
use Rattle.book_marks.proofs.Queries.{all_start, all_on, all_off, all_none}
use Rattle.book_marks.proofs.is_level_filled.Goals as goal

pub loop-layer-init : goal.loop-layer-init
loop-layer-init c = all_start (λ layer. is_marked c.args.marks.now c.args.level layer) c.args.layer_count

pub returns-then-not-is_marked : goal.returns-then-not-is_marked
unfolding is_level_filled
returns-then-not-is_marked c =
    let a = c.args in
    let l = c.loop-layer in
    sym (all_off (λ layer. is_marked a.marks.now a.level layer) l.layer a.layer_count c.loop-layer-test.true (sym c.is_marked.ensures ∙ c.if-not-is_marked.true)) ∙ l.invariant

pub loop-layer-preserved : goal.loop-layer-preserved
loop-layer-preserved c =
    let a = c.args in
    let l = c.loop-layer in
    all_on (λ layer. is_marked a.marks.now a.level layer) l.layer a.layer_count c.loop-layer-test.true (sym c.is_marked.ensures ∙ c.if-not-is_marked.false) ∙ l.invariant

pub returns : goal.returns
unfolding is_level_filled
returns c =
    let a = c.args in
    let l = c.loop-layer in
    sym (all_none (λ layer. is_marked a.marks.now a.level layer) l.layer a.layer_count (omega (arith, c.loop-layer-test.false))) ∙ l.invariant
