use mathlib.Core.Path.{sym, ◌∙◌}
use Rattle.std.proofs.Common.{arith}
use Rattle.book_marks.specs.Book.{is_level_filled}
use Rattle.book_marks.proofs.Queries.{all_start, all_on, all_off, all_none}
use Rattle.book_marks.proofs.are_levels_filled.Goals as goal

pub loop-level-init : goal.loop-level-init
loop-level-init c = all_start (λ level. is_level_filled c.args.marks.now c.args.layer_count level) c.args.level_count

pub returns-then-not-is_level_filled : goal.returns-then-not-is_level_filled
returns-then-not-is_level_filled c =
    let a = c.args in
    let l = c.loop-level in
    sym (all_off (λ level. is_level_filled a.marks.now a.layer_count level) l.level a.level_count c.loop-level-test.true (sym c.is_level_filled.ensures ∙ c.if-not-is_level_filled.true)) ∙ l.invariant

pub loop-level-preserved : goal.loop-level-preserved
loop-level-preserved c =
    let a = c.args in
    let l = c.loop-level in
    all_on (λ level. is_level_filled a.marks.now a.layer_count level) l.level a.level_count c.loop-level-test.true (sym c.is_level_filled.ensures ∙ c.if-not-is_level_filled.false) ∙ l.invariant

pub returns : goal.returns
returns c =
    let a = c.args in
    let l = c.loop-level in
    sym (all_none (λ level. is_level_filled a.marks.now a.layer_count level) l.level a.level_count (omega (arith, c.loop-level-test.false))) ∙ l.invariant
