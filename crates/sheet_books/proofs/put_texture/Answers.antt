use Rattle.std.proofs.Common.{arith, ◌≡◌, ◌≤◌, ℕ}
use Rattle.std.specs.List.{range_with_len, flat_map}
use mathlib.Core.Path.{ap, ◌∙◌}
use Rattle.slices.proofs.Puts.{put_then, put_as, put_length}
use Rattle.sheet_books.specs.Books.{level_text, texture_text}
use Rattle.sheet_books.proofs.Lines.{underway_none, underway_on, head_few}
use Rattle.sheet_books.proofs.Slots.{level_few}
use Rattle.sheet_books.proofs.put_texture.Goals as goal

pub loop-level-init : goal.loop-level-init
loop-level-init c =
    (underway_none (level_text c.args.texture c.args.book.now) 18176 (level_few c.args.texture c.args.book.now) _ _, omega arith)

pub put_level-next-requires : goal.put_level-next-requires
put_level-next-requires c =
    let few : c.min-level-end.result ≤ 14 = rw c.min-level-end.ensures (omega arith) in
    omega (arith, c.loop-level.invariant.0.room, put_length c.loop-level.invariant.0.put, put_length c.put_head-next.ensures, c.put_head-next.ensures.next, head_few c.args.texture c.args.book.now, c.loop-level-test.true, few)

pub loop-level-preserved : goal.loop-level-preserved
loop-level-preserved c =
    let a = c.args in
    (underway_on (level_text a.texture a.book.now) 18176 (level_few a.texture a.book.now) _ _ _ _ _ _ _ c.loop-level.invariant.0 c.put_level-next.ensures, omega (arith, c.loop-level-test.true))

pub returns-clause-put : goal.returns-clause-put
unfolding texture_text
returns-clause-put c =
    let e : c.loop-level.level ≡ c.min-level-end.result = omega (arith, c.loop-level-test.false, c.loop-level.invariant.1) in
    put_then c.put_head-next.ensures (put_as c.loop-level.invariant.0.put (ap (λ (n : ℕ). flat_map (level_text c.args.texture c.args.book.now) (range_with_len 0 n)) (e ∙ c.min-level-end.ensures)))

pub returns-clause-within : goal.returns-clause-within
returns-clause-within c =
    let u = c.loop-level.invariant.0 in
    let few : c.min-level-end.result ≤ 14 = rw c.min-level-end.ensures (omega arith) in
    omega (arith, u.room, put_length u.put, put_length c.put_head-next.ensures, c.put_head-next.ensures.next, head_few c.args.texture c.args.book.now, c.loop-level.invariant.1, few)
