use Rattle.std.proofs.Common.{arith, false, [], ◌∷◌}
use mathlib.Core.Path.{sym, ◌∙◌}
use Rattle.slices.proofs.Puts.{put_then, put_as, put_length}
use Rattle.sheet_text.proofs.Puts.{spaced_few}
use Rattle.sheet_books.specs.Books.{head_text, verdict_text}
use Rattle.sheet_books.proofs.Lines.{verdict_refused, verdict_filled, verdict_missing}
use Rattle.sheet_books.proofs.put_head.Goals as goal

pub put_line-requires : goal.put_line-requires
put_line-requires c =
    omega (arith, c.put_bytes-a.ensures.next, c.put_numbers-b.ensures.next, spaced_few false (c.args.texture ∷ []), put_length c.put_bytes-a.ensures, put_length c.put_numbers-b.ensures, c.requires)

pub put_line-requires-then-is_filled : goal.put_line-requires-then-is_filled
put_line-requires-then-is_filled c =
    omega (arith, c.put_bytes-a.ensures.next, c.put_numbers-b.ensures.next, spaced_few false (c.args.texture ∷ []), put_length c.put_bytes-a.ensures, put_length c.put_numbers-b.ensures, c.requires)

pub put_line-requires-2 : goal.put_line-requires-2
put_line-requires-2 c =
    omega (arith, c.put_bytes-a.ensures.next, c.put_numbers-b.ensures.next, spaced_few false (c.args.texture ∷ []), put_length c.put_bytes-a.ensures, put_length c.put_numbers-b.ensures, c.requires)

pub returns-then-book-eq0 : goal.returns-then-book-eq0
unfolding head_text verdict_text
returns-then-book-eq0 c =
    put_then c.put_bytes-a.ensures (put_then c.put_numbers-b.ensures (put_as c.put_line.ensures (verdict_refused c.args.texture c.args.book.now c.if-book-eq0.true)))

pub returns-then-is_filled : goal.returns-then-is_filled
unfolding head_text verdict_text
returns-then-is_filled c =
    put_then c.put_bytes-a.ensures (put_then c.put_numbers-b.ensures (put_as c.put_line-then-is_filled.ensures (verdict_filled c.args.texture c.args.book.now c.if-book-eq0.false (sym c.is_filled.ensures ∙ c.if-is_filled.true))))

pub returns : goal.returns
unfolding head_text verdict_text
returns c =
    put_then c.put_bytes-a.ensures (put_then c.put_numbers-b.ensures (put_as c.put_line-2.ensures (verdict_missing c.args.texture c.args.book.now c.if-book-eq0.false (sym c.is_filled.ensures ∙ c.if-is_filled.false))))
