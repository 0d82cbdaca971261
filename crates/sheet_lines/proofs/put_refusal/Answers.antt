-- What the check does not find alone for `put_refusal`.
use mathlib.Core.Path.{ap}
use mathlib.Core.Bool.{false}
use mathlib.Core.List.{List}
use Prim.Native.Nat.{ℕ}
use native.Mathlib.Omega.{arith}
use Rattle.slices.proofs.Puts.{put_then, put_as, put_length}
use Rattle.sheet_text.specs.Text.{line_text}
use Rattle.sheet_lines.specs.Lines.{refused_word, refusal_text}
use Rattle.sheet_lines.proofs.LineLaws.{refusal_count, copy_few}
use Rattle.sheet_lines.proofs.put_refusal.Goals as goal

pub put_row-requires : goal.put_row-requires
put_row-requires c =
    let copy = c.put_copy-a.ensures in
    rw c.from.ensures (omega (arith, refusal_count c.args.why, copy_few c.args.k, copy.next, put_length copy))

pub returns : goal.returns
unfolding refusal_text
returns c = put_then c.put_copy-a.ensures (put_as c.put_row.ensures (ap (λ (ns : List ℕ). line_text refused_word false ns) c.from.ensures))
