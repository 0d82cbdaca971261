-- What the check does not find alone for `put_region`.
use mathlib.Core.Path.{ap}
use mathlib.Core.Bool.{true}
use mathlib.Core.List.{List}
use Prim.Native.Nat.{ℕ}
use native.Mathlib.Omega.{arith}
use Rattle.slices.proofs.Puts.{put_as}
use Rattle.sheet_text.specs.Text.{line_text}
use Rattle.sheet_lines.specs.Lines.{region_word, region_text}
use Rattle.sheet_lines.proofs.LineLaws.{asked_numbers, asked_plan, region_fits}
use Rattle.sheet_lines.proofs.put_region.Goals as goal

pub put_asked-requires : goal.put_asked-requires
put_asked-requires c = rw (asked_numbers _ _ c.next-asked.ensures) (omega (arith, region_fits c.args.plan))

pub returns : goal.returns
unfolding region_text
returns c =
    let asked = c.next-asked.ensures in
    record { put = put_as c.put_asked.ensures (ap (λ (ns : List ℕ). line_text region_word true ns) (asked_numbers _ _ asked)); plan_value = asked_plan _ _ asked }
