-- What the check does not find alone for `rounded_up`.
use mathlib.Core.Path.{sym, ap, ◌∙◌}
use native.Mathlib.Omega.{arith}
use Rattle.measures.specs.Measure.{texels, round_up}
use Rattle.measures.proofs.Rounding.{single_texels, next_multiple, tight}
use Rattle.measures.proofs.Texels.rounded_up.Goals as goal

pub returns-then-size-eq1 : goal.returns-then-size-eq1
unfolding round_up
returns-then-size-eq1 c = let a = c.args in ap texels (single_texels a.self.0 a.side.0 (sym c.count-size.ensures.value ∙ c.if-size-eq1.true))

pub next_multiple_of-requires-clause-fits : goal.next_multiple_of-requires-clause-fits
next_multiple_of-requires-clause-fits c =
    let n = c.count-size in
    let fits = tight n.result n.ensures.some c.args.self.0 in
    omega (arith, next_multiple n.result n.ensures.some c.args.self.0, fits, c.requires, n.ensures.value)
