-- What the check does not find alone for `in_blocks`.
use mathlib.Core.Path.{sym, ap, ◌∙◌}
use Rattle.measures.specs.Measure.{blocks, in_blocks}
use Rattle.measures.proofs.Rounding.{single_blocks}
use Rattle.measures.proofs.Texels.in_blocks.Goals as goal

pub returns-then-size-eq1 : goal.returns-then-size-eq1
unfolding in_blocks
returns-then-size-eq1 c = let a = c.args in ap blocks (single_blocks a.self.0 a.side.0 (sym c.count-size.ensures.value ∙ c.if-size-eq1.true))
