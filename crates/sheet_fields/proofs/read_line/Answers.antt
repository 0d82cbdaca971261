-- What the check does not find alone for `read_line`.
use mathlib.Core.Path.{◌∙◌}
use lib.ListN.{length-set}
use Rattle.sheet_fields.proofs.LineLaws.{line_on}
use Rattle.sheet_fields.proofs.read_line.Goals as goal

pub loop-i-preserved : goal.loop-i-preserved
loop-i-preserved c = (
  line_on _ _ _ c.loop-i.i _ c.loop-i-test.true _ _ c.separator.ensures c.read_field.ensures _ c.in_ok-f.was ∙ c.loop-i.invariant.0,
  simp length-set c.loop-i.invariant.1,
)
