-- What the check does not find alone for `find_places`.
use mathlib.Core.Path.{◌∙◌}
use native.Mathlib.Omega.{arith}
use lib.ListN.{length-set}
use Rattle.sheet_sections.proofs.RowLaws.{places_on}
use Rattle.sheet_sections.proofs.find_places.Goals as goal

pub loop-place-preserved : goal.loop-place-preserved
loop-place-preserved c =
    let l = c.loop-place in
    (places_on _ _ _ _ _ l.place-items _ _ (omega arith) (omega arith) c.read_row-at.ensures ∙ l.invariant.0, simp length-set l.invariant.1)
