-- What the check does not find alone for `copy_planner_list`.
use native.Mathlib.Omega.{arith}
use Rattle.c_listing.proofs.Parts.{putting_on}
use Rattle.c_listing.proofs.copy_planner_list.Goals as goal

pub loop-listed-preserved : goal.loop-listed-preserved
loop-listed-preserved c =
    putting_on c.loop-listed.invariant c.in-Some.ensures (omega (arith, c.well_formed.1.0, c.loop-listed.invariant.same))
