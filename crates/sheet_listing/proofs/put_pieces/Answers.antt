-- What the check does not find alone for `put_pieces`.
use native.Mathlib.Omega.{arith}
use Rattle.sheet_listing.proofs.Left.{filling_room, filling_on}
use Rattle.sheet_listing.proofs.put_pieces.Goals as goal

pub overflow_add-at : goal.overflow_add-at
overflow_add-at c = omega (arith, filling_room c.loop-stepped.invariant c.in-Some.ensures)

pub loop-stepped-preserved : goal.loop-stepped-preserved
loop-stepped-preserved c = filling_on c.loop-stepped.invariant c.in-Some.ensures
