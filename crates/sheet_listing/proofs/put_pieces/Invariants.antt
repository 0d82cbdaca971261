-- What lasts from turn to turn in `put_pieces`.
use Prim.Native.Nat.{◌-◌}
use lib.ListN.{length}
use Rattle.sheet_listing.proofs.Left.{Filling}
use Rattle.sheet_listing.proofs.put_pieces.Given as goal

abbrev pub invariant-loop-stepped : goal.invariant-loop-stepped
invariant-loop-stepped l = Filling l.sheet.text.now l.sheet.textures.now l.sheet.buffers.now l.sheet.device l.initial.copies l.copies l.initial.out l.out l.at

abbrev pub decreases-loop-stepped : goal.decreases-loop-stepped
decreases-loop-stepped l = length l.out - l.at
