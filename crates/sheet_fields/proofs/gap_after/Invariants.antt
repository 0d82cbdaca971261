-- What lasts from turn to turn in `gap_after`.
use mathlib.Core.Path.{◌≡◌}
use Prim.Native.Nat.{◌+◌, ◌≤◌, max}
use lib.ListN.{length, drop}
use Rattle.sheet_fields.specs.Field.{token}
use Rattle.sheet_fields.proofs.gap_after.Given as goal

-- ending from here gives what ending from the start gives
abbrev pub invariant-loop-i : goal.invariant-loop-i
invariant-loop-i l =
    (l.i + length (token (drop l.i l.s)) ≡ l.at + length (token (drop l.at l.s))) × (l.i ≤ max l.at (length l.s))
