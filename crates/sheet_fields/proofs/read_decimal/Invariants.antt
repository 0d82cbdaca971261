-- What lasts from turn to turn in `read_decimal`.
use mathlib.Core.Path.{◌≡◌}
use Prim.Native.Nat.{◌≤◌}
use lib.ListN.{drop}
use Rattle.sheet_fields.specs.Field.{decimal_of}
use Rattle.sheet_fields.proofs.Scans.{scanned}
use Rattle.sheet_fields.proofs.read_decimal.Given as goal

abbrev pub invariant-loop-b : goal.invariant-loop-b
invariant-loop-b l = (scanned l.high l.v (drop l.b-index l.t) ≡ decimal_of l.high l.t) × (l.v ≤ l.high)
