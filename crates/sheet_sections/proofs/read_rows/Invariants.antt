-- What lasts from turn to turn in `read_rows`.
use mathlib.Core.Path.{◌≡◌}
use Prim.Native.Nat.{◌-◌}
use Rattle.sheet_sections.specs.Rows.{rows_of}
use Rattle.sheet_sections.proofs.read_rows.Given as goal

abbrev pub invariant-loop : goal.invariant-loop
invariant-loop l = rows_of l.s l.section (l.count - l.counter) l.at ≡ rows_of l.s l.section l.count l.first
