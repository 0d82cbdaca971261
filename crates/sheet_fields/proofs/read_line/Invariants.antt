-- What lasts from turn to turn in `read_line`.
use mathlib.Core.Path.{◌≡◌}
use lib.ListN.{length, drop}
use Rattle.sheet_fields.specs.Line.{line_values, line_with, line_of, fields_in}
use Rattle.sheet_fields.proofs.read_line.Given as goal

-- finishing from here gives the line
abbrev pub invariant-loop-i : goal.invariant-loop-i
invariant-loop-i l =
    (line_with l.values l.i (fields_in l.s (drop l.i l.kinds) l.next) ≡ line_of l.s l.kinds l.at) × (length l.values ≡ line_values)
