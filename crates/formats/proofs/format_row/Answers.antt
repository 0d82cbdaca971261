-- What the check does not find alone for `format_row`.
use mathlib.Core.Path.{sym}
use Prim.Native.Nat.{◌≤◌}
use lib.ListN.{get_or-eq_default}
use native.Mathlib.Omega.{arith}
use Rattle.formats.specs.Table.{formats, format_row, unknown}
use Rattle.formats.proofs.format_row.Goals as goal

-- the last arm: a number past the table
pub returns-in_default : goal.returns-in_default
unfolding formats format_row
returns-in_default c =
    let past : 22 ≤ c.args.format = omega arith in
    sym (get_or-eq_default formats unknown past)
