-- What lasts from turn to turn in `find_places`.
use mathlib.Core.Path.{◌≡◌}
use Prim.Native.Nat.{◌-◌}
use lib.ListN.{length, drop}
use lib.Seq.{sets}
use Rattle.std.specs.Prelude.{◌++◌}
use Rattle.sheet_sections.specs.Rows.{places_of}
use Rattle.sheet_sections.proofs.find_places.Given as goal

-- storing what is left from here on stores all of them
abbrev pub invariant-loop-place : goal.invariant-loop-place
invariant-loop-place l =
    (sets (l.place-items ++ drop l.room l.fn.places) l.place-index (places_of l.s l.section (l.count - l.place-index) l.at) ≡ sets l.fn.places 0 (places_of l.s l.section l.count l.first)) × (length l.place-items ≡ l.room)
