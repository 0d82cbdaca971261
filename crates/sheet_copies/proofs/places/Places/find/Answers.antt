-- What the check does not find alone for `find`.
use mathlib.Core.Path.{ap, ◌∙◌}
use Prim.Native.Nat.{ℕ}
use native.Mathlib.Omega.{arith}
use Rattle.sheet_sections.specs.Rows.{places_of}
use Rattle.sheet_sections.proofs.PlaceLaws.{found}
use Rattle.sheet_copies.specs.Answers.{starts_of}
use Rattle.sheet_copies.proofs.places.Places.find.Goals as goal

pub returns : goal.returns
unfolding starts_of
returns c =
    found _ _ _ _ _ c.find_places.ensures (omega (arith, c.min-count.ensures))
    ∙ ap (λ (n : ℕ). places_of c.args.s.now c.args.section n c.args.part.first) c.min-count.ensures
