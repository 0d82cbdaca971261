-- How the parts of a text are compared one after another.
-- Assumes nothing.
use mathlib.Core.Path.{◌≡◌, refl}
use mathlib.Core.Bool.{Bool, true, false, ◌&&◌}
use mathlib.Core.List.{List, [], ◌∷◌, ◌++◌}
use Prim.Native.Nat.{ℕ, ◌-◌, ◌≤◌, ◌<◌}
use native.Mathlib.Omega.{arith}
use borrow.Author.Tests.{eqb-true, eqb-false}
use lib.Dec.{eqb}
use lib.ListN.{length, take, drop, length-drop, drop_of_length-le}
use lib.Seq.{drop-cons, take_all}
use Rattle.std.proofs.lemmas.Slice.Eq.{bytes_eq-Decides}
use Rattle.conditions.proofs.Rules.{both_true}
use Rattle.sheet_replay.specs.Replay.{starts, same, SameLaw}

pub same_law : SameLaw
unfolding same
same_law a b = bytes_eq-Decides a b

and_assoc : (a b c : Bool) → (a && (b && c)) ≡ ((a && b) && c)
and_assoc true b c = refl
and_assoc false b c = refl

pub same_parts : (a b l : List ℕ) → same (a ++ b) l ≡ (starts a l && same b (drop (length a) l))
unfolding same starts
same_parts [] b l = refl
same_parts (x ∷ a) b [] = refl
same_parts (x ∷ a) b (y ∷ l) = rw (same_parts a b l) (and_assoc (eqb x y) (starts a l) (same b (drop (length a) l)))

pub starts_inside : (a l : List ℕ) → starts a l ≡ true → length a ≤ length l
unfolding starts
starts_inside [] l e = omega arith
starts_inside (x ∷ a) [] e = absurd cc
starts_inside (x ∷ a) (y ∷ l) e = let k = starts_inside a l (both_true (eqb x y) (starts a l) e).1 in omega arith

-- nothing is the same as what is left of a list only at its end
at_end : (l : List ℕ) (at : ℕ) (t : Bool) → at ≤ length l → eqb at (length l) ≡ t → t ≡ same [] (drop at l)
unfolding same
at_end l at true h e = let k : length l ≤ at = omega (arith, eqb-true at (length l) e) in rw (drop_of_length-le l k)
at_end l at false h e =
    let n = eqb-false at (length l) e in
    let k : at < length l = omega arith in
    rw (drop-cons l at 0 k)

pub same_none : (l : List ℕ) (at : ℕ) → at ≤ length l → eqb at (length l) ≡ same [] (drop at l)
same_none l at h = at_end l at (eqb at (length l)) h refl

-- all of a list from a place on
pub take_rest : (l : List ℕ) (at : ℕ) → take (length l - at) (drop at l) ≡ drop at l
take_rest l at = take_all (length l - at) (drop at l) (omega (arith, length-drop at l))
