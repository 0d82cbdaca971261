-- How numbers that are put one after another join, and how they are put one by one.
-- Assumes nothing.
use mathlib.Core.Path.{◌≡◌, refl, sym}
use mathlib.Core.List.{List, [], ◌∷◌, ◌++◌, append_assoc}
use Prim.Native.Nat.{ℕ, suc, ◌+◌, ◌≤◌, ◌<◌}
use native.Mathlib.Omega.{arith}
use native.Mathlib.Numerals.{add-one}
use lib.ListN.{length, set, take, drop, get_or, length-append, drop_of_length-le}
use borrow.Rule.Slice.PartMut.{put_mid}
use lib.Seq.{sets, length-sets, drop-cons, drop-drop, sets-eq, take_at, length-take-le}
use Rattle.slices.specs.Put.{Put}
use Rattle.slices.specs.Laws.{PutLaws}

pub sets_append : (a b l : List ℕ) (i : ℕ) → sets l i (a ++ b) ≡ sets (sets l i a) (i + length a) b
sets_append [] b l i = let z : i + 0 ≡ i = omega arith in rw z
sets_append (x ∷ a) b l i =
    let z : i + suc (length a) ≡ suc i + length a = omega arith in
    rw z (sets_append a b (set l i x) (suc i))

module _ {l m : List ℕ} {at : ℕ} {a : List ℕ} {r : ℕ} (p : Put l m at a r) where
  pub put_length : length m ≡ length l
  put_length = rw p.numbers (length-sets l at a)

  pub put_then : {k : List ℕ} {b : List ℕ} {q : ℕ} → Put m k r b q → Put l k at (a ++ b) q
  put_then {k} {b} {q} o =
      record {
        next = rw (o.next, p.next, length-append a b) (omega arith);
        numbers = rw (o.numbers, p.numbers, p.next) (sym (sets_append a b l at));
      }

  pub put_as : {b : List ℕ} → a ≡ b → Put l m at b r
  put_as e = rw (← e) p

-- all that stands up to the end of the numbers
pub put_take : {l m : List ℕ} {at : ℕ} {t : List ℕ} {r : ℕ} → Put l m at t r → at + length t ≤ length l → take r m ≡ take at l ++ t
put_take {l} {m} {at} {t} p h =
    let e : length (take at l ++ t) ≡ at + length t = rw (length-append (take at l) t, length-take-le at l (omega arith)) in
    rw (p.next, p.numbers, sets-eq t l at h) (take_at (take at l ++ t) (drop (at + length t) l) (at + length t) e)

pub put_none : (l : List ℕ) (at : ℕ) → Put l l at [] at
put_none l at = record { next = omega arith; numbers = refl }

pub put_one : (l : List ℕ) (at x : ℕ) → Put l (set l at x) at (x ∷ []) (at + 1)
put_one l at x = record { next = refl; numbers = refl }

-- ---- one by one

pub numbers_on : (l w : List ℕ) (at i : ℕ) → i < length w → sets (set l (at + i) (get_or w i 0)) (at + (i + 1)) (drop (i + 1) w) ≡ sets l (at + i) (drop i w)
numbers_on l w at i h = let e : at + (i + 1) ≡ suc (at + i) = omega arith in rw (e, add-one i, drop-cons w i 0 h)

pub numbers_all : (l w : List ℕ) (at i : ℕ) → length w ≤ i → l ≡ sets l (at + i) (drop i w)
numbers_all l w at i h = rw (drop_of_length-le w h)

-- numbers that were copied into a part of a slice as long as they are
pub put_copied : (l m ns : List ℕ) (at k : ℕ) → m ≡ ns → k ≡ length ns → at + length ns ≤ length l → Put l (put_mid at k l m) at ns (at + length ns)
put_copied l m ns at k e n h = record { next = refl; numbers = rw (e, n, sets-eq ns l at h, ← drop-drop (length ns) at l, append_assoc) }

pub put_laws : PutLaws
put_laws =
    record {
      same = λ l m at a r p. put_length p;
      none = put_none;
      join = λ l m k at a r b q p o. put_then p o;
      front = λ l m at a r p h. put_take p h;
    }
