-- The laws of levels: halving is division by a power of two, and counting halvings compares with one.
-- Assumes nothing.
use mathlib.Core.Path.{◌≡◌, refl, ◌∙◌}
use mathlib.Core.Bool.{Bool, true, false}
use mathlib.Core.Logic.{◌↔◌, ◌⊎◌, inl, inr}
use Prim.Native.Nat.{ℕ, zero, suc, ◌*◌, ◌/◌, ◌^◌, ◌≤◌, ◌<◌}
use native.Mathlib.Omega.{arith}
use native.Mathlib.Nat.{div-div-eq-div-mul, div-eq_of_lt, div-le_self, div-one, eq-zero-or-pos, le-div_iff_mul-le, lt_of_lt_of_le, one-le-pow, pow-le-pow_right, pow-suc, pow-zero}
use borrow.Author.Tests.{leb-true, leb-false, ltb-true, ltb-false}
use lib.Dec.{leb, ltb}
use Rattle.conditions.specs.Conditions.{pick}
use Rattle.mip_levels.specs.Level.{halved, side_at, halvings, max_mip_levels}
use Rattle.mip_levels.specs.Laws.{LevelLaws}

pub halved_is : (n l : ℕ) → halved n l ≡ n / 2 ^ l
unfolding halved
halved_is n zero = rw (pow-zero, div-one)
halved_is n (suc l) = rw (halved_is n l, div-div-eq-div-mul, pow-suc)

-- 2 ^ l is at most n exactly where l halvings leave something
pub reaches : (n l : ℕ) → 2 ^ l ≤ n → 0 < halved n l
reaches n l h = let some : 1 ≤ n / 2 ^ l = (le-div_iff_mul-le (one-le-pow l 2 (omega arith))).1 (omega arith) in omega (arith, halved_is n l)

pub reached : (n l : ℕ) → 0 < halved n l → 2 ^ l ≤ n
reached n l h =
    let some : 1 ≤ n / 2 ^ l = omega (arith, halved_is n l) in
    let held : 1 * 2 ^ l ≤ n = (le-div_iff_mul-le (one-le-pow l 2 (omega arith))).0 some in
    omega arith

half : (n l : ℕ) → 2 ^ l ≤ n / 2 → 2 ^ suc l ≤ n
half n l h = omega (arith, pow-suc 2 l)

halve : (n l : ℕ) → 2 ^ suc l ≤ n → 2 ^ l ≤ n / 2
halve n l h = omega (arith, pow-suc 2 l)

-- as many halvings as are counted leave something
within_step :
    (t : Bool) (n l more : ℕ) → leb n 1 ≡ t → (0 < n / 2 → l ≤ more → 2 ^ l ≤ n / 2)
    → suc l ≤ pick t 0 (suc more) → 2 ^ suc l ≤ n
within_step true n l more e rest h = absurd (omega arith)
within_step false n l more e rest h = half n l (rest (omega (arith, leb-false n 1 e)) (omega arith))

within : (steps n l : ℕ) → 0 < n → l ≤ halvings steps n → 2 ^ l ≤ n
unfolding halvings
within steps n zero pos h = omega (arith, pow-zero 2)
within zero n (suc l) pos h = absurd (omega arith)
within (suc steps) n (suc l) pos h = within_step (leb n 1) n l (halvings steps (n / 2)) refl (within steps (n / 2) l) h

-- and no others do, where the steps are enough
all_step :
    (t : Bool) (n l more : ℕ) → leb n 1 ≡ t → (0 < n / 2 → 2 ^ l ≤ n / 2 → l ≤ more)
    → 2 ^ suc l ≤ n → suc l ≤ pick t 0 (suc more)
all_step true n l more e rest h = absurd (omega (arith, leb-true n 1 e, pow-suc 2 l, one-le-pow l 2 (omega arith)))
all_step false n l more e rest h = let m = rest (omega (arith, leb-false n 1 e)) (halve n l h) in omega arith

all : (steps n l : ℕ) → 0 < n → n ≤ steps → 2 ^ l ≤ n → l ≤ halvings steps n
unfolding halvings
all steps n zero pos fits h = omega arith
all zero n (suc l) pos fits h = absurd (omega arith)
all (suc steps) n (suc l) pos fits h = all_step (leb n 1) n l (halvings steps (n / 2)) refl (λ p. all steps (n / 2) l p (omega arith)) h

counted : (n level : ℕ) → 0 < n → (level < max_mip_levels n) ↔ (0 < halved n level)
unfolding max_mip_levels
counted n level pos = (
  λ h. reaches n level (within n n level pos (omega arith)),
  λ h. let a = all n n level pos (omega arith) (reached n level h) in omega arith,
)

some : (n level : ℕ) → 0 < side_at n level
unfolding side_at
some n level = omega arith

fewer : (n level : ℕ) → 0 < n → side_at n level ≤ n
unfolding side_at
fewer n level pos = omega (arith, halved_is n level, div-le_self n (2 ^ level))

only_one : (n : ℕ) → n ≡ 0 → max_mip_levels n ≡ 1
unfolding max_mip_levels halvings
only_one n e = rw e

-- a level that is halved away is past the last
beyond : (n level : ℕ) → 0 < level → halved n level ≡ 0 → max_mip_levels n ≤ level
beyond n level h e = go (eq-zero-or-pos n) (ltb level (max_mip_levels n)) refl
  where
    go : (n ≡ 0) ⊎ (0 < n) → (t : Bool) → ltb level (max_mip_levels n) ≡ t → max_mip_levels n ≤ level
    go (inl z) t q = omega (arith, only_one n z)
    go (inr pos) false q = ltb-false _ _ q
    go (inr pos) true q = absurd (omega (arith, (counted n level pos).0 (ltb-true _ _ q)))

few : (n digits : ℕ) → n < 2 ^ digits → 0 < digits → max_mip_levels n ≤ digits
few n digits h some = beyond n digits some (halved_is n digits ∙ div-eq_of_lt h)

pub level_laws : LevelLaws
level_laws = record { halves = halved_is; some = some; fewer = fewer; counted = counted; few = few }

-- nothing is left of a side past its digits
pub past : (n level : ℕ) → n < 2 ^ 32 → 32 ≤ level → side_at n level ≡ 1
unfolding side_at
past n level h l =
    let high : 2 ^ 32 ≤ 2 ^ level = pow-le-pow_right (omega arith) l in
    let none : n / 2 ^ level ≡ 0 = div-eq_of_lt (lt_of_lt_of_le h high) in
    omega (arith, halved_is n level)
