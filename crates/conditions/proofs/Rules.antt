-- What `search` is handed where a definition goes by tests and by an order of checks.
-- Assumes nothing.
use mathlib.Core.Path.{◌≡◌, refl, sym, ◌∙◌, ap}
use mathlib.Core.Bool.{Bool, true, false, not, ◌&&◌, ◌||◌}
use mathlib.Core.Logic.{◌⊎◌, inl, inr}
use mathlib.Core.List.{List, [], ◌∷◌}
use Prim.Native.Nat.{ℕ, zero, suc, ◌+◌, ◌<◌, ◌≤◌}
use lib.ListN.{length, get_or, drop, drop_of_length-le}
use native.Mathlib.Omega.{arith}
use borrow.Author.Rules.{rules}
use borrow.Author.Tests.{lt-ltb, le-ltb, le-leb, lt-leb, eq-eqb, ne_eqb, not-true, not-false}
use Rattle.conditions.specs.Conditions.{every, stop_if}

-- a definition by `pick`, `&&` and `||` over comparisons
pub ruleset tests = (rules, lt-ltb, le-ltb, le-leb, lt-leb, eq-eqb, ne_eqb)

-- a test from its negation
pub not_yes : (t : Bool) → t ≡ false → not t ≡ true
not_yes t h = rw h

pub not_no : (t : Bool) → t ≡ true → not t ≡ false
not_no t h = rw h

-- two tests that both hold
pub both_true : (s t : Bool) → (s && t) ≡ true → (s ≡ true) × (t ≡ true)
both_true true t e = (refl, e)
both_true false t e = let z : ◌≡◌ {A = ℕ} 0 1 = cc in absurd (omega arith)

-- one of two that holds
pub either : (s t : Bool) → (s || t) ≡ true → (s ≡ true) ⊎ (t ≡ true)
either true t e = inl refl
either false t e = inr e

-- two of which neither holds; of two that do not both hold, the second where the first does
pub neither : (s t : Bool) → (s || t) ≡ false → (s ≡ false) × (t ≡ false)
neither true t e = let z : ◌≡◌ {A = ℕ} 0 1 = cc in absurd (omega arith)
neither false t e = (refl, e)

pub not_both : (s t : Bool) → (s && t) ≡ false → s ≡ true → t ≡ false
not_both true t e h = e
not_both false t e h = let z : ◌≡◌ {A = ℕ} 0 1 = cc in absurd (omega arith)

-- the answer of two tests that both must hold, of which the second is made only where the first does
pub and_stops : (s t x : Bool) → s ≡ false → x ≡ false → x ≡ (s && t)
and_stops s t x h k = rw h k

pub and_passes : (s t x : Bool) → s ≡ true → x ≡ t → x ≡ (s && t)
and_passes s t x h k = rw h k

pub and_stops_unflag : (r s t x : Bool) → r ≡ s → not r ≡ true → x ≡ false → x ≡ (s && t)
and_stops_unflag r s t x p q k = and_stops s t x (sym p ∙ not-true r q) k

pub and_passes_unflag : (r s t x : Bool) → r ≡ s → not r ≡ false → x ≡ t → x ≡ (s && t)
and_passes_unflag r s t x p q k = and_passes s t x (sym p ∙ not-false r q) k

pub ruleset and_lines = (lt-ltb, le-ltb, le-leb, lt-leb, eq-eqb, ne_eqb, and_stops, and_passes, and_stops_unflag, and_passes_unflag)

-- several tests that all hold, one by one
abbrev pub AllTrue : List Bool → Type 0
AllTrue [] = Unit {0}
AllTrue (t ∷ ts) = (t ≡ true) × AllTrue ts

pub all_true : (ts : List Bool) → every ts ≡ true → AllTrue ts
all_true [] e = tt
all_true (t ∷ []) e = (e, tt)
all_true (t ∷ u ∷ us) e = let p = both_true t (every (u ∷ us)) e in (p.0, all_true (u ∷ us) p.1)

-- every test of a list, taken one after the other
module _ (ts : List Bool) where
  every_first : (t : Bool) → every (t ∷ ts) ≡ (t && every ts)
  every_first t = go t ts
    where
      go : (t : Bool) (ts : List Bool) → every (t ∷ ts) ≡ (t && every ts)
      go true [] = refl
      go false [] = refl
      go t (u ∷ us) = refl

every_from : (ts : List Bool) (i : ℕ) → i < length ts → every (drop i ts) ≡ (get_or ts i false && every (drop (suc i) ts))
every_from [] i h = absurd (omega arith)
every_from (t ∷ ts) zero h = every_first ts t
every_from (t ∷ ts) (suc i) h = every_from ts i (omega arith)

and_on : (a t rest : Bool) → (a && (t && rest)) ≡ ((a && t) && rest)
and_on true t rest = refl
and_on false t rest = refl

pub every_begun : (ts : List Bool) → (true && every (drop 0 ts)) ≡ every ts
every_begun ts = refl

pub every_goes : (ts : List Bool) (i : ℕ) (a : Bool) → i < length ts → (a && every (drop i ts)) ≡ every ts → ((a && get_or ts i false) && every (drop (i + 1) ts)) ≡ every ts
every_goes ts i a h k =
    let next : i + 1 ≡ suc i = omega arith in
    rw next (sym (ap (λ (b : Bool). a && b) (every_from ts i h) ∙ and_on a _ _) ∙ k)

pub every_ends : (ts : List Bool) (i : ℕ) (a : Bool) → length ts ≤ i → (a && every (drop i ts)) ≡ every ts → a ≡ every ts
every_ends ts i true h k = ap every (sym (drop_of_length-le ts h)) ∙ k
every_ends ts i false h k = k

-- one line of an order of checks: it stops, or the rest decides
module _ (R : Type 0) (e rest x : R) where
  pub line_stops : (t : Bool) → t ≡ true → x ≡ e → x ≡ stop_if t e rest
  unfolding stop_if
  line_stops t h k = rw h k

  pub line_passes : (t : Bool) → t ≡ false → x ≡ rest → x ≡ stop_if t e rest
  unfolding stop_if
  line_passes t h k = rw h k

  -- the test was a call's answer
  pub line_stops_flag : (r t : Bool) → r ≡ t → r ≡ true → x ≡ e → x ≡ stop_if t e rest
  line_stops_flag r t p q k = line_stops t (sym p ∙ q) k

  pub line_passes_flag : (r t : Bool) → r ≡ t → r ≡ false → x ≡ rest → x ≡ stop_if t e rest
  line_passes_flag r t p q k = line_passes t (sym p ∙ q) k

  -- the test was the negation of a call's answer
  pub line_stops_unflag : (r t : Bool) → r ≡ t → not r ≡ true → x ≡ e → x ≡ stop_if (not t) e rest
  line_stops_unflag r t p q k = line_stops (not t) (ap not (sym p) ∙ q) k

  pub line_passes_unflag : (r t : Bool) → r ≡ t → not r ≡ false → x ≡ rest → x ≡ stop_if (not t) e rest
  line_passes_unflag r t p q k = line_passes (not t) (ap not (sym p) ∙ q) k

pub ruleset lines = (lt-ltb, le-ltb, le-leb, lt-leb, eq-eqb, ne_eqb, not_yes, not_no, line_stops, line_passes)

pub ruleset flag_lines = (lines, line_stops_flag, line_passes_flag, line_stops_unflag, line_passes_unflag)

-- ---- the other way: an order of checks that answered what no stop of it answers
pub went_past : (R : Type 0) (t : Bool) (e rest x : R) → stop_if t e rest ≡ x → (e ≡ x → ⊥) → (t ≡ false) × (rest ≡ x)
unfolding stop_if
went_past R true e rest x h other = absurd (other h)
went_past R false e rest x h other = (refl, h)
