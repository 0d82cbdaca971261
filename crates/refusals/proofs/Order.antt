-- How an order of checks goes on after a check, and what an answer says of the checks.
-- Assumes nothing.
use Rattle.std.specs.Prelude.{Result, Ok, Err, IsErrAnd}
use Rattle.std.proofs.lemmas.Result.{err_from_is_err_and}
use mathlib.Core.Path.{◌≡◌, refl, sym, ap, ◌∙◌}
use mathlib.Core.Bool.{Bool, true, false, not}
use mathlib.Core.List.{List, [], ◌∷◌, flatten}
use Prim.Native.Nat.{ℕ, zero, suc}
use native.Mathlib.Omega.{arith}
use lib.ListN.{get_or}
use borrow.Author.Tests.{lt-ltb, le-ltb, le-leb, lt-leb, eq-eqb, ne_eqb}
use Rattle.conditions.specs.Conditions.{stop_if}
use Rattle.conditions.proofs.Rules.{not_yes, not_no}
use Rattle.refusals.specs.declared.TransferError.{TransferError}
use Rattle.refusals.specs.Order.{Checks, refuse_if, first, decided, checked}

-- ---- one check, then the rest

module _ (R : Type 0) (rest x : Result R TransferError) (e : TransferError) where
  pub test_stops : (t : Bool) → t ≡ true → x ≡ Err e → x ≡ first (refuse_if t e) rest
  unfolding first refuse_if
  test_stops t h k = rw h k

  pub test_passes : (t : Bool) → t ≡ false → x ≡ rest → x ≡ first (refuse_if t e) rest
  unfolding first refuse_if
  test_passes t h k = rw h k

  -- the test was a call's answer
  pub test_stops_flag : (r t : Bool) → r ≡ t → r ≡ true → x ≡ Err e → x ≡ first (refuse_if t e) rest
  test_stops_flag r t p q k = test_stops t (sym p ∙ q) k

  pub test_passes_flag : (r t : Bool) → r ≡ t → r ≡ false → x ≡ rest → x ≡ first (refuse_if t e) rest
  test_passes_flag r t p q k = test_passes t (sym p ∙ q) k

  -- the test was the negation of a call's answer
  pub test_stops_unflag : (r t : Bool) → r ≡ t → not r ≡ true → x ≡ Err e → x ≡ first (refuse_if (not t) e) rest
  test_stops_unflag r t p q k = test_stops (not t) (ap not (sym p) ∙ q) k

  pub test_passes_unflag : (r t : Bool) → r ≡ t → not r ≡ false → x ≡ rest → x ≡ first (refuse_if (not t) e) rest
  test_passes_unflag r t p q k = test_passes (not t) (ap not (sym p) ∙ q) k

-- the answer is the first of all refusals
pub first_of_all : (R : Type 0) (checks : Checks) (answer : Result R TransferError) → decided checks answer ≡ first (flatten checks) answer
unfolding decided first flatten
first_of_all R [] answer = refl
first_of_all R ([] ∷ checks) answer = first_of_all R checks answer
first_of_all R ((e ∷ es) ∷ checks) answer = refl

-- a line of a staged order of checks as a check of a list
pub line : (R : Type 0) (t : Bool) (e : TransferError) (rest : Result R TransferError) → stop_if t (Err e) rest ≡ first (refuse_if t e) rest
unfolding stop_if first refuse_if
line R true e rest = refl
line R false e rest = refl

-- ---- a rule within an order: its answer taken apart

pub no_refusal : {R : Type 0} {e : TransferError} {v : R} → ◌≡◌ {A = Result R TransferError} (Err e) (Ok v) → ⊥
no_refusal h = let z : ◌≡◌ {A = ℕ} 0 1 = cc in omega arith

pub same_refusal : {R : Type 0} {a e : TransferError} → ◌≡◌ {A = Result R TransferError} (Err a) (Err e) → a ≡ e
same_refusal h = cc

pub same_value : {R : Type 0} {v w : R} → ◌≡◌ {A = Result R TransferError} (Ok v) (Ok w) → v ≡ w
same_value h = cc

-- what `?` hands up
pub handed_up : {R : Type 0} (x : Result R TransferError) (e : TransferError) → IsErrAnd x (λ d. d ≡ e) → x ≡ Err e
handed_up x e h = let p = err_from_is_err_and x h in p.1 ∙ ap Err p.2

module _ (R : Type 0) (v : R) (found : List TransferError) where
  -- where nothing was refused, nothing was found
  pub clear : (w : R) → Ok w ≡ first found (Ok v) → (found ≡ []) × (w ≡ v)
  unfolding first
  clear w p = by found p
    where
      by : (found : List TransferError) → Ok w ≡ first found (Ok v) → (found ≡ []) × (w ≡ v)
      by [] p = (refl, same_value p)
      by (e ∷ es) p = absurd (no_refusal (sym p))

  pub found_first : (e : TransferError) → Err e ≡ first found (Ok v) → (S : Type 0) (rest : Result S TransferError) → first found rest ≡ Err e
  unfolding first
  found_first e p S rest = by found p
    where
      by : (found : List TransferError) → Err e ≡ first found (Ok v) → first found rest ≡ Err e
      by [] p = absurd (no_refusal p)
      by (a ∷ more) p = ap Err (same_refusal (sym p))

module _ {R S : Type 0} {x : Result S TransferError} {r : Result R TransferError} (checks : Checks) (v : R) (rest : Result S TransferError) where
  pub rule_passes : {w : R} → r ≡ decided checks (Ok v) → r ≡ Ok w → x ≡ rest → x ≡ first (flatten checks) rest
  unfolding first
  rule_passes {w} p q k = rw (clear R v (flatten checks) w (sym q ∙ p ∙ first_of_all R checks (Ok v))).0 k

  pub rule_stops : {e : TransferError} → r ≡ decided checks (Ok v) → r ≡ Err e → x ≡ Err e → x ≡ first (flatten checks) rest
  rule_stops {e} p q k = k ∙ sym (found_first R v (flatten checks) e (sym q ∙ p ∙ first_of_all R checks (Ok v)) S rest)

  -- the refusal was handed up by `?`
  pub rule_hands : {e : TransferError} → r ≡ decided checks (Ok v) → r ≡ Err e → IsErrAnd x (λ d. d ≡ e) → x ≡ first (flatten checks) rest
  rule_hands {e} p q h = rule_stops p q (handed_up x e h)

-- a refusal that a function made
pub refused_alike : {R : Type 0} (d e : TransferError) → d ≡ e → ◌≡◌ {A = Result R TransferError} (Err d) (Err e)
refused_alike d e p = ap Err p

-- an answer that is made of what a function gave
pub given_alike : {R : Type 0} (v w : R) → v ≡ w → ◌≡◌ {A = Result R TransferError} (Ok v) (Ok w)
given_alike v w p = ap Ok p

pub ruleset ordered = (lt-ltb, le-ltb, le-leb, lt-leb, eq-eqb, ne_eqb, not_yes, not_no, test_stops, test_passes, test_stops_flag, test_passes_flag, test_stops_unflag, test_passes_unflag, rule_passes, rule_stops, rule_hands, refused_alike, given_alike)

-- ---- what an answer that is no refusal says of every check

-- each check of a list finds nothing, by its place
abbrev pub NoneFound : Checks → Type 0
NoneFound checks = (n : ℕ) → get_or checks n [] ≡ []

-- the same, check by check
abbrev pub Empties : Checks → Type 0
Empties [] = Unit {0}
Empties (found ∷ checks) = (found ≡ []) × Empties checks

pub none_of : (checks : Checks) → Empties checks → NoneFound checks
none_of [] e n = refl
none_of (found ∷ checks) e zero = e.0
none_of (found ∷ checks) e (suc n) = none_of checks e.1 n

module _ (R : Type 0) (v : R) where
  pub none_found : (checks : Checks) (w : R) → decided checks (Ok v) ≡ Ok w → NoneFound checks × (v ≡ w)
  unfolding decided first
  none_found [] w h = (λ n. refl, same_value h)
  none_found ([] ∷ checks) w h = let rest = none_found checks w h in (λ n. at n rest.0, rest.1)
    where
      at : (n : ℕ) → NoneFound checks → get_or ([] ∷ checks) n [] ≡ []
      at zero f = refl
      at (suc n) f = f n
  none_found ((e ∷ es) ∷ checks) w h = absurd (no_refusal h)

  pub all_pass : (checks : Checks) → Empties checks → decided checks (Ok v) ≡ Ok v
  unfolding decided first
  all_pass [] e = refl
  all_pass (found ∷ checks) e = rw e.0 (all_pass checks e.1)

pub none_in : (checks : Checks) → flatten checks ≡ [] → NoneFound checks
unfolding flatten
none_in [] h n = refl
none_in ([] ∷ checks) h zero = refl
none_in ([] ∷ checks) h (suc n) = none_in checks h n
none_in ((e ∷ es) ∷ checks) h n = let z : ◌≡◌ {A = ℕ} 0 1 = cc in absurd (omega arith)

pub flat_empty : (checks : Checks) → Empties checks → flatten checks ≡ []
unfolding flatten
flat_empty [] e = refl
flat_empty (found ∷ checks) e = rw e.0 (flat_empty checks e.1)

-- ---- a check by one test

pub test_fails : (t : Bool) (e : TransferError) → refuse_if t e ≡ [] → t ≡ false
unfolding refuse_if
test_fails true e h = let z : ◌≡◌ {A = ℕ} 0 1 = cc in absurd (omega arith)
test_fails false e h = refl

pub test_off : (t : Bool) (e : TransferError) → t ≡ false → refuse_if t e ≡ []
unfolding refuse_if
test_off t e h = rw h

-- ---- a rule that goes on finds nothing

pub checked_passes : (checks : Checks) → checked checks ≡ Ok tt → flatten checks ≡ []
checked_passes checks h = (clear Unit tt (flatten checks) tt (sym h ∙ first_of_all Unit checks (Ok tt))).0

pub passes_checked : (checks : Checks) → flatten checks ≡ [] → checked checks ≡ Ok tt
unfolding first
passes_checked checks h = first_of_all Unit checks (Ok tt) ∙ rw h
