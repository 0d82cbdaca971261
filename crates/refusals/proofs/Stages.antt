-- How the stages of a copy go on after a rule's answer was taken apart, and that they answer as their lists do.
-- Assumes nothing.
use Rattle.std.specs.Prelude.{Result, Ok, Err, IsErrAnd}
use mathlib.Core.Path.{◌≡◌, refl, sym, ◌∙◌}
use mathlib.Core.List.{List, [], ◌∷◌, flatten}
use Rattle.conditions.proofs.Rules.{flag_lines}
use Rattle.refusals.specs.declared.TransferError.{TransferError}
use Rattle.refusals.specs.Order.{Checks, first, decided, mapped}
use Rattle.refusals.specs.Stages.{after}
use Rattle.refusals.proofs.Order.{first_of_all, handed_up, given_alike}

-- ---- an answer goes on, or its refusal is handed up

module _ {A B : Type 0} {x : Result B TransferError} {m : Result A TransferError} (k : A → Result B TransferError) where
  pub after_goes : {r : Result A TransferError} {v : A} → r ≡ m → r ≡ Ok v → x ≡ k v → x ≡ after m k
  unfolding after
  after_goes p q h = rw (sym p ∙ q) h

  pub after_stops : {r : Result A TransferError} {e : TransferError} → r ≡ m → r ≡ Err e → x ≡ Err e → x ≡ after m k
  unfolding after
  after_stops p q h = rw (sym p ∙ q) h

  -- the refusal was handed up by `?`
  pub after_hands : {r : Result A TransferError} {e : TransferError} → r ≡ m → r ≡ Err e → IsErrAnd x (λ d. d ≡ e) → x ≡ after m k
  after_hands {r} {e} p q h = after_stops p q (handed_up x e h)

  -- an answer of which the rule says what a part of its value is
  module _ {C : Type 0} (part : C → A) {r : Result C TransferError} where
    pub read_goes : {v : C} → mapped part r ≡ m → r ≡ Ok v → x ≡ k (part v) → x ≡ after m k
    unfolding mapped
    read_goes p q h = after_goes p (rw q) h

    pub read_hands : {e : TransferError} → mapped part r ≡ m → r ≡ Err e → IsErrAnd x (λ d. d ≡ e) → x ≡ after m k
    unfolding mapped
    read_hands p q h = after_hands p (rw q) h

pub ruleset copied = (flag_lines, after_goes, after_stops, after_hands, read_goes, read_hands, given_alike)

-- ---- a rule's answer in a stage is its list in the order of checks

module _ (A B : Type 0) where
  rule_first : (found : List TransferError) (v : A) (k : A → Result B TransferError) → after (first found (Ok v)) k ≡ first found (k v)
  unfolding after first
  rule_first [] v k = refl
  rule_first (e ∷ es) v k = refl

  pub past_rule : (checks : Checks) (v : A) (k : A → Result B TransferError) → after (decided checks (Ok v)) k ≡ first (flatten checks) (k v)
  past_rule checks v k = rw (first_of_all A checks (Ok v)) (rule_first (flatten checks) v k)

  -- what is found first goes past what follows the answer
  pub past_found : (found : List TransferError) (m : Result A TransferError) (k : A → Result B TransferError) → after (first found m) k ≡ first found (after m k)
  unfolding after first
  past_found [] m k = refl
  past_found (e ∷ es) m k = refl
