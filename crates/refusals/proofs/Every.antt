-- What holds of every refusal that an order of checks can find holds of its answer.
-- Assumes nothing.
use Rattle.std.specs.Prelude.{Ok, Err}
use mathlib.Core.Path.{◌≡◌, refl, sym}
use mathlib.Core.Bool.{Bool, true, false}
use mathlib.Core.List.{List, [], ◌∷◌, flatten}
use Rattle.refusals.specs.declared.TransferError.{TransferError}
use Rattle.refusals.specs.Order.{Checks, refuse_if, first, decided}
use Rattle.refusals.proofs.Order.{no_refusal, same_refusal}

module _ (Of : TransferError → Type 0) where
  -- of all refusals of a list, and of the lists of an order
  abbrev pub AllOf : List TransferError → Type 0
  AllOf [] = Unit {0}
  AllOf (e ∷ es) = Of e × AllOf es

  abbrev pub AllIn : Checks → Type 0
  AllIn [] = Unit {0}
  AllIn (found ∷ checks) = AllOf found × AllIn checks

  -- a test finds its refusal only where it holds
  pub all_where : (t : Bool) (e : TransferError) → (t ≡ true → Of e) → AllOf (refuse_if t e)
  unfolding refuse_if
  all_where true e h = (h refl, tt)
  all_where false e h = tt

  pub all_if : (t : Bool) (e : TransferError) → Of e → AllOf (refuse_if t e)
  all_if t e h = all_where t e (λ _. h)

  -- one that is off finds nothing
  pub all_off : (e : TransferError) → AllOf (refuse_if false e)
  unfolding refuse_if
  all_off e = tt

  joined : (found : List TransferError) (checks : Checks) → AllOf found → AllOf (flatten checks) → AllOf (flatten (found ∷ checks))
  unfolding flatten
  joined [] checks h rest = rest
  joined (e ∷ es) checks h rest = (h.0, joined es checks h.1 rest)

  pub all_flat : (checks : Checks) → AllIn checks → AllOf (flatten checks)
  unfolding flatten
  all_flat [] h = tt
  all_flat (found ∷ checks) h = joined found checks h.0 (all_flat checks h.1)

  -- so of the first that an order finds
  pub first_of : {R : Type 0} (v : R) (checks : Checks) (e : TransferError) → AllIn checks → decided checks (Ok v) ≡ Err e → Of e
  unfolding decided first
  first_of v [] e all h = absurd (no_refusal (sym h))
  first_of v ([] ∷ checks) e all h = first_of v checks e all.1 h
  first_of v ((a ∷ es) ∷ checks) e all h = rw (← same_refusal h) all.0.0
