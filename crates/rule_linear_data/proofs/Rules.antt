-- How the checks of linear data go on after a sum was taken apart.
-- Assumes nothing.
use Rattle.std.specs.Prelude.{Option, Some, None, Result, Ok, Err, IsErrAnd, ok_or}
use mathlib.Core.Path.{◌≡◌, sym, ap, ◌∙◌}
use mathlib.Core.Bool.{Bool, true, false}
use Prim.Native.Nat.{ℕ, ◌^◌}
use lib.Dec.{ltb}
use Rattle.conditions.specs.Conditions.{pick}
use Rattle.conditions.proofs.Rules.{flag_lines}
use Rattle.refusals.specs.declared.TransferError.TheVariants as E
use Rattle.refusals.proofs.Order.{given_alike, handed_up, no_refusal, same_refusal, same_value}
use Rattle.rule_linear_data.specs.declared.LinearData.{LinearData}
use Rattle.rule_linear_data.specs.Stages.{fitting, below_2^64}
use Rattle.refusals.specs.declared.TransferError.{TransferError}

-- a number that `?` took out of a sum, or its refusal
module _ {w : Option ℕ} {r : Result ℕ TransferError} {x : Result LinearData TransferError} (n : ℕ) (k : ℕ → Result LinearData TransferError) where
  pub whole_goes : {v : ℕ} → w ≡ fitting n → r ≡ ok_or w E.SizeOverflow → r ≡ Ok v → x ≡ k v → x ≡ below_2^64 n k
  unfolding fitting below_2^64
  whole_goes {v} p q g h = go (ltb n (2 ^ 64)) (sym g ∙ q ∙ ap (λ o. ok_or o E.SizeOverflow) p)
    where
      go : (t : Bool) → Ok v ≡ ok_or (pick t (Some n) None) E.SizeOverflow → x ≡ pick t (k n) (Err E.SizeOverflow)
      go true e = h ∙ ap k (same_value e)
      go false e = absurd (no_refusal (sym e))

  pub whole_hands : {e : TransferError} → w ≡ fitting n → r ≡ ok_or w E.SizeOverflow → r ≡ Err e → IsErrAnd x (λ d. d ≡ e) → x ≡ below_2^64 n k
  unfolding fitting below_2^64
  whole_hands {e} p q g h = go (ltb n (2 ^ 64)) (sym g ∙ q ∙ ap (λ o. ok_or o E.SizeOverflow) p)
    where
      go : (t : Bool) → Err e ≡ ok_or (pick t (Some n) None) E.SizeOverflow → x ≡ pick t (k n) (Err E.SizeOverflow)
      go true f = absurd (no_refusal f)
      go false f = handed_up x e h ∙ ap Err (same_refusal f)

pub ruleset sizes = (flag_lines, given_alike)
