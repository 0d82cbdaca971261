-- How an order of checks goes on after a check that a call made and `?` took apart.
-- Assumes nothing.
use Rattle.std.specs.Prelude.{Result, Ok, Err, IsErrAnd}
use mathlib.Core.Path.{◌≡◌, sym, ◌∙◌}
use mathlib.Core.List.{List, [], ◌∷◌}
use Rattle.refusals.specs.declared.TransferError.{TransferError}
use Rattle.refusals.specs.Order.{first, decided}
use Rattle.refusals.proofs.Order.{clear, found_first, handed_up}

module _ {R S : Type 0} {x : Result S TransferError} {r : Result R TransferError} (found : List TransferError) (v : R) (rest : Result S TransferError) where
  pub check_passes : {w : R} → r ≡ decided (found ∷ []) (Ok v) → r ≡ Ok w → (w ≡ v → x ≡ rest) → x ≡ first found rest
  unfolding decided first
  check_passes {w} p q k = let passed = clear R v found w (sym q ∙ p) in rw passed.0 (k passed.1)

  pub check_hands : {e : TransferError} → r ≡ decided (found ∷ []) (Ok v) → r ≡ Err e → IsErrAnd x (λ d. d ≡ e) → x ≡ first found rest
  unfolding decided
  check_hands {e} p q h = handed_up x e h ∙ sym (found_first R v found e (sym q ∙ p) S rest)
