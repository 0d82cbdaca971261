-- How the checks of a range go on.
-- Assumes nothing.
use Rattle.std.specs.Prelude.{Result, Ok}
use Rattle.refusals.specs.declared.TransferError.{TransferError}
use Rattle.std.proofs.Common.{◌≡◌, ℕ}
use Rattle.refusals.proofs.Order.{ordered}
use Rattle.rule_copy_range.specs.declared.CopyExtent.{CopyExtent}

-- an answer that is made of what functions gave
pub goes_on_alike : (v v' : CopyExtent) (n n' : ℕ) → v ≡ v' → n ≡ n' → ◌≡◌ {A = Result (CopyExtent × ℕ) TransferError} (Ok (v, n)) (Ok (v', n'))
goes_on_alike v v' n n' e f = cc

pub ruleset range = (ordered, goes_on_alike)
