-- An arm of the match on a refusal.
-- Assumes nothing.
use mathlib.Core.Path.{◌≡◌, sym, ap, ◌∙◌}
use Rattle.refusals.specs.declared.Refusal.{Refusal}
use Rattle.refusals.specs.declared.TransferError.{TransferError}
use Rattle.refusals.specs.Numbers.{numbers_of}

-- the variant that it is, what the arm made, and the numbers of that variant
pub arm : (e variant : TransferError) (made numbers : Refusal) → e ≡ variant → made ≡ numbers → numbers ≡ numbers_of variant → made ≡ numbers_of e
arm e variant made numbers told m n = m ∙ n ∙ sym (ap numbers_of told)
