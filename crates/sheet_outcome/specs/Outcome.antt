-- What becomes of a sheet as a whole, from its bytes.
use Rattle.std.specs.Prelude.{Bool, true, false, ◌||◌, List, ℕ, zero, suc, Result, Ok, Err}
use Rattle.conditions.specs.Conditions.{pick}
use Rattle.records.specs.declared.Device.{Device}
use Rattle.sheet_sections.specs.declared.Parts.{Parts}
use Rattle.sheet_sections.specs.declared.SheetError.{SheetError}
use Rattle.sheet_sections.specs.Rows.{copies, section_line}
use Rattle.sheet_sections.specs.Sheet.{sheet_of}
use Rattle.sheet_copies.specs.Answers.{texture_places, buffer_places, device_at, answer_at}
use Rattle.sheet_outcome.specs.declared.Outcome.{Outcome}
use Rattle.sheet_outcome.specs.declared.Outcome.TheVariants.{Accepted, Refused, Ill}
use Rattle.copy_kinds.specs.declared.Ranges.{Ranges}
use Rattle.plan_kinds.specs.declared.Plan.{Plan}
use Rattle.refusals.specs.declared.TransferError.{TransferError}

-- the number by which a program says so
unfoldable pub status_of : Outcome → ℕ
status_of Accepted = 0
status_of Refused = 1
status_of Ill = 2

unfoldable pub is_refused : Result (Plan × Ranges) TransferError → Bool
is_refused (Ok (p, r)) = false
is_refused (Err e) = true

-- one of n copies is refused, whose lines begin at a place; ts and bs are where texture and buffer lines begin
module _ (s ts bs : List ℕ) (device : Device) where
  unfoldable pub any_refused : ℕ → ℕ → Bool
  any_refused zero at = false
  any_refused (suc n) at = is_refused (answer_at s ts bs device at) || any_refused n (section_line s copies at).next

unfoldable pub outcome_from : List ℕ → Result Parts SheetError → Outcome
outcome_from s (Ok p) =
    pick (any_refused s (texture_places s p) (buffer_places s p) (device_at s p) p.copies.count p.copies.first) Refused Accepted
outcome_from s (Err e) = Ill

unfoldable pub outcome_of : List ℕ → Outcome
outcome_of s = outcome_from s (sheet_of s)
