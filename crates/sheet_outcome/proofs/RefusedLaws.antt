-- Going through the copies until one is refused.
-- Assumes nothing.
use Rattle.std.specs.Prelude.{Result, Ok, Err}
use Rattle.std.specs.Result.{is_err}
use mathlib.Core.Path.{◌≡◌, refl}
use mathlib.Core.Bool.{Bool, true, false, ◌||◌}
use mathlib.Core.List.{List}
use Prim.Native.Nat.{ℕ, suc, ◌+◌, ◌-◌, ◌≤◌, ◌<◌}
use native.Mathlib.Omega.{arith}
use Rattle.records.specs.declared.Device.{Device}
use Rattle.sheet_fields.specs.declared.Line.{Line}
use Rattle.sheet_sections.specs.Rows.{copies, section_line}
use Rattle.sheet_copies.specs.CopyLines.{line_planned}
use Rattle.sheet_copies.specs.Answers.{answer_at}
use Rattle.sheet_outcome.specs.Outcome.{is_refused, any_refused}
use Rattle.copy_kinds.specs.declared.Ranges.{Ranges}
use Rattle.plan_kinds.specs.declared.Plan.{Plan}
use Rattle.refusals.specs.declared.TransferError.{TransferError}

-- an answer that is a refusal
refused : (a : Result (Plan × Ranges) TransferError) → is_err a ≡ is_refused a
unfolding is_refused
refused (Ok (p, r)) = refl
refused (Err e) = refl

module _ (s ts bs : List ℕ) (device : Device) where
  module _ (count i at : ℕ) (l : Line) (a : Result (Plan × Ranges) TransferError) (t : Bool) (left : i < count)
      (line : l ≡ section_line s copies at) (answer : a ≡ line_planned s ts bs device l) (test : t ≡ is_err a) where
    step : any_refused s ts bs device (count - i) at ≡ (t || any_refused s ts bs device (count - (i + 1)) l.next)
    unfolding any_refused answer_at
    step = let p : count - i ≡ suc (count - (i + 1)) = omega arith in rw (p, test, refused a, answer, line)

    pub refused_here : t ≡ true → true ≡ any_refused s ts bs device (count - i) at
    refused_here e = rw (step, e)

    pub refused_on : t ≡ false → any_refused s ts bs device (count - (i + 1)) l.next ≡ any_refused s ts bs device (count - i) at
    refused_on e = rw (step, e)

  pub refused_none : (count i at : ℕ) → count ≤ i → false ≡ any_refused s ts bs device (count - i) at
  unfolding any_refused
  refused_none count i at h = let z : count - i ≡ 0 = omega arith in rw z
