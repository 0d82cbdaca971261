-- Whether regions were written.
-- Assumes nothing.
use Rattle.std.specs.Prelude.{◌≡◌, ℕ, Bool, true, false, Result, Ok, Err, is_ok}
use Rattle.std.specs.Result.{result_map_both}
use Rattle.std.proofs.Common.{refl, ap, ◌∙◌}
use Rattle.conditions.specs.Conditions.{pick}
use Rattle.refusals.specs.declared.TransferError.{TransferError}
use Rattle.refusals.specs.declared.TransferError.TheVariants.{RegionSliceTooShort}
use Rattle.plan_kinds.specs.declared.Plan.{Plan}
use Rattle.plan_kinds.specs.Regions.{left_of}
use Rattle.plan_writer.specs.Writing.{fits, behind_all, written_of}

of_plan : {P : Type 0} (held : P → Plan) (r : Result P TransferError) → is_ok r ≡ is_ok (result_map_both held (λ e. e) r)
of_plan held (Ok x) = refl
of_plan held (Err e) = refl

of_written : (p : Plan) (n : ℕ) → is_ok (written_of p n) ≡ fits p n
unfolding written_of
of_written p n = by (fits p n)
  where
    by : (t : Bool) → is_ok (pick t (Ok (behind_all (left_of p) p)) (Err RegionSliceTooShort)) ≡ t
    by true = refl
    by false = refl

pub written : {P : Type 0} (held : P → Plan) (r : Result P TransferError) (p : Plan) (n : ℕ) → result_map_both held (λ e. e) r ≡ written_of p n → is_ok r ≡ fits p n
written held r p n e = of_plan held r ∙ ap is_ok e ∙ of_written p n
