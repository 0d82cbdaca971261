-- What the region writer leaves of a plan in a lent slice is the regions that asking the plan gives.
use Rattle.std.specs.Prelude.{ℕ, ◌≤◌, ◌<◌, ◌≡◌, List, [], length, Err, IsOkAnd}
use Rattle.refusals.specs.declared.TransferError.TheVariants.{RegionSliceTooShort}
use Rattle.refusals.specs.Numbers.{numbers_of}
use Rattle.plan_kinds.specs.declared.Plan.{Plan}
use Rattle.plan_writer.specs.Writing.{slots_of, written_of}
use Rattle.claim_region_output.specs.Asking.{Region, Gives}
use Rattle.claim_region_output.specs.Numbers.{slots, written}

-- where there is room, the regions' numbers are in the slice and the plan handed back has none left; else nothing changes
pub record Writes (p : Plan) (rs : List Region) (slice : List ℕ) : Type 0 where
  pub room : length (slots rs) ≤ length slice → (slots_of p slice ≡ written rs slice) × IsOkAnd (written_of p (length slice)) (λ q. Gives q [])
  pub short : length slice < length (slots rs) → (slots_of p slice ≡ slice) × (written_of p (length slice) ≡ Err RegionSliceTooShort) × ((numbers_of RegionSliceTooShort).number ≡ 38)

abbrev pub EveryPlanWrites : Type 0
EveryPlanWrites = (p : Plan) (rs : List Region) → Gives p rs → (slice : List ℕ) → Writes p rs slice
