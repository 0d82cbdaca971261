-- The regions left of a plan in a lent slice.
use Rattle.std.specs.Prelude.{◌≡◌, Bool, List, [], ◌++◌, ℕ, zero, suc, ◌+◌, ◌*◌, ◌<◌, leb, length, get_or, Result, Ok, Err}
use Rattle.std.proofs.lemmas.List.Edits.{sets}
use Rattle.conditions.specs.Conditions.{pick}
use Rattle.refusals.specs.declared.TransferError.{TransferError}
use Rattle.refusals.specs.declared.TransferError.TheVariants.{RegionSliceTooShort}
use Rattle.plan_kinds.specs.declared.Plan.{Plan}
use Rattle.plan_kinds.specs.Regions.{left_of, fields_of, region_numbers, behind_of}

-- n regions' numbers, region after region
unfoldable pub numbers_from : ℕ → Plan → List ℕ
numbers_from zero p = []
numbers_from (suc n) p = region_numbers p ++ numbers_from n (behind_of p)

unfoldable pub numbers_left : Plan → List ℕ
numbers_left p = numbers_from (left_of p) p

-- the plan after n regions
unfoldable pub behind_all : ℕ → Plan → Plan
behind_all zero p = p
behind_all (suc n) p = behind_all n (behind_of p)

-- regions left × numbers each
unfoldable pub fits : Plan → ℕ → Bool
fits p room = leb (left_of p * fields_of p) room

-- every number of the slice afterwards
unfoldable pub slots_of : Plan → List ℕ → List ℕ
slots_of p slots = pick (fits p (length slots)) (sets slots 0 (numbers_left p)) slots

-- the plan after them; 38 where the slice is too short
unfoldable pub written_of : Plan → ℕ → Result Plan TransferError
written_of p room = pick (fits p room) (Ok (behind_all (left_of p) p)) (Err RegionSliceTooShort)

-- field f of region k is number k × fields + f, whatever the number of fields
abbrev pub EveryEntry : Type 0
EveryEntry =
    (p : Plan) (k f : ℕ) → k < left_of p → f < fields_of p
    → get_or (numbers_left p) (k * fields_of p + f) 0 ≡ get_or (region_numbers (behind_all k p)) f 0
