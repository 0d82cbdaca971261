-- The `r` lines that the listing prints of an accepted copy are the regions that asking its plan gives, and its count is theirs.
use Prim.{Unit}
use Rattle.std.specs.Prelude.{ℕ, zero, suc, ◌-◌, ◌^◌, ◌≡◌, Ok, Err, List, [], ◌∷◌, ◌++◌, Result}
use Rattle.refusals.specs.declared.TransferError.{TransferError}
use Rattle.plan_kinds.specs.declared.Plan.{Plan}
use Rattle.copy_kinds.specs.declared.Ranges.{Ranges}
use Rattle.sheet_sections.specs.declared.Parts.{Parts}
use Rattle.sheet_sections.specs.declared.SheetError.TheVariants.{TooLong, IllLine}
use Rattle.sheet_sections.specs.Rows.{devices, textures, buffers, copies, section_line, places_of}
use Rattle.sheet_sections.specs.Sheet.{sheet_of}
use Rattle.sheet_records.specs.Records.{device_of}
use Rattle.sheet_copies.specs.CopyLines.{line_planned}
use Rattle.sheet_listing.specs.Listing.{copy_answer, listing_of}
use Rattle.claim_region_output.specs.Asking.{Region, Gives}
use Rattle.claim_region_output.specs.Numbers.{given, numbers, Below}
use Rattle.claim_region_output.specs.Text.{line, accepted, refused}

-- ---- a copy

-- none is the one that stands for absent
abbrev pub Told : List Region → Type 0
Told [] = Unit {0}
Told (r ∷ rs) = Below (2 ^ 64 - 1) (numbers r) × Told rs

abbrev pub EveryPlanPrints : Type 0
EveryPlanPrints =
    (p : Plan) (rs : List Region) → Gives p rs → Told rs
    → (k : ℕ) (ranges : Ranges) → copy_answer k (Ok (p, ranges)) ≡ accepted k p ranges rs

-- ---- a sheet

-- the text of copies from number k on, by their answers
pub data Prints : ℕ → List (Result (Plan × Ranges) TransferError) → List ℕ → Type 0 where
  none : {k : ℕ} → Prints k [] []
  plan :
      {k : ℕ} {p : Plan} {ranges : Ranges} {rs : List Region} {more : List (Result (Plan × Ranges) TransferError)} {rest : List ℕ} → Gives p rs → Prints (suc k) more rest
      → Prints k (Ok (p, ranges) ∷ more) (accepted k p ranges rs ++ rest)
  refusal : {k : ℕ} {e : TransferError} {more : List (Result (Plan × Ranges) TransferError)} {rest : List ℕ} → Prints (suc k) more rest → Prints k (Err e ∷ more) (refused k e ++ rest)

-- the answers to n copy lines of a sheet s, the first at a place
module _ (s : List ℕ) (p : Parts) where
  unfoldable pub answers : ℕ → ℕ → List (Result (Plan × Ranges) TransferError)
  answers zero at = []
  answers (suc n) at =
      line_planned s (places_of s textures p.textures.count p.textures.first) (places_of s buffers p.buffers.count p.buffers.first)
      (device_of (section_line s devices p.devices.first)) (section_line s copies at)
      ∷ answers n (section_line s copies at).next

-- the listing is the text of its copies, which count from 0; or `sheet n` alone, where a sheet that is too long has the number 0
pub record Lists (s : List ℕ) : Type 0 where
  pub good : (p : Parts) → sheet_of s ≡ Ok p → Prints 0 (answers s p p.copies.count p.copies.first) (listing_of s)
  pub ill : (n : ℕ) → sheet_of s ≡ Err (IllLine n) → listing_of s ≡ line "sheet" (given n ∷ [])
  pub too_long : sheet_of s ≡ Err TooLong → listing_of s ≡ line "sheet" (given 0 ∷ [])

abbrev pub EverySheetLists : Type 0
EverySheetLists = (s : List ℕ) → Lists s
