-- The whole listing of a sheet, from its bytes; and the state between one piece of it and the next.
use Rattle.std.specs.Prelude.{◌≡◌, Result, Ok, Err, List, [], ◌++◌, ℕ, zero, suc, ◌-◌, ◌≤◌, ◌<◌, length, ltb, Option, Some, None}
use Rattle.std.specs.Bool.{then_some}
use Rattle.conditions.specs.Conditions.{pick}
use Rattle.records.specs.declared.Device.{Device}
use Rattle.plan_kinds.specs.declared.Plan.{Plan}
use Rattle.plan_kinds.specs.Regions.{left_of, behind_of}
use Rattle.sheet_sections.specs.declared.Parts.{Parts}
use Rattle.sheet_sections.specs.declared.SheetError.{SheetError}
use Rattle.sheet_sections.specs.Rows.{copies, section_line}
use Rattle.sheet_sections.specs.Sheet.{sheet_of, line_number}
use Rattle.sheet_copies.specs.Answers.{starts_of, texture_places, buffer_places, device_at, answer_at}
use Rattle.slices.specs.Put.{Put}
use Rattle.sheet_listing.specs.declared.CopiesLeft.{CopiesLeft}
use Rattle.sheet_listing.specs.declared.Listing.{Listing}
use Rattle.sheet_listing.specs.declared.Listing.TheVariants.{Ill, Good, Ended}
use Rattle.sheet_lines.specs.Lines.{piece_bytes, sheet_text, answer_text, region_text}
use Rattle.copy_kinds.specs.declared.Ranges.{Ranges}
use Rattle.refusals.specs.declared.TransferError.{TransferError}

-- ---- the whole

-- n regions' lines
unfoldable pub regions_text : ℕ → Plan → List ℕ
regions_text zero p = []
regions_text (suc n) p = region_text p ++ regions_text n (behind_of p)

-- the lines of the regions that are left of a plan, where there is one
unfoldable pub regions_left : Option Plan → List ℕ
regions_left (Some p) = regions_text (left_of p) p
regions_left None = []

-- a refused copy has no plan
unfoldable pub plan_answered : Result (Plan × Ranges) TransferError → Option Plan
plan_answered (Ok (p, r)) = Some p
plan_answered (Err e) = None

-- a copy's answer, then its regions
unfoldable pub copy_answer : ℕ → Result (Plan × Ranges) TransferError → List ℕ
copy_answer k a = answer_text k a ++ regions_left (plan_answered a)

-- the last n of so many copies, whose lines begin at a place; ts and bs are where texture and buffer lines begin
module _ (s ts bs : List ℕ) (device : Device) (total : ℕ) where
  unfoldable pub copies_text : ℕ → ℕ → List ℕ
  copies_text zero at = []
  copies_text (suc n) at = copy_answer (total - suc n) (answer_at s ts bs device at) ++ copies_text n (section_line s copies at).next

unfoldable pub listing_from : List ℕ → Result Parts SheetError → List ℕ
listing_from s (Ok p) =
    copies_text s (texture_places s p) (buffer_places s p) (device_at s p) p.copies.count p.copies.count p.copies.first
listing_from s (Err e) = sheet_text (line_number e)

-- the listing of a sheet
unfoldable pub listing_of : List ℕ → List ℕ
listing_of s = listing_from s (sheet_of s)

-- ---- piece by piece

-- a plan of which regions are left
unfoldable pub plan_left : Option Plan → Option Plan
plan_left (Some p) = then_some (ltb 0 (left_of p)) p
plan_left None = None

unfoldable pub state_with : CopiesLeft → ℕ → ℕ → Option Plan → CopiesLeft
state_with c left at plan = record { total = c.total; left = left; at = at; plan = plan }

module _ (s ts bs : List ℕ) (device : Device) where
  -- the answer to the next copy
  unfoldable pub answer_of : CopiesLeft → Result (Plan × Ranges) TransferError
  answer_of c = answer_at s ts bs device c.at

  -- what is put next, by the plan of which regions are left: a region's line; a copy's answer; nothing
  unfoldable pub copies_piece : CopiesLeft → Option Plan → List ℕ
  copies_piece c (Some p) = region_text p
  copies_piece c None = pick (ltb 0 c.left) (answer_text (c.total - c.left) (answer_of c)) []

  unfoldable pub piece_of : CopiesLeft → List ℕ
  piece_of c = copies_piece c (plan_left c.plan)

  -- the state after it
  unfoldable pub copies_next : CopiesLeft → Option Plan → CopiesLeft
  copies_next c (Some p) = state_with c c.left c.at (Some (behind_of p))
  copies_next c None = pick (ltb 0 c.left) (state_with c (c.left - 1) (section_line s copies c.at).next (plan_answered (answer_of c))) c

  unfoldable pub next_of : CopiesLeft → CopiesLeft
  next_of c = copies_next c (plan_left c.plan)

  -- all that is left
  unfoldable pub text_left : CopiesLeft → List ℕ
  text_left c = regions_left c.plan ++ copies_text s ts bs device c.total c.left c.at

  module _ (c : CopiesLeft) (l m : List ℕ) where
    -- the next piece is put at the start; it is not empty
    pub record Steps (count : ℕ) (after : CopiesLeft) : Type 0 where
      pub put : Put l m 0 (piece_of c) count
      pub some : 0 < count
      pub fits : count ≤ length l
      pub state : after ≡ next_of c

    -- nothing is put: nothing is left, or there is no room for a piece
    abbrev pub Stops : Type 0
    Stops = (piece_bytes ≤ length l → text_left c ≡ []) × (m ≡ l)

-- all that is left of a listing
unfoldable pub rest_of : List ℕ → Listing → List ℕ
rest_of s (Ill line) = sheet_text line
rest_of s (Good g c) = text_left s (starts_of g.textures) (starts_of g.buffers) g.device c
rest_of s Ended = []

-- some of what was left is put at a slice's start, and nothing after it changes
pub record Fills (l m : List ℕ) (count : ℕ) (before after : List ℕ) : Type 0 where
  pub text : List ℕ
  pub put : Put l m 0 text count
  pub left : before ≡ text ++ after

-- nothing is put into a slice with room for a piece only where nothing is left
abbrev pub Ends : ℕ → ℕ → List ℕ → Type 0
Ends room count left = piece_bytes ≤ room → count ≡ 0 → left ≡ []

-- filling slices one after another, until nothing is left, gives the texts put, in their order, as one
pub data Gives (s : List ℕ) : Listing → List ℕ → Type 0 where
  ended : {st : Listing} → rest_of s st ≡ [] → Gives s st []
  filled :
      {st next : Listing} {l m : List ℕ} {count : ℕ} {rest : List ℕ} → (f : Fills l m count (rest_of s st) (rest_of s next))
      → Gives s next rest → Gives s st (f.text ++ rest)

-- whatever the bytes, and whatever slices are lent: where the whole listing is left, as at the start, the texts put are the listing, all
-- of it and nothing else
abbrev pub Listed : Type 0
Listed = (s text : List ℕ) (st : Listing) → rest_of s st ≡ listing_of s → Gives s st text → text ≡ listing_of s
