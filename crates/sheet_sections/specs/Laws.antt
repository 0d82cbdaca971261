-- What callers use of a sheet that was read.
use Rattle.std.specs.Prelude.{◌≡◌, List, ℕ, Ok, IsSome, ◌≤◌, ◌<◌, length, get_or}
use Rattle.std.proofs.lemmas.List.Edits.{sets}
use Rattle.sheet_sections.specs.declared.Part.{Part}
use Rattle.sheet_sections.specs.declared.Parts.{Parts}
use Rattle.sheet_sections.specs.declared.Section.{Section}
use Rattle.sheet_sections.specs.Rows.{devices, textures, buffers, copies, row_of, row_at, places_of}
use Rattle.sheet_sections.specs.Sheet.{least_of, most_of, sheet_of}

-- a section that is well: its count is allowed, and each of its lines is there
pub record GoodPart (s : List ℕ) (section : Section) (p : Part) : Type 0 where
  pub least : least_of section ≤ p.count
  pub most : p.count ≤ most_of section
  pub rows : (k : ℕ) → k < p.count → IsSome (row_at s section k p.first)

pub record GoodParts (s : List ℕ) (p : Parts) : Type 0 where
  pub devices : GoodPart s devices p.devices
  pub textures : GoodPart s textures p.textures
  pub buffers : GoodPart s buffers p.buffers
  pub copies : GoodPart s copies p.copies

pub record SheetLaws : Type 0 where
  pub parts : (s : List ℕ) (p : Parts) → sheet_of s ≡ Ok p → GoodParts s p
  -- the line at the place that was found for it
  pub found_line : (s : List ℕ) (section : Section) (n first k : ℕ) → k < n → row_of s section (get_or (places_of s section n first) k 0) ≡ row_at s section k first
  -- the same where the places were stored
  pub placed :
      (s : List ℕ) (section : Section) (n first k : ℕ) (l : List ℕ) → k < n → n ≤ length l
      → row_of s section (get_or (sets l 0 (places_of s section n first)) k 0) ≡ row_at s section k first
