-- A section by its number, and what a copy is between, by the number that its line begins with.
use Rattle.std.specs.Prelude.{ℕ, Result, Ok, Err, eqb}
use Rattle.conditions.specs.Conditions.{pick, ◌$◌}
use Rattle.sheet_sections.specs.declared.Section.{Section}
use Rattle.sheet_sections.specs.declared.Section.TheVariants as S
use Rattle.sheet_sections.specs.declared.CopyKind.{CopyKind}
use Rattle.sheet_sections.specs.declared.CopyKind.TheVariants.{Buffers, Upload, Download, Textures, Memory}
use Rattle.sheet_sections.specs.declared.UnknownKind.{UnknownKind}

-- one of four in their order; a number that none of the first three has is that of the copies
unfoldable pub section_numbered : ℕ → Section
section_numbered n =
    pick (eqb n 0) S.Devices $
    pick (eqb n 1) S.Textures $
    pick (eqb n 2) S.Buffers $
    S.Copies

unfoldable pub kind_number : CopyKind → ℕ
kind_number Buffers = 1
kind_number Upload = 2
kind_number Download = 3
kind_number Textures = 4
kind_number Memory = 5

-- the kind that has a number; a number that none has is handed back
unfoldable pub kind_of : ℕ → Result CopyKind UnknownKind
kind_of n =
    pick (eqb n 1) (Ok Buffers) $
    pick (eqb n 2) (Ok Upload) $
    pick (eqb n 3) (Ok Download) $
    pick (eqb n 4) (Ok Textures) $
    pick (eqb n 5) (Ok Memory) $
    Err (record { 0 = n })
