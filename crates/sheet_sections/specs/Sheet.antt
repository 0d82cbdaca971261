-- The sheet: four sections, each after its count, and nothing after them.
use Rattle.std.specs.Prelude.{List, [], ◌∷◌, ℕ, ◌+◌, Result, Ok, Err, None, unwrap_or, ok_or, ltb, ◌==◌, length, take, count_by, get_or}
use Rattle.conditions.specs.Conditions.{stop_if, ◌$◌}
use Rattle.sheet_fields.specs.declared.FieldKind.TheVariants.{Count}
use Rattle.sheet_fields.specs.Line.{line_of}
use Rattle.sheet_sections.specs.declared.Section.{Section}
use Rattle.sheet_sections.specs.declared.Section.TheVariants.{Devices, Textures, Buffers, Copies}
use Rattle.sheet_sections.specs.declared.IllAt.{IllAt}
use Rattle.sheet_sections.specs.declared.Part.{Part}
use Rattle.sheet_sections.specs.declared.Parts.{Parts}
use Rattle.sheet_sections.specs.declared.SheetError.{SheetError}
use Rattle.sheet_sections.specs.declared.SheetError.TheVariants.{TooLong, IllLine}
use Rattle.sheet_sections.specs.Rows.{◌>>=◌, ill_at, devices, textures, buffers, copies, rows_of}

-- one device, up to 64 textures, up to 64 buffers, up to 256 copies
unfoldable pub least_of : Section → ℕ
least_of Devices = 1
least_of Textures = 0
least_of Buffers = 0
least_of Copies = 0

unfoldable pub most_of : Section → ℕ
most_of Devices = 1
most_of Textures = 64
most_of Buffers = 64
most_of Copies = 256

-- a section whose count stands at a place, its lines after it: a count out of bounds makes the count's own line ill
unfoldable pub section_of_count : List ℕ → Section → ℕ → ℕ → ℕ → Result Part IllAt
section_of_count s section at count first =
    stop_if (ltb count (least_of section)) (Err (ill_at at)) $
    stop_if (ltb (most_of section) count) (Err (ill_at at)) $
    (rows_of s section count first >>= λ next. Ok (record { count = count; first = first; next = next }))

unfoldable pub section_of : List ℕ → Section → ℕ → Result Part IllAt
section_of s section at = do
  line ← ok_or (line_of s (Count ∷ []) at) (ill_at at)
  section_of_count s section at (unwrap_or (get_or line.values 0 None) 0) line.next

unfoldable pub found_of : List ℕ → Result Parts IllAt
found_of s = do
  d ← section_of s devices 0
  t ← section_of s textures d.next
  b ← section_of s buffers t.next
  c ← section_of s copies b.next
  stop_if (ltb c.next (length s)) (Err (ill_at c.next)) (Ok (record { devices = d; textures = t; buffers = b; copies = c }))

-- the newlines among the first n bytes
unfoldable pub newlines : ℕ → List ℕ → ℕ
newlines n t = count_by (λ b. b == 10) (take n t)

-- lines are numbered from 1: the newlines before the ill one, and it
unfoldable pub sheet_from : List ℕ → Result Parts IllAt → Result Parts SheetError
sheet_from s (Ok p) = Ok p
sheet_from s (Err e) = Err (IllLine (1 + newlines e.0 s))

-- the most bytes of a sheet
abbrev pub sheet_bytes : ℕ
sheet_bytes = 65536

-- a sheet is too long whatever its lines are
unfoldable pub sheet_of : List ℕ → Result Parts SheetError
sheet_of s =
    stop_if (ltb sheet_bytes (length s)) (Err TooLong) $
    sheet_from s (found_of s)

-- the number that is said of an ill sheet
unfoldable pub line_number : SheetError → ℕ
line_number TooLong = 0
line_number (IllLine n) = n
