-- Lines of the four sections: the fields that each has, and many of them one after another.
use Rattle.std.specs.Prelude.{List, [], ◌∷◌, ℕ, zero, suc, eqb, Option, Result, Ok, Err, unwrap_or, ok_or, option_and_then}
use Rattle.conditions.specs.Conditions.{pick, ◌$◌}
use Rattle.sheet_fields.specs.declared.FieldKind.{FieldKind}
use Rattle.sheet_fields.specs.declared.FieldKind.TheVariants.{Word, Long, WordOrDash, LongOrDash, Aspect, Fact, CopyKind}
use Rattle.sheet_fields.specs.declared.Line.{Line}
use Rattle.sheet_fields.specs.Field.{field_of}
use Rattle.sheet_fields.specs.Line.{no_line, line_of}
use Rattle.sheet_sections.specs.declared.Section.{Section}
use Rattle.sheet_sections.specs.declared.Section.TheVariants.{Devices, Textures, Buffers, Copies}
use Rattle.sheet_sections.specs.declared.IllAt.{IllAt}

-- the sections in their order
abbrev pub devices : Section
devices = Devices

abbrev pub textures : Section
textures = Textures

abbrev pub buffers : Section
buffers = Buffers

abbrev pub copies : Section
copies = Copies

-- two facts
unfoldable pub device_kinds : List FieldKind
device_kinds = Fact ∷ Fact ∷ []

-- the eight numbers of a texture record
unfoldable pub texture_kinds : List FieldKind
texture_kinds = Word ∷ Word ∷ Word ∷ Word ∷ Word ∷ Word ∷ Word ∷ Word ∷ []

-- size, usage
unfoldable pub buffer_kinds : List FieldKind
buffer_kinds = Long ∷ Word ∷ []

-- kind, source, offset, destination, offset, size
unfoldable pub buffer_copy_kinds : List FieldKind
buffer_copy_kinds = CopyKind ∷ Word ∷ Long ∷ Word ∷ Long ∷ LongOrDash ∷ []

-- what the bytes are in: a block of memory by its length, a buffer by its index
unfoldable pub linear_kind : ℕ → FieldKind
linear_kind kind = pick (eqb kind 5) Long Word

-- kind, buffer or length, offset, bytes, rows; texture, level, x, y, z, aspect; width, height, depth
unfoldable pub buffer_texture_kinds : FieldKind → List FieldKind
buffer_texture_kinds linear =
    CopyKind ∷ linear ∷ Long ∷ WordOrDash ∷ WordOrDash
    ∷ Word ∷ Word ∷ Word ∷ Word ∷ Word ∷ Aspect
    ∷ Word ∷ Word ∷ Word ∷ []

-- kind; texture, level, x, y, z, aspect, twice; width, height, depth
unfoldable pub texture_copy_kinds : List FieldKind
texture_copy_kinds =
    CopyKind
    ∷ Word ∷ Word ∷ Word ∷ Word ∷ Word ∷ Aspect
    ∷ Word ∷ Word ∷ Word ∷ Word ∷ Word ∷ Aspect
    ∷ Word ∷ Word ∷ Word ∷ []

-- by the copy's kind; a line whose kind is ill is ill by any of them
unfoldable pub copy_kinds : ℕ → List FieldKind
copy_kinds kind =
    pick (eqb kind 1) buffer_copy_kinds $
    pick (eqb kind 4) texture_copy_kinds $
    buffer_texture_kinds (linear_kind kind)

-- the kind that a copy's line begins with, a space after it; 0 where none stands there
unfoldable pub kind_at : List ℕ → ℕ → ℕ
kind_at s at = unwrap_or (option_and_then (λ f. f.value) (field_of s at CopyKind 32)) 0

-- the fields of a section's line at a place
unfoldable pub kinds_of : List ℕ → Section → ℕ → List FieldKind
kinds_of s Devices at = device_kinds
kinds_of s Textures at = texture_kinds
kinds_of s Buffers at = buffer_kinds
kinds_of s Copies at = copy_kinds (kind_at s at)

-- the line of a section at a place, if one is there
unfoldable pub row_of : List ℕ → Section → ℕ → Option Line
row_of s section at = line_of s (kinds_of s section at) at

-- the same where one is known to be
unfoldable pub section_line : List ℕ → Section → ℕ → Line
section_line s section at = unwrap_or (row_of s section at) no_line

-- line k of those that begin at a place
unfoldable pub row_at : List ℕ → Section → ℕ → ℕ → Option Line
row_at s section zero at = row_of s section at
row_at s section (suc k) at = row_at s section k (section_line s section at).next

-- where n lines begin, the first at a place
unfoldable pub places_of : List ℕ → Section → ℕ → ℕ → List ℕ
places_of s section zero at = []
places_of s section (suc n) at = at ∷ places_of s section n (section_line s section at).next

-- what is read goes on, and the first ill line ends it
infixl 10 ◌>>=◌
abbrev pub ◌>>=◌ : {A B : Type 0} → Result A IllAt → (A → Result B IllAt) → Result B IllAt
Ok x >>= rest = rest x
Err e >>= rest = Err e

abbrev pub ill_at : ℕ → IllAt
ill_at at = record { 0 = at }

-- n lines from a place on: the place after them, or that of the first ill one
unfoldable pub rows_of : List ℕ → Section → ℕ → ℕ → Result ℕ IllAt
rows_of s section zero at = Ok at
rows_of s section (suc n) at = do
  l ← ok_or (row_of s section at) (ill_at at)
  rows_of s section n l.next
