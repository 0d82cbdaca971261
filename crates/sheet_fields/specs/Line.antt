-- A line of fields.
use Rattle.std.specs.Prelude.{List, [], ◌∷◌, ℕ, Option, None, Some, eqb, length, replicate}
use Rattle.std.proofs.lemmas.List.Edits.{sets}
use Rattle.conditions.specs.Conditions.{pick}
use Rattle.sheet_fields.specs.declared.Field.{Field}
use Rattle.sheet_fields.specs.declared.FieldKind.{FieldKind}
use Rattle.sheet_fields.specs.declared.Line.{Line}
use Rattle.sheet_fields.specs.Field.{field_of}

-- how many values a line has room for
abbrev pub line_values : ℕ
line_values = 16

-- fields that were read: their values, and the place after them
pub record Fields : Type 0 where
  pub found : List (Option ℕ)
  pub after : ℕ

unfoldable pub consed : Option ℕ → Option Fields → Option Fields
consed v None = None
consed v (Some f) = Some (record { found = v ∷ f.found; after = f.after })

unfoldable pub after_field : Option Field → (Option ℕ → ℕ → Option Fields) → Option Fields
after_field (Some f) rest = rest f.value f.next
after_field None rest = None

-- what follows a field: a newline if no other is left, else a space
unfoldable pub separator_of : ℕ → ℕ
separator_of left = pick (eqb left 1) 10 32

-- fields by their kinds, from a place on
unfoldable pub fields_in : List ℕ → List FieldKind → ℕ → Option Fields
fields_in s [] at = Some (record { found = []; after = at })
fields_in s (k ∷ ks) at =
    after_field (field_of s at k (separator_of (length (k ∷ ks)))) λ v next.
    consed v (fields_in s ks next)

-- as a line: the values stored among others from an index on
unfoldable pub line_with : List (Option ℕ) → ℕ → Option Fields → Option Line
line_with vs i None = None
line_with vs i (Some f) = Some (record { next = f.after; values = sets vs i f.found })

-- what is read where no line is
unfoldable pub no_line : Line
no_line = record { next = 0; values = replicate line_values (Some 0) }

-- after a line's own values are zeros
unfoldable pub line_of : List ℕ → List FieldKind → ℕ → Option Line
line_of s kinds at = line_with (replicate line_values (Some 0)) 0 (fields_in s kinds at)
