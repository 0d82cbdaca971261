-- What callers use of fields and lines that were read in place of how they were read.
use Rattle.std.specs.Prelude.{◌≡◌, true, false, List, ℕ, Option, None, Some, IsSomeAnd, ◌≤◌, ◌<◌, length, get_or}
use Rattle.sheet_fields.specs.declared.FieldKind.{FieldKind}
use Rattle.sheet_fields.specs.declared.FieldKind.TheVariants.{Word}
use Rattle.sheet_fields.specs.declared.Line.{Line}
use Rattle.sheet_fields.specs.declared.Rule.{Rule}
use Rattle.sheet_fields.specs.Codes.{rule_of}
use Rattle.sheet_fields.specs.Field.{field_of}
use Rattle.sheet_fields.specs.Line.{line_values, line_of}

-- a value that is there
abbrev pub Within : Rule → ℕ → Type 0
Within rule v = (rule.least ≤ v) × (v ≤ rule.most)

-- one that is not, where it may be absent
abbrev pub Absent : Rule → Type 0
Absent rule = rule.dash ≡ true

-- either
abbrev pub Allowed : Rule → Option ℕ → Type 0
Allowed rule (Some v) = Within rule v
Allowed rule None = Absent rule

pub record FieldLaws : Type 0 where
  pub within : (s : List ℕ) (at : ℕ) (kind : FieldKind) (sep v n : ℕ) → field_of s at kind sep ≡ Some (record { value = Some v; next = n }) → Within (rule_of kind) v
  pub absent : (s : List ℕ) (at : ℕ) (kind : FieldKind) (sep n : ℕ) → field_of s at kind sep ≡ Some (record { value = None; next = n }) → Absent (rule_of kind)
  -- each value of a line; of a kind that has no `-` it is there
  pub value :
      (s : List ℕ) (kinds : List FieldKind) (at i : ℕ) (l : Line) → length kinds ≤ line_values → line_of s kinds at ≡ Some l → i < length kinds
      → Allowed (rule_of (get_or kinds i Word)) (get_or l.values i None)
  pub there :
      (s : List ℕ) (kinds : List FieldKind) (at i : ℕ) (l : Line) → length kinds ≤ line_values → line_of s kinds at ≡ Some l → i < length kinds
      → (rule_of (get_or kinds i Word)).dash ≡ false → IsSomeAnd (get_or l.values i None) (λ v. Within (rule_of (get_or kinds i Word)) v)
