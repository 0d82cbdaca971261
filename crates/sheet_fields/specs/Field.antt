-- One field, on the list of the bytes that it stands among.
-- Among bytes 10 is a newline, 32 a space, 45 `-`, and 48 to 57 are the digits.
use Rattle.std.specs.Prelude.{Bool, true, false, ◌&&◌, ◌||◌, not, List, [], ◌∷◌, ℕ, ◌+◌, ◌-◌, ◌*◌, Option, None, Some, bytes_eq, leb, ltb, eqb, length, drop, get_or}
use Rattle.conditions.specs.Conditions.{pick, stop_if, ◌$◌}
use Rattle.sheet_fields.specs.declared.Field.{Field}
use Rattle.sheet_fields.specs.declared.FieldKind.{FieldKind}
use Rattle.sheet_fields.specs.declared.Rule.{Rule}
use Rattle.sheet_fields.specs.Codes.{rule_of}

-- what ends a field
unfoldable pub is_gap : ℕ → Bool
is_gap b = eqb b 32 || eqb b 10

-- the bytes up to the first gap
unfoldable pub token : List ℕ → List ℕ
token [] = []
token (b ∷ t) = pick (is_gap b) [] (b ∷ token t)

unfoldable pub is_digit : ℕ → Bool
is_digit b = leb 48 b && leb b 57

unfoldable pub all_digits : List ℕ → Bool
all_digits [] = true
all_digits (b ∷ t) = is_digit b && all_digits t

-- not empty, and no zero leads
unfoldable pub plain : List ℕ → Bool
plain [] = false
plain (b ∷ []) = true
plain (b ∷ c ∷ t) = not (eqb b 48)

-- the number of v's digits with these after them
unfoldable pub value_from : ℕ → List ℕ → ℕ
value_from v [] = v
value_from v (b ∷ t) = value_from (v * 10 + (b - 48)) t

-- a number that is not above high
unfoldable pub decimal_of : ℕ → List ℕ → Option ℕ
decimal_of high t =
    stop_if (not (plain t)) None $
    pick (all_digits t && leb (value_from 0 t) high) (Some (value_from 0 t)) None

unfoldable pub is_dash : List ℕ → Bool
is_dash t = bytes_eq t (45 ∷ [])

-- a number that is there
unfoldable pub not_below : ℕ → ℕ → Option ℕ → Option Field
not_below least next (Some v) = stop_if (ltb v least) None (Some (record { value = Some v; next = next }))
not_below least next None = None

unfoldable pub token_of : List ℕ → Rule → ℕ → Option Field
token_of t rule next =
    stop_if (rule.dash && is_dash t) (Some (record { value = None; next = next })) $
    not_below rule.least next (decimal_of rule.most t)

-- the field at a place, whose token ends at e: there the byte sep has to stand
unfoldable pub field_up_to : List ℕ → ℕ → FieldKind → ℕ → ℕ → Option Field
field_up_to s at kind sep e =
    stop_if (leb (length s) e) None $
    stop_if (not (eqb (get_or s e 0) sep)) None $
    token_of (token (drop at s)) (rule_of kind) (e + 1)

unfoldable pub field_of : List ℕ → ℕ → FieldKind → ℕ → Option Field
field_of s at kind sep = field_up_to s at kind sep (at + length (token (drop at s)))

-- one byte more after the digits of v
unfoldable pub push_of : ℕ → ℕ → ℕ → Option ℕ
push_of v b high = pick (is_digit b && leb (v * 10 + (b - 48)) high) (Some (v * 10 + (b - 48))) None
