-- How a loop over kinds reads a line.
-- Assumes nothing.
use mathlib.Core.Path.{◌≡◌, refl}
use mathlib.Core.List.{List, ◌∷◌}
use Prim.Native.Nat.{ℕ, suc, ◌+◌, ◌-◌, ◌≤◌, ◌<◌}
use native.Mathlib.Omega.{arith}
use native.Mathlib.Numerals.{add-one}
use lib.ListN.{get_or-append, length, drop, get_or, set, drop_of_length-le, length-drop}
use lib.Seq.{drop-cons, sets, sets-eq}
use Rattle.std.specs.Prelude.{Option, None, Some}
use Rattle.sheet_fields.specs.declared.Field.{Field}
use Rattle.sheet_fields.specs.declared.FieldKind.{FieldKind}
use Rattle.sheet_fields.specs.declared.FieldKind.TheVariants.{Word}
use Rattle.sheet_fields.specs.Field.{field_of}
use Rattle.sheet_fields.specs.Line.{Fields, consed, after_field, separator_of, fields_in, line_with}

-- a value more is a store more
set_on : (vs : List (Option ℕ)) (i : ℕ) (v : Option ℕ) (f : Option Fields) → line_with (set vs i v) (suc i) f ≡ line_with vs i (consed v f)
unfolding line_with consed
set_on vs i v None = refl
set_on vs i v (Some f) = refl

module _ (s : List ℕ) (kinds : List FieldKind) (vs : List (Option ℕ)) (i at : ℕ) (inside : i < length kinds)
    (o : Option Field) (sep : ℕ) (is-sep : sep ≡ separator_of (length kinds - i)) (e : o ≡ field_of s at (get_or kinds i Word) sep) where
  here : o ≡ field_of s at (get_or kinds i Word) (separator_of (length (get_or kinds i Word ∷ drop (suc i) kinds)))
  here =
      let l : length kinds - i ≡ suc (length (drop (suc i) kinds)) = simp length-drop (omega arith) in
      rw (← l, ← is-sep) e

  pub line_on : (f : Field) → o ≡ Some f → line_with (set vs i f.value) (i + 1) (fields_in s (drop (i + 1) kinds) f.next) ≡ line_with vs i (fields_in s (drop i kinds) at)
  unfolding fields_in after_field
  line_on f q = rw (drop-cons kinds i Word inside, ← here, q, add-one i) (set_on vs i f.value (fields_in s (drop (suc i) kinds) f.next))

  pub line_off : o ≡ None → None ≡ line_with vs i (fields_in s (drop i kinds) at)
  unfolding fields_in after_field line_with
  line_off q = rw (drop-cons kinds i Word inside, ← here, q)

pub line_all : (s : List ℕ) (kinds : List FieldKind) (vs : List (Option ℕ)) (i at : ℕ) → length kinds ≤ i → Some (record { next = at; values = vs }) ≡ line_with vs i (fields_in s (drop i kinds) at)
unfolding fields_in line_with
line_all s kinds vs i at h = rw (drop_of_length-le kinds h)

-- what was stored from the start on
pub stored : (vs l : List (Option ℕ)) (k : ℕ) → k < length vs → length vs ≤ length l → get_or (sets l 0 vs) k None ≡ get_or vs k None
stored vs l k h room = rw (sets-eq vs l 0 (omega arith)) (get_or-append vs (drop (0 + length vs) l) None k h)
