-- A value that was read is within the bounds of its kind; an absent one may be absent.
-- Assumes nothing.
use mathlib.Core.Path.{◌≡◌, refl, sym, ap, ◌∙◌}
use mathlib.Core.Bool.{Bool, true, false, ◌&&◌}
use mathlib.Core.List.{List, [], ◌∷◌}
use Prim.Native.Nat.{ℕ, zero, suc, ◌<◌, ◌≤◌}
use native.Mathlib.Omega.{arith}
use borrow.Author.Tests.{leb-true, ltb-false}
use lib.Dec.{leb}
use lib.ListN.{drop, length, get_or, replicate}
use Rattle.conditions.specs.Conditions.{pick, stop_if}
use Rattle.conditions.proofs.Rules.{went_past, both_true}
use Rattle.std.proofs.lemmas.Option.{none-some, same_Some}
use lib.Seq.{sets}
use Rattle.std.specs.Prelude.{Option, None, Some, IsSomeAnd}
use Rattle.sheet_fields.specs.declared.Field.{Field}
use Rattle.sheet_fields.specs.declared.FieldKind.{FieldKind}
use Rattle.sheet_fields.specs.declared.FieldKind.TheVariants.{Word}
use Rattle.sheet_fields.specs.declared.Line.{Line}
use Rattle.sheet_fields.specs.declared.Rule.{Rule}
use Rattle.sheet_fields.specs.Codes.{rule_of}
use Rattle.sheet_fields.specs.Field.{token, all_digits, value_from, decimal_of, is_dash, not_below, token_of, field_up_to, field_of}
use Rattle.sheet_fields.specs.Line.{Fields, consed, after_field, separator_of, fields_in, line_with, line_values, line_of}
use Rattle.sheet_fields.specs.Laws.{Within, Allowed, FieldLaws}
use Rattle.sheet_fields.proofs.LineLaws.{stored}

-- ---- a number

picked : (high w x : ℕ) (a l : Bool) → leb x high ≡ l → pick (a && l) (Some x) None ≡ Some w → w ≤ high
picked high w x true true q e = let f : x ≡ w = cc in rw (← f) (leb-true x high q)
picked high w x true false q e = absurd (none-some w e)
picked high w x false l q e = absurd (none-some w e)

decimal_high : (high w : ℕ) (t : List ℕ) → decimal_of high t ≡ Some w → w ≤ high
unfolding decimal_of
decimal_high high w t e =
    let k = went_past _ _ _ _ _ e (none-some w) in
    picked high w (value_from 0 t) (all_digits t) (leb (value_from 0 t) high) refl k.1

-- ---- a token

below : (rule : Rule) (next : ℕ) (f : Field) (m : Option ℕ) → ((w : ℕ) → m ≡ Some w → w ≤ rule.most) → not_below rule.least next m ≡ Some f → Allowed rule f.value
unfolding not_below
below rule next f (Some w) h e =
    let k = went_past _ _ _ _ _ e (none-some f) in
    let q : record { value = Some w; next = next } ≡ f = same_Some _ _ k.1 in
    rw (← q) (ltb-false w rule.least k.0, h w refl)
below rule next f None h e = absurd (none-some f e)

module _ (t : List ℕ) (rule : Rule) (next : ℕ) (f : Field) where
  lacking : (d : Bool) → (rule.dash && is_dash t) ≡ d → stop_if d (Some (record { value = None; next = next })) (not_below rule.least next (decimal_of rule.most t)) ≡ Some f → Allowed rule f.value
  unfolding stop_if
  lacking true d e =
      let q : record { value = None; next = next } ≡ f = same_Some _ _ e in
      rw (← q) (both_true rule.dash (is_dash t) d).0
  lacking false d e = below rule next f (decimal_of rule.most t) (λ w q. decimal_high rule.most w t q) e

  token_read : token_of t rule next ≡ Some f → Allowed rule f.value
  unfolding token_of
  token_read e = lacking (rule.dash && is_dash t) refl e

-- ---- a field

pub field_read : (s : List ℕ) (at : ℕ) (kind : FieldKind) (sep : ℕ) (f : Field) → field_of s at kind sep ≡ Some f → Allowed (rule_of kind) f.value
unfolding field_of field_up_to
field_read s at kind sep f e =
    let k = went_past _ _ _ _ _ e (none-some f) in
    let l = went_past _ _ _ _ _ k.1 (none-some f) in
    token_read (token (drop at s)) (rule_of kind) _ f l.1

-- ---- the values of a line

-- as many values as kinds, each by its kind
record AllFit (kinds : List FieldKind) (vs : List (Option ℕ)) : Type 0 where
  same : length vs ≡ length kinds
  each : (i : ℕ) → i < length kinds → Allowed (rule_of (get_or kinds i Word)) (get_or vs i None)

one_more : (k : FieldKind) (ks : List FieldKind) (v : Option ℕ) (vs : List (Option ℕ)) → Allowed (rule_of k) v → AllFit ks vs → AllFit (k ∷ ks) (v ∷ vs)
one_more k ks v vs f a = record { same = ap suc a.same; each = each }
  where
    each : (i : ℕ) → i < suc (length ks) → Allowed (rule_of (get_or (k ∷ ks) i Word)) (get_or (v ∷ vs) i None)
    each zero h = f
    each (suc i) h = a.each i (omega arith)

-- fields that were read with one more before them
of_rest :
    (k : FieldKind) (ks : List FieldKind) (v : Option ℕ) (o : Option Fields) (r : Fields) → Allowed (rule_of k) v
    → ((f : Fields) → o ≡ Some f → AllFit ks f.found) → consed v o ≡ Some r → AllFit (k ∷ ks) r.found
unfolding consed
of_rest k ks v None r fit rest e = absurd (none-some r e)
of_rest k ks v (Some f) r fit rest e =
    let q : record { found = v ∷ f.found; after = f.after } ≡ r = same_Some _ _ e in
    rw (← q) (one_more k ks v f.found fit (rest f refl))

of_field :
    (s : List ℕ) (k : FieldKind) (at sep : ℕ) (ks : List FieldKind) (o : Option Field) (r : Fields) → field_of s at k sep ≡ o
    → ((from : ℕ) (f : Fields) → fields_in s ks from ≡ Some f → AllFit ks f.found)
    → after_field o (λ v next. consed v (fields_in s ks next)) ≡ Some r → AllFit (k ∷ ks) r.found
unfolding after_field
of_field s k at sep ks (Some f) r is rest e = of_rest k ks f.value (fields_in s ks f.next) r (field_read s at k sep f is) (rest f.next) e
of_field s k at sep ks None r is rest e = absurd (none-some r e)

fields_fit : (s : List ℕ) (kinds : List FieldKind) (at : ℕ) (r : Fields) → fields_in s kinds at ≡ Some r → AllFit kinds r.found
unfolding fields_in
fields_fit s [] at r e =
    let q : record { found = []; after = at } ≡ r = same_Some _ _ e in
    rw (← q) (record { same = refl; each = λ i h. absurd (omega arith) })
fields_fit s (k ∷ ks) at r e = of_field s k at (separator_of (length (k ∷ ks))) ks _ r refl (λ from f. fields_fit s ks from f) e

of_line :
    (kinds : List FieldKind) (i : ℕ) (o : Option Fields) (l : Line) → ((f : Fields) → o ≡ Some f → AllFit kinds f.found) → length kinds ≤ line_values
    → line_with (replicate line_values (Some 0)) 0 o ≡ Some l → i < length kinds
    → Allowed (rule_of (get_or kinds i Word)) (get_or l.values i None)
unfolding line_with
of_line kinds i None l fit few e h = absurd (none-some l e)
of_line kinds i (Some f) l fit few e h =
    let a = fit f refl in
    let k = a.same in
    let q : record { next = f.after; values = sets (replicate line_values (Some 0)) 0 f.found } ≡ l = same_Some _ _ e in
    rw (← q, stored f.found (replicate line_values (Some 0)) i (omega arith) (omega arith)) (a.each i h)

line_value :
    (s : List ℕ) (kinds : List FieldKind) (at i : ℕ) (l : Line) → length kinds ≤ line_values → line_of s kinds at ≡ Some l → i < length kinds
    → Allowed (rule_of (get_or kinds i Word)) (get_or l.values i None)
unfolding line_of
line_value s kinds at i l few e h = of_line kinds i (fields_in s kinds at) l (λ f q. fields_fit s kinds at f q) few e h

not_absent : (rule : Rule) (o : Option ℕ) → Allowed rule o → rule.dash ≡ false → IsSomeAnd o (λ v. Within rule v)
not_absent rule (Some v) f d = f
not_absent rule None f d = let t : true ≡ false = sym f ∙ d in let z : ◌≡◌ {A = ℕ} 0 1 = cc in absurd (omega arith)

pub field_laws : FieldLaws
field_laws =
    record {
      within = λ s at kind sep v n e. field_read s at kind sep _ e;
      absent = λ s at kind sep n e. field_read s at kind sep _ e;
      value = line_value;
      there = λ s kinds at i l few e h d. not_absent _ _ (line_value s kinds at i l few e h) d;
    }
