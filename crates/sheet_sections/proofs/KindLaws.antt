-- A copy's line by its kind, and none where no kind stands.
-- Assumes nothing.
use mathlib.Core.Path.{◌≡◌, refl, sym, ap, ◌∙◌}
use mathlib.Core.Bool.{Bool, true, false}
use mathlib.Core.List.{List, ◌∷◌}
use Prim.Native.Nat.{ℕ}
use native.Mathlib.Omega.{arith}
use borrow.Author.Tests.{eqb-true, eqb-false}
use lib.Dec.{eqb}
use lib.ListN.{length}
use Rattle.std.specs.Prelude.{Option, Some, None, Result, Ok, Err, unwrap_or, option_and_then}
use Rattle.std.specs.Result.{result_ok}
use Rattle.std.proofs.lemmas.Option.{none-some, same_Some}
use Rattle.conditions.specs.Conditions.{pick}
use Rattle.sheet_fields.specs.declared.Field.{Field}
use Rattle.sheet_fields.specs.declared.FieldKind.{FieldKind}
use Rattle.sheet_fields.specs.declared.FieldKind.TheVariants.{CopyKind as Kind}
use Rattle.sheet_fields.specs.declared.Line.{Line}
use Rattle.sheet_fields.specs.Codes.{rule_of}
use Rattle.sheet_fields.specs.Field.{field_of}
use Rattle.sheet_fields.specs.Line.{after_field, separator_of, fields_in, line_with, line_of}
use Rattle.sheet_fields.specs.Laws.{Allowed}
use Rattle.sheet_fields.proofs.Fits.{field_read}
use Rattle.sheet_sections.specs.declared.CopyKind.{CopyKind}
use Rattle.sheet_sections.specs.declared.UnknownKind.{UnknownKind}
use Rattle.sheet_sections.specs.Kinds.{kind_number, kind_of}
use Rattle.sheet_sections.specs.Rows.{kind_at, linear_kind, copy_kinds, buffer_copy_kinds, texture_copy_kinds, buffer_texture_kinds}

-- ---- a kind by its number

no_kind : {e : UnknownKind} {v : CopyKind} → ◌≡◌ {A = Result CopyKind UnknownKind} (Err e) (Ok v) → ⊥
no_kind q = cc

module _ (n k : ℕ) (w : CopyKind) (rest : Result CopyKind UnknownKind) where
  here : (v : CopyKind) → kind_number w ≡ k → (rest ≡ Ok v → kind_number v ≡ n) → (t : Bool) → eqb n k ≡ t → pick t (Ok w) rest ≡ Ok v → kind_number v ≡ n
  here v is on true e h = let f : w ≡ v = cc in ap kind_number (sym f) ∙ is ∙ sym (eqb-true n k e)
  here v is on false e h = on h

  other : (u : UnknownKind) (t : Bool) → eqb n k ≡ t → pick t (Ok w) rest ≡ Err u → (n ≡ k → ⊥) × (rest ≡ Err u)
  other u true e h = absurd (no_kind (sym h))
  other u false e h = (eqb-false n k e, h)

pub named : (n : ℕ) (v : CopyKind) → kind_of n ≡ Ok v → kind_number v ≡ n
unfolding kind_of kind_number
named n v =
    here n 1 _ _ v refl
    (here n 2 _ _ v refl
    (here n 3 _ _ v refl
    (here n 4 _ _ v refl
    (here n 5 _ _ v refl (λ e. absurd (no_kind e)) _ refl)
    _ refl)
    _ refl)
    _ refl)
    _ refl

-- a number that is none's
pub record Unnamed (n : ℕ) : Type 0 where
  pub one : n ≡ 1 → ⊥
  pub two : n ≡ 2 → ⊥
  pub three : n ≡ 3 → ⊥
  pub four : n ≡ 4 → ⊥
  pub five : n ≡ 5 → ⊥

pub unnamed : (n : ℕ) (u : UnknownKind) → kind_of n ≡ Err u → Unnamed n
unfolding kind_of
unnamed n u e =
    let one = other n 1 _ _ u _ refl e in
    let two = other n 2 _ _ u _ refl one.1 in
    let three = other n 3 _ _ u _ refl two.1 in
    let four = other n 4 _ _ u _ refl three.1 in
    let five = other n 5 _ _ u _ refl four.1 in
    record { one = one.0; two = two.0; three = three.0; four = four.0; five = five.0 }

-- ---- a copy's line

module _ (s : List ℕ) (at : ℕ) where
  -- its first field is the kind, a space after it
  begins : (ks : List FieldKind) → separator_of (length (Kind ∷ ks)) ≡ 32 → field_of s at Kind 32 ≡ None → line_of s (Kind ∷ ks) at ≡ None
  unfolding line_of fields_in after_field line_with
  begins ks space none = rw (space, none)

  ill_first : (n : ℕ) → field_of s at Kind 32 ≡ None → line_of s (copy_kinds n) at ≡ None
  unfolding copy_kinds buffer_copy_kinds texture_copy_kinds buffer_texture_kinds separator_of
  ill_first n none = go (eqb n 1) (eqb n 4)
    where
      go : (t u : Bool) → line_of s (pick t buffer_copy_kinds (pick u texture_copy_kinds (buffer_texture_kinds (linear_kind n)))) at ≡ None
      go true u = begins _ refl none
      go false true = begins _ refl none
      go false false = begins _ refl none

  -- a kind that was read has a number of one
  of_field : (v : Option ℕ) → Allowed (rule_of Kind) v → result_ok (kind_of (unwrap_or v 0)) ≡ None → ⊥
  unfolding rule_of
  of_field (Some v) within e = go (kind_of v) refl e
    where
      go : (r : Result CopyKind UnknownKind) → kind_of v ≡ r → result_ok r ≡ None → ⊥
      go (Ok w) p q = none-some w (sym q)
      go (Err u) p q = let un = unnamed v u p in omega (arith, un.one, un.two, un.three, un.four, un.five, within.0, within.1)
  of_field None absent e = let z : ◌≡◌ {A = Bool} false true = absent in cc

  pub kind_ill : (k : Option CopyKind) → k ≡ result_ok (kind_of (kind_at s at)) → k ≡ None → None ≡ line_of s (copy_kinds (kind_at s at)) at
  unfolding kind_at
  kind_ill k is e = go (field_of s at Kind 32) refl (sym is ∙ e)
    where
      go : (o : Option Field) → field_of s at Kind 32 ≡ o → result_ok (kind_of (unwrap_or (option_and_then (λ f. f.value) o) 0)) ≡ None → None ≡ line_of s (copy_kinds (kind_at s at)) at
      go None p q = sym (ill_first _ p)
      go (Some f) p q = absurd (of_field f.value (field_read s at Kind 32 f p) q)

  pub kind_well : (k : Option CopyKind) (v : CopyKind) (l : Option Line) → k ≡ result_ok (kind_of (kind_at s at)) → k ≡ Some v → l ≡ line_of s (copy_kinds (kind_number v)) at → l ≡ line_of s (copy_kinds (kind_at s at)) at
  kind_well k v l is e h = h ∙ ap (λ (n : ℕ). line_of s (copy_kinds n) at) (go (kind_of (kind_at s at)) refl (sym is ∙ e))
    where
      go : (r : Result CopyKind UnknownKind) → kind_of (kind_at s at) ≡ r → result_ok r ≡ Some v → kind_number v ≡ kind_at s at
      go (Ok w) p q = named _ v (p ∙ ap Ok (same_Some w v q))
      go (Err u) p q = absurd (none-some v q)
