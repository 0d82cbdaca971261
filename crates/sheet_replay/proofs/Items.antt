-- Where the item at a place stands: after the place, and inside the list.
-- Assumes nothing.
use mathlib.Core.Path.{◌≡◌}
use mathlib.Core.Bool.{Bool, true, false, ◌&&◌}
use mathlib.Core.List.{List}
use Prim.Native.Nat.{ℕ, ◌+◌, ◌-◌, ◌≤◌, ◌<◌}
use native.Mathlib.Omega.{arith}
use borrow.Author.Tests.{leb-false, ltb-false}
use lib.ListN.{length, drop}
use Rattle.std.specs.Prelude.{Option, Some, None}
use Rattle.std.proofs.lemmas.Option.{none-some, same_Some, option_and_then_some}
use Rattle.conditions.specs.Conditions.{stop_if}
use Rattle.conditions.proofs.Rules.{went_past}
use Rattle.sheet_fields.specs.declared.Field.{Field}
use Rattle.sheet_fields.specs.declared.FieldKind.{FieldKind}
use Rattle.sheet_fields.specs.declared.FieldKind.TheVariants.{Word}
use Rattle.sheet_fields.specs.declared.Rule.{Rule}
use Rattle.sheet_fields.specs.Codes.{rule_of}
use Rattle.sheet_fields.specs.Field.{token, decimal_of, is_dash, not_below, token_of, field_up_to, field_of}
use Rattle.sheet_replay.specs.declared.Item.{Item}
use Rattle.sheet_replay.specs.Replay.{item_of, head_of}

-- ---- a field

number_next : (least next : ℕ) (f : Field) (m : Option ℕ) → not_below least next m ≡ Some f → f.next ≡ next
unfolding not_below
number_next least next f (Some w) e =
    let q : record { value = Some w; next = next } ≡ f = same_Some _ _ (went_past _ _ _ _ _ e (none-some f)).1 in
    rw (← q)
number_next least next f None e = absurd (none-some f e)

module _ (t : List ℕ) (rule : Rule) (next : ℕ) (f : Field) where
  by_dash : (d : Bool) → stop_if d (Some (record { value = None; next = next })) (not_below rule.least next (decimal_of rule.most t)) ≡ Some f → f.next ≡ next
  unfolding stop_if
  by_dash true e = let q : record { value = None; next = next } ≡ f = same_Some _ _ e in rw (← q)
  by_dash false e = number_next rule.least next f (decimal_of rule.most t) e

  token_next : token_of t rule next ≡ Some f → f.next ≡ next
  unfolding token_of
  token_next e = by_dash (rule.dash && is_dash t) e

-- the place after a field is after its own, and inside
pub field_next : (s : List ℕ) (at : ℕ) (kind : FieldKind) (sep : ℕ) (f : Field) → field_of s at kind sep ≡ Some f → (at < f.next) × (f.next ≤ length s)
unfolding field_of field_up_to
field_next s at kind sep f e =
    let k = went_past _ _ _ _ _ e (none-some f) in
    let q = went_past _ _ _ _ _ k.1 (none-some f) in
    let next : f.next ≡ at + length (token (drop at s)) + 1 = token_next (token (drop at s)) (rule_of kind) _ f q.1 in
    let inside : at + length (token (drop at s)) < length s = leb-false _ _ k.0 in
    (omega arith, omega arith)

-- ---- an item

pub record Inside (l : List ℕ) (i : Item) : Type 0 where
  pub behind : 0 < i.sheet
  pub sheet : i.sheet ≤ i.listing
  pub text : i.listing ≤ i.next
  pub end : i.next ≤ length l

item_inside : (l : List ℕ) (first n m : ℕ) (i : Item) → 0 < first → first ≤ length l → item_of (length l) first n m ≡ Some i → Inside l i
unfolding item_of
item_inside l first n m i h few e =
    let k = went_past _ _ _ _ _ e (none-some i) in
    let q = went_past _ _ _ _ _ k.1 (none-some i) in
    let room : n ≤ length l - first = ltb-false _ _ k.0 in
    let rest : m ≤ length l - (first + n) = ltb-false _ _ q.0 in
    let is : record { sheet = first; listing = first + n; next = first + n + m } ≡ i = same_Some _ _ q.1 in
    rw (← is) (record { behind = h; sheet = omega arith; text = omega arith; end = omega arith })

pub head_inside : (l : List ℕ) (i : Item) → head_of l ≡ Some i → Inside l i
unfolding head_of
head_inside l i e =
    option_and_then_some _ (field_of l 6 Word 32) i (went_past _ _ _ _ _ e (none-some i)).1 λ n n-is e₁.
    option_and_then_some _ (field_of l n.next Word 10) i e₁ λ m m-is e₂.
    let f = field_next l n.next Word 10 m m-is in
    item_inside l m.next _ _ i (omega (arith, f.0)) f.1 e₂
