-- How a loop over bytes finds a token's end and reads its digits.
-- Assumes nothing.
use mathlib.Core.Path.{◌≡◌, refl, sym, ap, ◌∙◌}
use mathlib.Core.Bool.{Bool, true, false, ◌&&◌, not}
use mathlib.Core.List.{List, [], ◌∷◌}
use Prim.Native.Nat.{ℕ, suc, ◌+◌, ◌-◌, ◌*◌, ◌≤◌, ◌<◌}
use native.Mathlib.Omega.{arith}
use native.Mathlib.Numerals.{add-one}
use borrow.Author.Tests.{le-leb, lt-leb, eq-eqb, ne_eqb, leb-true, leb-false}
use lib.Dec.{leb, eqb}
use lib.ListN.{length, take, drop, get_or, drop_of_length-le}
use lib.Seq.{drop-cons}
use Rattle.conditions.specs.Conditions.{pick, stop_if}
use Rattle.std.specs.Prelude.{Option, None, Some}
use Rattle.sheet_fields.specs.declared.Field.{Field}
use Rattle.sheet_fields.specs.declared.FieldKind.{FieldKind}
use Rattle.sheet_fields.specs.declared.Rule.{Rule}
use Rattle.sheet_fields.specs.Codes.{rule_of}
use Rattle.sheet_fields.specs.Field.{is_gap, token, is_digit, all_digits, plain, value_from, decimal_of, push_of, field_up_to, field_of, token_of}

-- ---- tokens

pub token_end : (s : List ℕ) (i : ℕ) → length s ≤ i → i ≡ i + length (token (drop i s))
unfolding token
token_end s i h = rw (drop_of_length-le s h) (omega arith)

pub token_gap : (s : List ℕ) (i : ℕ) → i < length s → is_gap (get_or s i 0) ≡ true → i ≡ i + length (token (drop i s))
unfolding token
token_gap s i h g = rw (drop-cons s i 0 h, g) (omega arith)

pub token_on : (s : List ℕ) (i : ℕ) → i < length s → is_gap (get_or s i 0) ≡ false → i + 1 + length (token (drop (i + 1) s)) ≡ i + length (token (drop i s))
unfolding token
token_on s i h g = rw (drop-cons s i 0 h, g, add-one i) (omega arith)

token_took : (b : ℕ) (t : List ℕ) (g : Bool) → take (length (token t)) t ≡ token t → take (length (pick g [] (b ∷ token t))) (b ∷ t) ≡ pick g [] (b ∷ token t)
token_took b t true e = refl
token_took b t false e = ap (λ (r : List ℕ). b ∷ r) e

pub token_take : (t : List ℕ) → take (length (token t)) t ≡ token t
unfolding token
token_take [] = refl
token_take (b ∷ t) = token_took b t (is_gap b) (token_take t)

-- ---- plain

pub plain_none : (t : List ℕ) → length t ≡ 0 → plain t ≡ false
unfolding plain
plain_none [] e = refl
plain_none (b ∷ t) e = absurd (omega arith)

pub plain_one : (t : List ℕ) → length t ≡ 1 → plain t ≡ true
unfolding plain
plain_one [] e = absurd (omega arith)
plain_one (b ∷ []) e = refl
plain_one (b ∷ c ∷ t) e = absurd (omega arith)

pub plain_many : (t : List ℕ) → (length t ≡ 0 → ⊥) → (length t ≡ 1 → ⊥) → plain t ≡ not (eqb (get_or t 0 0) 48)
unfolding plain
plain_many [] z o = absurd (z refl)
plain_many (b ∷ []) z o = absurd (o refl)
plain_many (b ∷ c ∷ t) z o = refl

-- ---- digits: what the digits t give after those of v

abbrev pub scanned : ℕ → ℕ → List ℕ → Option ℕ
scanned high v t = pick (all_digits t && leb (value_from v t) high) (Some (value_from v t)) None

grows : (v : ℕ) (t : List ℕ) → v ≤ value_from v t
unfolding value_from
grows v [] = omega arith
grows v (b ∷ t) = let h : v * 10 + (b - 48) ≤ value_from (v * 10 + (b - 48)) t = grows (v * 10 + (b - 48)) t in omega arith

pub scanned_all : (high v : ℕ) (t : List ℕ) (i : ℕ) → length t ≤ i → v ≤ high → Some v ≡ scanned high v (drop i t)
unfolding all_digits value_from
scanned_all high v t i h k = rw (drop_of_length-le t h, le-leb _ _ k)

-- one byte, by whether it is a digit and whether the value stays within the bound
on : (high v b w : ℕ) (t : List ℕ) (d l : Bool) → is_digit b ≡ d → leb (v * 10 + (b - 48)) high ≡ l → pick (d && l) (Some (v * 10 + (b - 48))) None ≡ Some w
    → (scanned high w t ≡ scanned high v (b ∷ t)) × (w ≤ high)
unfolding all_digits value_from
on high v b w t true true p q e =
    let f : v * 10 + (b - 48) ≡ w = cc in
    (rw (p, ← f), rw (← f) (leb-true _ _ q))
on high v b w t true false p q e = let z : ◌≡◌ {A = ℕ} 0 1 = cc in absurd (omega arith)
on high v b w t false l p q e = let z : ◌≡◌ {A = ℕ} 0 1 = cc in absurd (omega arith)

stays : (a : Bool) (v : ℕ) → None ≡ pick (a && false) (Some v) None
stays true v = refl
stays false v = refl

off : (high v b : ℕ) (t : List ℕ) (d l : Bool) → is_digit b ≡ d → leb (v * 10 + (b - 48)) high ≡ l → pick (d && l) (Some (v * 10 + (b - 48))) None ≡ None
    → None ≡ scanned high v (b ∷ t)
unfolding all_digits value_from
off high v b t true true p q e = let z : ◌≡◌ {A = ℕ} 0 1 = cc in absurd (omega arith)
off high v b t true false p q e =
    let g : v * 10 + (b - 48) ≤ value_from (v * 10 + (b - 48)) t = grows (v * 10 + (b - 48)) t in
    let o : high < v * 10 + (b - 48) = leb-false _ _ q in
    let k : high < value_from (v * 10 + (b - 48)) t = omega arith in
    let h : leb (value_from (v * 10 + (b - 48)) t) high ≡ false = lt-leb _ _ k in
    rw (p, h) (stays (all_digits t) (value_from (v * 10 + (b - 48)) t))
off high v b t false l p q e = rw p

module _ (high v : ℕ) (t : List ℕ) (i : ℕ) (inside : i < length t) (r : Option ℕ) (e : r ≡ push_of v (get_or t i 0) high) where
  pub scanned_on : (w : ℕ) → r ≡ Some w → (scanned high w (drop (i + 1) t) ≡ scanned high v (drop i t)) × (w ≤ high)
  unfolding push_of
  scanned_on w f = rw (drop-cons t i 0 inside, add-one i) (on high v (get_or t i 0) w (drop (suc i) t) _ _ refl refl (sym e ∙ f))

  pub scanned_off : r ≡ None → None ≡ scanned high v (drop i t)
  unfolding push_of
  scanned_off f = rw (drop-cons t i 0 inside) (off high v (get_or t i 0) (drop (suc i) t) _ _ refl refl (sym e ∙ f))

-- ---- one byte more

pub push_letter : (v b high : ℕ) (r : Bool) → r ≡ is_digit b → r ≡ false → None ≡ push_of v b high
unfolding push_of
push_letter v b high r e n = rw (← e, n)

pub push_over : (v b high : ℕ) → high < v * 10 + (b - 48) → None ≡ push_of v b high
unfolding push_of
push_over v b high h = rw (lt-leb (v * 10 + (b - 48)) high h) (stays (is_digit b) (v * 10 + (b - 48)))

pub push_is : (v b high w : ℕ) (r : Bool) → r ≡ is_digit b → r ≡ true → w ≡ v * 10 + (b - 48) → w ≤ high → Some w ≡ push_of v b high
unfolding push_of
push_is v b high w r e y q h = rw (← e, y, ← q, le-leb w high h)

-- ---- the whole of a decimal

pub decimal_ill : (high : ℕ) (t : List ℕ) (r : Bool) → r ≡ plain t → not r ≡ true → None ≡ decimal_of high t
unfolding decimal_of stop_if
decimal_ill high t r e n = rw (← e, n)

pub decimal_is : (high : ℕ) (t : List ℕ) (r : Bool) → r ≡ plain t → not r ≡ false → scanned high 0 t ≡ decimal_of high t
unfolding decimal_of stop_if
decimal_is high t r e n = rw (← e, n)

-- ---- a field, whose token ends at e

module _ (s : List ℕ) (at : ℕ) (kind : FieldKind) (sep e : ℕ) (is : e ≡ at + length (token (drop at s))) where
  pub field_past : length s ≤ e → None ≡ field_of s at kind sep
  unfolding field_of field_up_to stop_if
  field_past h = rw (← is, le-leb _ _ h)

  pub field_other : e < length s → (get_or s e 0 ≡ sep → ⊥) → None ≡ field_of s at kind sep
  unfolding field_of field_up_to stop_if
  field_other h n = rw (← is, lt-leb _ _ h, ne_eqb _ _ n)

  pub field_token : e < length s → get_or s e 0 ≡ sep → (k : Rule) → k ≡ rule_of kind → (r : Option Field) → r ≡ token_of (take (e - at) (drop at s)) k (e + 1) → r ≡ field_of s at kind sep
  unfolding field_of field_up_to stop_if
  field_token h g k i r q =
      let n : e - at ≡ length (token (drop at s)) = omega arith in
      let t : take (e - at) (drop at s) ≡ token (drop at s) = rw n (token_take (drop at s)) in
      rw (← is, lt-leb _ _ h, eq-eqb _ _ g, ← t, ← i) q
