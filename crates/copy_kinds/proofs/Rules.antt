-- How a copy of any kind goes on after its kind's answer, and the slots of its ranges.
-- Assumes nothing.
use Rattle.std.specs.Prelude.{Result, Ok, Err, IsErrAnd, Option, Some, None, is_some, count_by, cond}
use mathlib.Core.Path.{◌≡◌, refl, sym, ap, ◌∙◌}
use mathlib.Core.List.{List, [], ◌∷◌}
use Prim.Native.Nat.{ℕ, ◌+◌, ◌≤◌}
use native.Mathlib.Omega.{arith}
use lib.ListN.{length, get_or}
use Rattle.copy_kinds.specs.declared.InitRange.{InitRange}
use Rattle.copy_kinds.specs.Ranges.{slot_count, count_of}
use Rattle.refusals.specs.declared.TransferError.{TransferError}
use Rattle.refusals.proofs.Order.{handed_up}
use Rattle.plan_kinds.specs.declared.Plan.{Plan}
use Rattle.copy_kinds.specs.declared.Ranges.{Ranges}

module _ {P : Type 0} {r m : Result P TransferError} {x : Result (Plan × Ranges) TransferError} (of : Result P TransferError → Result (Plan × Ranges) TransferError) where
  pub plan_goes : {p : P} (q : Plan) (s s' : Ranges) → r ≡ m → r ≡ Ok p → of (Ok p) ≡ Ok (q, s') → s ≡ s' → x ≡ Ok (q, s) → x ≡ of m
  plan_goes q s s' a b c d h = h ∙ rw d (sym c ∙ ap of (sym b ∙ a))

  pub plan_hands : {e : TransferError} → r ≡ m → r ≡ Err e → of (Err e) ≡ Err e → IsErrAnd x (λ d. d ≡ e) → x ≡ of m
  plan_hands {e} a b c h = handed_up x e h ∙ sym c ∙ ap of (sym b ∙ a)

one : Option InitRange → ℕ
one slot = cond (is_some slot) 1 0

one_of : (slot : Option InitRange) → one slot ≡ slot_count slot
unfolding one slot_count
one_of (Some r) = refl
one_of None = refl

slot_few : (slot : Option InitRange) → slot_count slot ≤ 1
unfolding slot_count
slot_few (Some r) = omega arith
slot_few None = omega arith

all : (a b c d : Option InitRange) → count_by is_some (a ∷ b ∷ c ∷ d ∷ []) ≡ 0 + one a + one b + one c + one d
unfolding one
all a b c d = refl

pub counted : (r : Ranges) → length r.slots ≡ 4 → count_by is_some r.slots ≡ count_of r
unfolding count_of
counted r h = by r.slots h
  where
    by : (ss : List (Option InitRange)) → length ss ≡ 4 → count_by is_some ss ≡ slot_count (get_or ss 0 None) + slot_count (get_or ss 1 None) + slot_count (get_or ss 2 None) + slot_count (get_or ss 3 None)
    by [] e = absurd (omega arith)
    by (a ∷ []) e = absurd (omega arith)
    by (a ∷ b ∷ []) e = absurd (omega arith)
    by (a ∷ b ∷ c ∷ []) e = absurd (omega arith)
    by (a ∷ b ∷ c ∷ d ∷ []) e = all a b c d ∙ rw (one_of a, one_of b, one_of c, one_of d) (omega arith)
    by (a ∷ b ∷ c ∷ d ∷ x ∷ xs) e = absurd (omega arith)

pub count_few : (r : Ranges) → count_of r ≤ 4
unfolding count_of
count_few r = omega (arith, slot_few (get_or r.slots 0 None), slot_few (get_or r.slots 1 None), slot_few (get_or r.slots 2 None), slot_few (get_or r.slots 3 None))
