-- What a step puts, and the state after it, by the state before.
-- Assumes nothing.
use Prim.{Unit, tt}
use Rattle.std.specs.Prelude.{Option, Some, None, MatchOption}
use Rattle.std.specs.Bool.{then_some}
use Rattle.std.proofs.lemmas.Option.{none-some, same_Some}
use mathlib.Core.Path.{◌≡◌, refl, sym, subst}
use mathlib.Core.Bool.{Bool, true, false}
use mathlib.Core.List.{List, []}
use Prim.Native.Nat.{ℕ, ◌-◌, ◌≤◌, ◌<◌}
use borrow.Author.Tests.{lt-ltb, le-ltb, ltb-true, ltb-false}
use lib.Dec.{ltb}
use Rattle.records.specs.declared.Device.{Device}
use Rattle.sheet_sections.specs.Rows.{copies, section_line}
use Rattle.plan_kinds.specs.declared.Plan.{Plan}
use Rattle.plan_kinds.specs.Regions.{left_of, behind_of}
use Rattle.sheet_lines.specs.Lines.{answer_text, region_text}
use Rattle.sheet_listing.specs.declared.CopiesLeft.{CopiesLeft}
use Rattle.sheet_listing.specs.Listing.{plan_answered, plan_left, state_with, answer_of, copies_piece, piece_of, copies_next, next_of}

-- ---- a plan of which regions are left

pub plan_left_some : (o : Option Plan) (p : Plan) → Some p ≡ plan_left o → (o ≡ Some p) × (0 < left_of p)
unfolding plan_left
plan_left_some None p e = absurd (none-some p (sym e))
plan_left_some (Some q) p e = go (ltb 0 (left_of q)) refl e
  where
    go : (t : Bool) → ltb 0 (left_of q) ≡ t → Some p ≡ then_some t q → (Some q ≡ Some p) × (0 < left_of p)
    go true is e = (sym e, subst (λ (x : Plan). 0 < left_of x) (sym (same_Some p q e)) (ltb-true _ _ is))
    go false is e = absurd (none-some p (sym e))

pub plan_left_none : (o : Option Plan) → None ≡ plan_left o → MatchOption o Unit (λ p. left_of p ≤ 0)
unfolding plan_left
plan_left_none None e = tt
plan_left_none (Some q) e = go (ltb 0 (left_of q)) refl e
  where
    go : (t : Bool) → ltb 0 (left_of q) ≡ t → None ≡ then_some t q → left_of q ≤ 0
    go true is e = absurd (none-some q e)
    go false is e = ltb-false _ _ is

-- ---- one step among copies

module _ (s ts bs : List ℕ) (device : Device) (c : CopiesLeft) where
  module _ {p : Plan} (is : Some p ≡ plan_left c.plan) where
    pub piece_region : region_text p ≡ piece_of s ts bs device c
    unfolding piece_of copies_piece
    piece_region = rw (← is)

    pub next_region : state_with c c.left c.at (Some (behind_of p)) ≡ next_of s ts bs device c
    unfolding next_of copies_next
    next_region = rw (← is)

  module _ (out : None ≡ plan_left c.plan) (h : 0 < c.left) where
    pub piece_copy : answer_text (c.total - c.left) (answer_of s ts bs device c) ≡ piece_of s ts bs device c
    unfolding piece_of copies_piece
    piece_copy = rw (← out, lt-ltb _ _ h)

    pub next_copy : state_with c (c.left - 1) (section_line s copies c.at).next (plan_answered (answer_of s ts bs device c)) ≡ next_of s ts bs device c
    unfolding next_of copies_next
    next_copy = rw (← out, lt-ltb _ _ h)

  module _ (out : None ≡ plan_left c.plan) (h : c.left ≤ 0) where
    pub piece_none : [] ≡ piece_of s ts bs device c
    unfolding piece_of copies_piece
    piece_none = rw (← out, le-ltb _ _ h)

    pub next_none : c ≡ next_of s ts bs device c
    unfolding next_of copies_next
    next_none = rw (← out, le-ltb _ _ h)
