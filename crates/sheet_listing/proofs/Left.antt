-- A piece, with what is left after it, is what was left.
-- Assumes nothing.
use Rattle.std.specs.Prelude.{Result, Option, Some, None}
use mathlib.Core.Path.{◌≡◌, refl, sym, ap, ◌∙◌}
use mathlib.Core.Bool.{Bool, true, false}
use mathlib.Core.List.{List, [], ◌++◌, append_assoc}
use Prim.Native.Nat.{ℕ, zero, suc, ◌+◌, ◌-◌, ◌≤◌, ◌<◌}
use native.Mathlib.Omega.{arith}
use borrow.Author.Tests.{ltb-true, ltb-false}
use lib.Dec.{ltb}
use lib.ListN.{length, length-append}
use borrow.Rule.Slice.PartMut.{mid_of, put_mid, mid_len, put_same}
use Rattle.records.specs.declared.Device.{Device}
use Rattle.sheet_fields.specs.declared.Line.{Line}
use Rattle.sheet_sections.specs.Rows.{copies, section_line}
use Rattle.plan_kinds.specs.declared.Plan.{Plan}
use Rattle.plan_kinds.specs.Regions.{left_of, behind_of}
use Rattle.plan_kinds.proofs.Behind.{behind_left}
use Rattle.copy_kinds.specs.declared.Ranges.{Ranges}
use Rattle.refusals.specs.declared.TransferError.{TransferError}
use Rattle.slices.specs.Put.{Put}
use Rattle.slices.proofs.Puts.{put_as, put_none, put_then, put_length}
use Rattle.sheet_lines.specs.Lines.{answer_text, region_text}
use Rattle.sheet_lines.proofs.LineLaws.{region_few, answer_few, region_some, answer_some}
use Rattle.sheet_copies.specs.CopyLines.{line_planned}
use Rattle.sheet_copies.specs.Answers.{answer_at}
use Rattle.sheet_listing.specs.declared.CopiesLeft.{CopiesLeft}
use Rattle.sheet_listing.specs.Listing.{regions_text, regions_left, plan_answered, copy_answer, copies_text, plan_left, state_with, answer_of, piece_of, next_of, text_left, Fills, Ends, Steps, Stops}
use Rattle.sheet_listing.proofs.Parts.{put_part}
use Rattle.sheet_listing.proofs.Pieces.{plan_left_some, plan_left_none, piece_region, next_region, piece_copy, next_copy, piece_none, next_none}

-- ---- texts

regions_on : (n : ℕ) (p : Plan) → 0 < n → region_text p ++ regions_text (n - 1) (behind_of p) ≡ regions_text n p
unfolding regions_text
regions_on zero p h = absurd (omega arith)
regions_on (suc n) p h = let e : suc n - 1 ≡ n = omega arith in rw e

regions_none : (n : ℕ) (p : Plan) → n ≤ 0 → regions_text n p ≡ []
unfolding regions_text
regions_none zero p h = refl
regions_none (suc n) p h = absurd (omega arith)

regions_left_none : (o : Option Plan) → None ≡ plan_left o → regions_left o ≡ []
unfolding regions_left
regions_left_none None e = refl
regions_left_none (Some p) e = regions_none (left_of p) p (plan_left_none (Some p) e)

regions_left_some : (p : Plan) → 0 < left_of p → region_text p ++ regions_left (Some (behind_of p)) ≡ regions_left (Some p)
unfolding regions_left
regions_left_some p h = rw (behind_left p h) (regions_on (left_of p) p h)

module _ (s ts bs : List ℕ) (device : Device) (c : CopiesLeft) where
  abbrev rest : ℕ → ℕ → List ℕ
  rest left at = copies_text s ts bs device c.total left at

  copies_none : (n at : ℕ) → n ≤ 0 → rest n at ≡ []
  unfolding copies_text
  copies_none zero at h = refl
  copies_none (suc n) at h = absurd (omega arith)

  copies_on : (n at : ℕ) → 0 < n → copy_answer (c.total - n) (answer_at s ts bs device at) ++ rest (n - 1) (section_line s copies at).next ≡ rest n at
  unfolding copies_text
  copies_on zero at h = absurd (omega arith)
  copies_on (suc n) at h = let e : suc n - 1 ≡ n = omega arith in rw e

  -- ---- one step among copies

  left_at : (o : Option Plan) → c.plan ≡ o → text_left s ts bs device c ≡ regions_left o ++ rest c.left c.at
  unfolding text_left
  left_at o e = rw e

  left_with : (left at : ℕ) (o : Option Plan) → text_left s ts bs device (state_with c left at o) ≡ regions_left o ++ rest left at
  unfolding text_left state_with
  left_with left at o = refl

  left_region : {p : Plan} → Some p ≡ plan_left c.plan → piece_of s ts bs device c ++ text_left s ts bs device (next_of s ts bs device c) ≡ text_left s ts bs device c
  left_region {p} is =
      let has = plan_left_some c.plan p is in
      rw (← piece_region s ts bs device c is, ← next_region s ts bs device c is, left_with c.left c.at (Some (behind_of p)), left_at (Some p) has.0)
      (sym (append_assoc (region_text p) _ _) ∙ ap (λ (t : List ℕ). t ++ rest c.left c.at) (regions_left_some p has.1))

  module _ (out : None ≡ plan_left c.plan) where
    left_well : text_left s ts bs device c ≡ rest c.left c.at
    left_well = left_at c.plan refl ∙ rw (regions_left_none c.plan out)

    left_copy : 0 < c.left → piece_of s ts bs device c ++ text_left s ts bs device (next_of s ts bs device c) ≡ text_left s ts bs device c
    unfolding copy_answer answer_of
    left_copy h =
        let answer = answer_at s ts bs device c.at in
        rw (← piece_copy s ts bs device c out h, ← next_copy s ts bs device c out h, left_with (c.left - 1) (section_line s copies c.at).next (plan_answered answer), left_well)
        (sym (append_assoc (answer_text (c.total - c.left) answer) _ _) ∙ copies_on c.left c.at h)

    pub left_none : c.left ≤ 0 → text_left s ts bs device c ≡ []
    left_none h = left_well ∙ copies_none c.left c.at h

  pub left_on : piece_of s ts bs device c ++ text_left s ts bs device (next_of s ts bs device c) ≡ text_left s ts bs device c
  left_on = go (plan_left c.plan) refl (ltb 0 c.left) refl
    where
      go :
          (o : Option Plan) → o ≡ plan_left c.plan → (t : Bool) → ltb 0 c.left ≡ t
          → piece_of s ts bs device c ++ text_left s ts bs device (next_of s ts bs device c) ≡ text_left s ts bs device c
      go (Some p) is t e = left_region is
      go None is true e = left_copy is (ltb-true _ _ e)
      go None is false e = let none = ltb-false _ _ e in rw (← piece_none s ts bs device c is none, ← next_none s ts bs device c is none)

  module _ {l m : List ℕ} {r : ℕ} where
    pub steps_region :
        (p q : Plan) → Some p ≡ plan_left c.plan → Put l m 0 (region_text p) r → q ≡ behind_of p → length l ≡ 1024
        → Steps s ts bs device c l m r (record { total = c.total; left = c.left; at = c.at; plan = Some q })
    unfolding state_with
    steps_region p q is put e long =
        record {
          put = put_as put (piece_region s ts bs device c is);
          some = omega (arith, put.next, region_some p);
          fits = omega (arith, put.next, region_few p);
          state = rw e (next_region s ts bs device c is);
        }

    pub steps_copy :
        (k : ℕ) (row : Line) (answer : Result (Plan × Ranges) TransferError) (left : ℕ) (o : Option Plan) → None ≡ plan_left c.plan → 0 < c.left
        → row ≡ section_line s copies c.at → answer ≡ line_planned s ts bs device row → k ≡ c.total - c.left → left ≡ c.left - 1
        → Put l m 0 (answer_text k answer) r → o ≡ plan_answered answer → length l ≡ 1024
        → Steps s ts bs device c l m r (record { total = c.total; left = left; at = row.next; plan = o })
    unfolding state_with answer_of answer_at
    steps_copy k row answer left o out h er ea ek el put eo long =
        let is : answer ≡ answer_of s ts bs device c = ea ∙ ap (line_planned s ts bs device) er in
        record {
          put = put_as put (rw (ek, is) (piece_copy s ts bs device c out h));
          some = omega (arith, put.next, answer_some k answer);
          fits = omega (arith, put.next, answer_few k answer);
          state = rw (eo, is, er, el) (next_copy s ts bs device c out h);
        }

-- ---- filling

module _ (s ts bs : List ℕ) (device : Device) (first c : CopiesLeft) (l₀ l : List ℕ) (at : ℕ) where
  pub record Filling : Type 0 where
    pub inside : at ≤ length l
    pub same : length l ≡ length l₀
    pub fills : Fills l₀ l at (text_left s ts bs device first) (text_left s ts bs device c)
    pub begun : at ≡ 0 → c ≡ first

pub filling_starts : (s ts bs : List ℕ) (device : Device) (first : CopiesLeft) (l : List ℕ) → Filling s ts bs device first first l l 0
filling_starts s ts bs device first l = record { inside = omega arith; same = refl; fills = record { text = []; put = put_none l 0; left = refl }; begun = λ e. refl }

module _ {s ts bs : List ℕ} {device : Device} {first c : CopiesLeft} {l₀ l : List ℕ} {at : ℕ} (f : Filling s ts bs device first c l₀ l at) where
  abbrev left : ℕ
  left = length l - at

  part_long : length (mid_of at left l) ≡ left
  part_long = mid_len at (length l) l (omega arith)

  module _ {m : List ℕ} {count : ℕ} {q : CopiesLeft} (step : Steps s ts bs device c (mid_of at left l) m count q) where
    put : Put l (put_mid at left l m) at (piece_of s ts bs device c) (at + count)
    put = put_part l m at left step.put (omega (arith, step.put.next, step.fits)) f.inside

    pub filling_room : at + count ≤ length l
    filling_room = omega (arith, f.inside, step.fits, part_long)

    pub filling_on : Filling s ts bs device first q l₀ (put_mid at left l m) (at + count)
    filling_on =
        rw step.state
        (record {
          inside = omega (arith, put_length put, filling_room);
          same = put_length put ∙ f.same;
          fills =
              record {
                text = f.fills.text ++ piece_of s ts bs device c;
                put = put_then f.fills.put put;
                left = f.fills.left ∙ ap (λ (t : List ℕ). f.fills.text ++ t) (sym (left_on s ts bs device c)) ∙ sym (append_assoc f.fills.text (piece_of s ts bs device c) _);
              };
          begun = λ z. absurd (omega (arith, step.some));
        })

    pub filling_less : length (put_mid at left l m) - (at + count) < length l - at
    filling_less = omega (arith, step.some, put_length put, filling_room)

  abbrev Filled : List ℕ → Type 0
  Filled m = Fills l₀ m at (text_left s ts bs device first) (text_left s ts bs device c) × ((at ≤ length m) × Ends (length l₀) at (text_left s ts bs device first))

  pub filling_stops : {m : List ℕ} → Stops s ts bs device c (mid_of at left l) m → Filled (put_mid at left l m)
  filling_stops stops =
      rw (stops.1, put_same at left l)
      (f.fills, (f.inside, λ r z. ap (λ (q : CopiesLeft). text_left s ts bs device q) (sym (f.begun z)) ∙ stops.0 (omega (arith, part_long, f.same))))

-- so many bytes were put as are no longer left
pub fills_count : {l m : List ℕ} {n : ℕ} {a b : List ℕ} → Fills l m n a b → length a ≡ n + length b
fills_count {b = b} f = omega (arith, ap length f.left, length-append f.text b, f.put.next)
