-- What the calls of a transfer do together: the bytes written are the front of those handed over, and the calls end.
-- Assumes nothing.
use mathlib.Core.Path.{◌≡◌, refl, sym, ap, ◌∙◌}
use mathlib.Core.Bool.{Bool, true, false}
use mathlib.Core.List.{List, [], ◌∷◌, ◌++◌}
use Prim.Native.Nat.{ℕ, zero, suc, ◌+◌, ◌-◌, ◌≤◌, ◌<◌, min}
use native.Mathlib.Omega.{arith}
use native.Mathlib.Nat.{pos_of_ne-zero}
use borrow.Author.Tests.{leb-true, leb-false, eqb-true, eqb-false}
use lib.Dec.{leb, eqb}
use lib.ListN.{length, take, drop, length-drop}
use lib.Seq.{take_all, take-length, take-nil, drop-drop}
use Rattle.std.proofs.lemmas.Bool.Decides.{nat_tests}
use Rattle.std.proofs.lemmas.List.{take_min}
use Rattle.std.specs.Prelude.{Result, Ok, Err}
use Rattle.sheet_io.specs.declared.Failure.{Failure}
use Rattle.sheet_io.specs.declared.Failure.TheVariants.{Passes, Lasts}
use Rattle.sheet_io.specs.declared.Answer.{Answer}
use Rattle.sheet_io.specs.declared.Answer.TheVariants.{Moved, End, Again, Failed}
use Rattle.sheet_io.specs.declared.Progress.{Progress}
use Rattle.sheet_io.specs.Progress.{answer_of, written_of, got_of, moved_by, tries_of, has_failed, start_of, after_none, after_of, goes_on, place_of}
use Rattle.sheet_io.specs.Output.{takes, Writes, none, call, Output, calls_left, OutputLaws}

-- ---- lists

take_more : (c m : ℕ) (l : List ℕ) → take c l ++ take m (drop c l) ≡ take (c + m) l
take_more zero m l = let e : 0 + m ≡ m = omega arith in rw e
take_more (suc c) m [] = take-nil m ∙ sym (take-nil (suc c + m))
take_more (suc c) m (x ∷ l) = let e : suc c + m ≡ suc (c + m) = omega arith in rw e (ap (λ (r : List ℕ). x ∷ r) (take_more c m l))

-- more than all of a list is all of it
take_least : (c : ℕ) (l : List ℕ) → take c l ≡ take (length l - (length l - c)) l
take_least c l = let e : length l - (length l - c) ≡ min c (length l) = omega arith in rw (e, take_min c l)

-- ---- what a call does, by cases

module _ (P : ℕ → Answer → Type 0) (none' : Answer)
    (moved : (count : ℕ) → 0 < count → P count (Moved count)) (nothing : P 0 none') (again : P 0 Again) (lost : P 0 Failed) where
  by_count : (count : ℕ) (t : Bool) → eqb count 0 ≡ t → P count (answer_of none' (Ok count))
  unfolding answer_of
  by_count count true e = let z = eqb-true count 0 e in rw (e, z) nothing
  by_count count false e = rw e (moved count (pos_of_ne-zero (eqb-false count 0 e)))

  by_outcome : (outcome : Result ℕ Failure) → P (moved_by outcome) (answer_of none' outcome)
  unfolding answer_of
  by_outcome (Ok count) = by_count count _ refl
  by_outcome (Err Passes) = again
  by_outcome (Err Lasts) = lost

-- ---- what it leaves

-- a reason to go on: bytes are left, and tries
module _ (p : Progress) where
  going : goes_on p ≡ true → (0 < p.left) × (0 < tries_of p.stage)
  unfolding goes_on
  going h = grind (arith, nat_tests)

  ended : goes_on p ≡ false → 0 < p.left → tries_of p.stage ≡ 0
  unfolding goes_on
  ended h k = grind (arith, nat_tests)

-- where no try is left, it has failed
abbrev Told : Progress → Type 0
Told p = tries_of p.stage ≡ 0 → has_failed p.stage ≡ true

-- a call took so many bytes
record Step (p : Progress) (count : ℕ) (q : Progress) : Type 0 where
  left : q.left ≡ p.left - count
  told : Told q
  less : goes_on p ≡ true → calls_left q < calls_left p

module _ (p : Progress) where
  again : Step p 0 (after_of p Again)
  unfolding after_of after_none
  again =
      record {
        left = omega arith;
        told = λ z. grind (arith, nat_tests);
        less = λ g. let h = going p g in grind (arith, nat_tests);
      }

  lost : Step p 0 (after_of p Failed)
  unfolding after_of
  lost = record { left = omega arith; told = λ z. refl; less = λ g. omega (arith, going p g) }

  moved : (count : ℕ) → 0 < count → Step p count (after_of p (Moved count))
  unfolding after_of start_of
  moved count h = record { left = refl; told = λ z. absurd (omega arith); less = λ g. omega (arith, going p g) }

  stepped : (outcome : Result ℕ Failure) → Step p (moved_by outcome) (after_of p (written_of outcome))
  stepped = by_outcome (λ count a. Step p count (after_of p a)) Again moved again again lost

  end_less : goes_on p ≡ true → calls_left (after_of p End) < calls_left p
  unfolding after_of
  end_less g = omega (arith, going p g)

  read_less : (outcome : Result ℕ Failure) → goes_on p ≡ true → calls_left (after_of p (got_of outcome)) < calls_left p
  read_less =
      by_outcome (λ count a. goes_on p ≡ true → calls_left (after_of p a) < calls_left p) End
      (λ count h. (moved count h).less) end_less again.less lost.less

fewer : (p : Progress) (a : Answer) → (after_of p a).left ≤ p.left
unfolding after_of start_of
fewer p (Moved n) = omega arith
fewer p Again = let s = again p in omega (arith, s.left)
fewer p End = omega arith
fewer p Failed = omega arith

-- ---- all of them together

module _ (bytes : List ℕ) where
  record Run (p : Progress) (taken : List ℕ) (q : Progress) : Type 0 where
    left : q.left ≤ p.left
    told : Told q
    front : taken ≡ take (p.left - q.left) (drop (length bytes - p.left) bytes)

  -- one call, and then the others
  joined :
      (p r q : Progress) (count : ℕ) (rest : List ℕ) → p.left ≤ length bytes → r.left ≡ p.left - count → Run r rest q
      → takes bytes p count ++ rest ≡ take (p.left - q.left) (drop (length bytes - p.left) bytes)
  unfolding takes place_of
  joined p r q count rest h e run =
      let l = drop (length bytes - p.left) bytes in
      let n : length l ≡ p.left = length-drop (length bytes - p.left) bytes ∙ omega arith in
      let c = p.left - (p.left - count) in
      let one : take count l ≡ take c l = take_least count l ∙ ap (λ (k : ℕ). take (k - (k - count)) l) n in
      let two : drop (length bytes - r.left) bytes ≡ drop c l =
      let s : length bytes - r.left ≡ (length bytes - p.left) + c = omega (arith, e) in
      ap (λ (k : ℕ). drop k bytes) s ∙ sym (drop-drop c (length bytes - p.left) bytes) in
      let k : c + (r.left - q.left) ≡ p.left - q.left = omega (arith, e, run.left) in
      rw (run.front, two, one, take_more c (r.left - q.left) l, k)

  runs : {p q : Progress} {taken : List ℕ} → p.left ≤ length bytes → Told p → Writes bytes p taken q → Run p taken q
  runs {p} h t none =
      record { left = omega arith; told = t; front = let z : p.left - p.left ≡ 0 = omega arith in rw z }
  runs {p} {q} h t (call {rest = rest} g outcome w) =
      let s = stepped p outcome in
      let run = runs (omega (arith, s.left)) s.told w in
      record { left = omega (arith, s.left, run.left); told = run.told; front = joined p _ q (moved_by outcome) rest h s.left run }

  all_taken : (p : Progress) → p.left ≡ 0 → take (place_of (length bytes) p) bytes ≡ bytes
  unfolding place_of
  all_taken p e = let z : length bytes - p.left ≡ length bytes = omega (arith, e) in rw z (take-length bytes)

  none_left : (p : Progress) → Told p → goes_on p ≡ false → has_failed p.stage ≡ false → p.left ≡ 0
  none_left p told g f = let h = ended p g in grind (arith, told)

  output : (taken : List ℕ) (p : Progress) → Writes bytes (start_of (length bytes)) taken p → Output bytes taken p
  unfolding start_of place_of
  output taken p w =
      let run = runs (omega arith) (λ z. absurd (omega arith)) w in
      let z : length bytes - length bytes ≡ 0 = omega arith in
      let front : taken ≡ take (length bytes - p.left) bytes = run.front ∙ rw z in
      record { front = front; whole = λ g f. front ∙ all_taken p (none_left p run.told g f) }

pub output_laws : OutputLaws
output_laws =
    record {
      output = λ bytes taken p w. output bytes taken p w;
      fewer = fewer;
      writes_end = λ p outcome. (stepped p outcome).less;
      reads_end = read_less;
    }
