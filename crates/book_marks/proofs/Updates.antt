-- An update by its two checks.
-- Assumes nothing.
use Rattle.std.specs.Prelude.{Result, Ok, Err, IsErrAnd, cond}
use Rattle.std.specs.List.{range_with_len, filter}
use Rattle.std.proofs.lemmas.List.FromFn.{length-range_with_len}
use Rattle.std.specs.Result.{result_map_both}
use Rattle.std.proofs.lemmas.Result.{err_from_is_err_and}
use mathlib.Core.Path.{◌≡◌, refl, sym, ap, subst, ◌∙◌}
use mathlib.Core.Bool.{Bool, true, false, not}
use mathlib.Core.List.{List, [], ◌∷◌}
use Prim.Native.Nat.{ℕ, suc, ◌*◌, ◌-◌, ◌<◌, ◌≤◌}
use native.Mathlib.Omega.{arith}
use borrow.Author.Tests.{lt-ltb, le-ltb}
use lib.Dec.{ltb}
use lib.ListN.{length}
use lib.Seq.{sets}
use Rattle.conditions.specs.Conditions.{stop_if}
use Rattle.rule_init_ranges.specs.declared.MemoryInitKind.{MemoryInitKind}
use Rattle.rule_init_ranges.specs.declared.MemoryInitKind.TheVariants.{ImplicitlyInitialized, NeedsInitializedMemory}
use Rattle.rule_init_ranges.specs.declared.TextureInitRange.{TextureInitRange}
use Rattle.book_marks.specs.declared.Book.{Book}
use Rattle.book_marks.specs.declared.BookError.{BookError}
use Rattle.book_marks.specs.declared.checked_range.CheckedRange.{CheckedRange}
use Rattle.book_marks.specs.declared.BookError.TheVariants.{InvalidBookRange, SliceTooShort}
use Rattle.book_marks.specs.Book.{book_with, is_marked}
use Rattle.book_marks.specs.Laws.{FewPlaces}
use Rattle.book_marks.proofs.Marks.{inside}
use Rattle.book_marks.specs.Update.{Updated, is_outside, layers_in, if_needed, unmarked, cleared, place_numbers, marked, updated}

-- ---- an answer that stops at one test, and what `?` makes of it

module _ {R E : Type 0} where
  stops : (t : Bool) (x e : E) (v : R) → ◌≡◌ {A = Result R E} (Err e) (stop_if t (Err x) (Ok v)) → (t ≡ true) × (e ≡ x)
  unfolding stop_if
  stops true x e v h = (refl, cc)
  stops false x e v h = let z : ◌≡◌ {A = ℕ} 0 1 = cc in absurd (omega arith)

  passes : (t : Bool) (x : E) (v w : R) → ◌≡◌ {A = Result R E} (Ok w) (stop_if t (Err x) (Ok v)) → (t ≡ false) × (w ≡ v)
  unfolding stop_if
  passes true x v w h = let z : ◌≡◌ {A = ℕ} 0 1 = cc in absurd (omega arith)
  passes false x v w h = (refl, cc)

handed : {R E : Type 0} (x : Result R E) (e : E) → IsErrAnd x (λ d. d ≡ e) → x ≡ Err e
handed x e h = let p = err_from_is_err_and x h in p.1 ∙ ap Err p.2

-- ---- the layers to be cleared, by the range's kind

module _ (marks : List ℕ) (r : TextureInitRange) (out : List ℕ) where
  abbrev layers : List ℕ
  layers = unmarked marks r.mip_level (layers_in r.layers)

  abbrev lacks_room : Bool
  lacks_room = ltb (length out) (2 * length (cleared marks r))

  -- what is answered, and what is in the slice afterwards
  abbrev pub Clears : Result ℕ BookError → List ℕ → Type 0
  Clears answer new =
      (answer ≡ stop_if lacks_room (Err SliceTooShort) (Ok (length (cleared marks r))))
      × (new ≡ stop_if lacks_room out (sets out 0 (place_numbers r.mip_level (cleared marks r))))

  pub clears_none : r.kind ≡ ImplicitlyInitialized → Clears (Ok 0) out
  unfolding cleared stop_if place_numbers
  clears_none k = let t : ltb (length out) 0 ≡ false = le-ltb (length out) 0 (omega arith) in (rw (k, t), rw (k, t))

  module _ (k : r.kind ≡ NeedsInitializedMemory) (n : ℕ) (e : n ≡ length layers) where
    pub clears_short : length out < 2 * n → Clears (Err SliceTooShort) out
    unfolding cleared stop_if
    clears_short h = let t : ltb (length out) (2 * length layers) ≡ true = lt-ltb _ _ (omega (arith, e, h)) in (rw (k, t), rw (k, t))

    pub clears_all : (new : List ℕ) → 2 * n ≤ length out → new ≡ sets out 0 (place_numbers r.mip_level layers) → Clears (Ok n) new
    unfolding cleared stop_if
    clears_all new h s =
        let t : ltb (length out) (2 * length layers) ≡ false = le-ltb _ _ (omega (arith, e, h)) in
        (rw (k, t, e), rw (k, t) s)

-- ---- an update

split_answer : (s t : Bool) (a b c : Updated) → (stop_if s a (stop_if t b c)).answer ≡ stop_if s a.answer (stop_if t b.answer c.answer)
unfolding stop_if
split_answer true t a b c = refl
split_answer false true a b c = refl
split_answer false false a b c = refl

split_out : (s t : Bool) (a b c : Updated) → (stop_if s a (stop_if t b c)).out ≡ stop_if s a.out (stop_if t b.out c.out)
unfolding stop_if
split_out true t a b c = refl
split_out false true a b c = refl
split_out false false a b c = refl

module _ (levels layers : ℕ) (marks : List ℕ) (r : TextureInitRange) (out : List ℕ) where
  abbrev b : Book
  b = book_with levels layers marks

  abbrev outside : Bool
  outside = is_outside levels layers r

  abbrev short : Bool
  short = ltb (length out) (2 * length (cleared marks r))

  abbrev refused : BookError → Updated
  refused e = record { answer = Err e; marks = marks; out = out }

  abbrev applied : Updated
  applied = record { answer = Ok (length (cleared marks r)); marks = marked marks r; out = sets out 0 (place_numbers r.mip_level (cleared marks r)) }

  abbrev view : Result CheckedRange BookError → Result TextureInitRange BookError
  view = result_map_both (λ c. c.range) (λ e. e)

  -- the answer, the marks and the slice afterwards
  abbrev pub Updates : Result ℕ BookError → List ℕ → List ℕ → Type 0
  Updates answer new_marks new_out =
      (answer ≡ (updated b r out).answer) × (new_marks ≡ (updated b r out).marks) × (new_out ≡ (updated b r out).out)

  module _ (c : Result CheckedRange BookError) (checked : view c ≡ stop_if outside (Err InvalidBookRange) (Ok r)) where
    pub updates_outside : (e : BookError) → c ≡ Err e → (x : Result ℕ BookError) → IsErrAnd x (λ d. d ≡ e) → Updates x marks out
    unfolding updated stop_if
    updates_outside e was x h =
        let p = stops outside InvalidBookRange e r (sym (ap view was) ∙ checked) in
        rw (handed x e h, p.0, p.1) (refl, refl, refl)

    module _ (w : CheckedRange) (was : c ≡ Ok w) (n : Result ℕ BookError) (new : List ℕ) (clears : Clears marks w.range out n new) where
      pub updates_short : (e : BookError) → n ≡ Err e → (x : Result ℕ BookError) → IsErrAnd x (λ d. d ≡ e) → Updates x marks new
      unfolding updated stop_if
      updates_short e failed x h =
          let s = passes outside InvalidBookRange r w.range (sym (ap view was) ∙ checked) in
          let cl = subst (λ (s : TextureInitRange). Clears marks s out n new) s.1 clears in
          let p = stops short SliceTooShort e _ (sym failed ∙ cl.0) in
          rw (handed x e h, s.0, p.0, p.1, cl.1, p.0) (refl, refl, refl)

      pub updates_done : (k : ℕ) → n ≡ Ok k → (new_marks : List ℕ) → new_marks ≡ marked marks w.range → Updates (Ok k) new_marks new
      unfolding updated stop_if
      updates_done k done new_marks m =
          let s = passes outside InvalidBookRange r w.range (sym (ap view was) ∙ checked) in
          let cl = subst (λ (s : TextureInitRange). Clears marks s out n new) s.1 clears in
          let p = passes short SliceTooShort _ k (sym done ∙ cl.0) in
          rw (s.0, p.0, p.1, cl.1, p.0) (refl, m ∙ ap (marked marks) s.1, refl)

      -- the same where nothing is marked
      pub asks : (n ≡ (updated b r out).answer) × (new ≡ (updated b r out).out)
      unfolding updated stop_if
      asks =
          let s = passes outside InvalidBookRange r w.range (sym (ap view was) ∙ checked) in
          let cl = subst (λ (s : TextureInitRange). Clears marks s out n new) s.1 clears in (
            cl.0 ∙ sym (rw s.0 (split_answer false short (refused InvalidBookRange) (refused SliceTooShort) applied)),
            cl.1 ∙ sym (rw s.0 (split_out false short (refused InvalidBookRange) (refused SliceTooShort) applied)),
          )

-- ---- no more places than layers

more : (t : Bool) (z n : ℕ) (zs : List ℕ) → length zs ≤ n → length (cond t (z ∷ zs) zs) ≤ suc n
more true z n zs h = omega arith
more false z n zs h = omega arith

filter_few : (test : ℕ → Bool) (zs : List ℕ) → length (filter test zs) ≤ length zs
filter_few test [] = omega arith
filter_few test (z ∷ zs) = more (test z) z (length zs) (filter test zs) (filter_few test zs)

unmarked_few : (marks : List ℕ) (level a n : ℕ) → length (unmarked marks level (range_with_len a n)) ≤ n
unfolding unmarked
unmarked_few marks level a n = omega (arith, filter_few (λ z. not (is_marked marks level z)) (range_with_len a n), length-range_with_len a n)

needed_few : (kind : MemoryInitKind) (zs : List ℕ) (n : ℕ) → length zs ≤ n → length (if_needed kind zs) ≤ n
needed_few ImplicitlyInitialized zs n h = omega arith
needed_few NeedsInitializedMemory zs n h = h

not_an_answer : {n : ℕ} {e : BookError} → ◌≡◌ {A = Result ℕ BookError} (Err e) (Ok n) → ⊥
not_an_answer h = let z : ◌≡◌ {A = ℕ} 0 1 = cc in omega arith

answered : (s t : Bool) (n k : ℕ) → stop_if s (Err InvalidBookRange) (stop_if t (Err SliceTooShort) (Ok k)) ≡ Ok n → (s ≡ false) × (n ≡ k)
unfolding stop_if
answered true t n k h = absurd (not_an_answer h)
answered false true n k h = absurd (not_an_answer h)
answered false false n k h = (refl, cc)

pub few_places : FewPlaces
unfolding updated cleared
few_places b r out n h =
    let short = ltb (length out) (2 * length (cleared b.marks r)) in
    let outside = is_outside b.mip_level_count b.array_layer_count r in
    let p = answered outside short n (length (cleared b.marks r)) (sym (split_answer outside short _ _ _) ∙ h) in
    let few = inside b.mip_level_count b.array_layer_count r p.0 in
    omega (arith, p.1, needed_few r.kind (unmarked b.marks r.mip_level (layers_in r.layers)) (r.layers.end - r.layers.start) (unmarked_few b.marks r.mip_level r.layers.start (r.layers.end - r.layers.start)), few.layers_few)
