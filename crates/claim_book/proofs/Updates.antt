-- What an update is, by its two tests.
-- Assumes nothing.
use Rattle.std.specs.Prelude.{Result, Ok, Err}
use mathlib.Core.Path.{◌≡◌, refl, sym, ap, ◌∙◌}
use mathlib.Core.Bool.{Bool, true, false}
use mathlib.Core.List.{List}
use Prim.Native.Nat.{ℕ, ◌*◌, ◌≤◌}
use native.Mathlib.Omega.{arith}
use borrow.Author.Tests.{ltb-false, leb-false, le-ltb, lt-leb}
use lib.Dec.{leb, ltb}
use lib.ListN.{length}
use lib.Seq.{sets}
use Rattle.conditions.specs.Conditions.{stop_if}
use Rattle.conditions.proofs.Rules.{neither}
use Rattle.rule_init_ranges.specs.declared.TextureInitRange.{TextureInitRange}
use Rattle.book_marks.specs.declared.Book.{Book}
use Rattle.book_marks.specs.declared.BookError.{BookError}
use Rattle.book_marks.specs.declared.BookError.TheVariants.{InvalidBookRange, SliceTooShort}
use Rattle.book_marks.specs.Update.{Updated, is_outside, cleared, place_numbers, marked, updated}
use Rattle.claim_book.specs.Answers.{Inside}

pub inside_of : (b : Book) (r : TextureInitRange) → is_outside b.mip_level_count b.array_layer_count r ≡ false → Inside b r
unfolding is_outside
inside_of b r h =
    let a = neither (ltb 14 b.mip_level_count) _ h in
    let c = neither (ltb 256 b.array_layer_count) _ a.1 in
    let d = neither (leb b.mip_level_count r.mip_level) _ c.1 in
    let e = neither (ltb r.layers.end r.layers.start) _ d.1 in
    let levels_few = ltb-false 14 b.mip_level_count a.0 in
    let layers_few = ltb-false 256 b.array_layer_count c.0 in
    let level = leb-false b.mip_level_count r.mip_level d.0 in
    let rising = ltb-false r.layers.end r.layers.start e.0 in
    let ending = ltb-false b.array_layer_count r.layers.end e.1 in
    record {
      levels_few = omega (arith, levels_few);
      layers_few = omega (arith, layers_few);
      level = omega (arith, level);
      rising = omega (arith, rising);
      ending = omega (arith, ending);
    }

pub inside_by : (b : Book) (r : TextureInitRange) → Inside b r → is_outside b.mip_level_count b.array_layer_count r ≡ false
unfolding is_outside
inside_by b r i =
    rw (
      le-ltb 14 b.mip_level_count (omega (arith, i.levels_few)),
      le-ltb 256 b.array_layer_count (omega (arith, i.layers_few)),
      lt-leb b.mip_level_count r.mip_level (omega (arith, i.level)),
      le-ltb r.layers.end r.layers.start (omega (arith, i.rising)),
    )
    (le-ltb b.array_layer_count r.layers.end (omega (arith, i.ending)))

module _ (b : Book) (r : TextureInitRange) (out : List ℕ) where
  abbrev outside : Bool
  outside = is_outside b.mip_level_count b.array_layer_count r

  abbrev short : Bool
  short = ltb (length out) (2 * length (cleared b.marks r))

  abbrev refused : BookError → Updated
  refused e = record { answer = Err e; marks = b.marks; out = out }

  abbrev done : Updated
  done = record { answer = Ok (length (cleared b.marks r)); marks = marked b.marks r; out = sets out 0 (place_numbers r.mip_level (cleared b.marks r)) }

  pub is_outside_refused : outside ≡ true → updated b r out ≡ refused InvalidBookRange
  unfolding updated stop_if
  is_outside_refused h = rw h refl

  pub is_short_refused : outside ≡ false → short ≡ true → updated b r out ≡ refused SliceTooShort
  unfolding updated stop_if
  is_short_refused h k = rw (h, k) refl

  pub is_done : outside ≡ false → short ≡ false → updated b r out ≡ done
  unfolding updated stop_if
  is_done h k = rw (h, k) refl

  pub record Applied (n : ℕ) : Type 0 where
    pub inside : Inside b r
    pub counted : n ≡ length (cleared b.marks r)
    pub fit : 2 * n ≤ length out
    pub marks_are : (updated b r out).marks ≡ marked b.marks r
    pub out_is : (updated b r out).out ≡ sets out 0 (place_numbers r.mip_level (cleared b.marks r))

  no_error : (e : BookError) (n : ℕ) → ◌≡◌ {A = Result ℕ BookError} (Err e) (Ok n) → ⊥
  no_error e n h = let z : ◌≡◌ {A = ℕ} 0 1 = cc in omega arith

  pub applied : (n : ℕ) → (updated b r out).answer ≡ Ok n → Applied n
  applied n h = go outside short refl refl
    where
      go : (s t : Bool) → outside ≡ s → short ≡ t → Applied n
      go true t e f = absurd (no_error InvalidBookRange n (sym (ap (λ (u : Updated). u.answer) (is_outside_refused e)) ∙ h))
      go false true e f = absurd (no_error SliceTooShort n (sym (ap (λ (u : Updated). u.answer) (is_short_refused e f)) ∙ h))
      go false false e f =
          let d = is_done e f in
          let same : ◌≡◌ {A = Result ℕ BookError} (Ok (length (cleared b.marks r))) (Ok n) = sym (ap (λ (u : Updated). u.answer) d) ∙ h in
          let count : n ≡ length (cleared b.marks r) = cc in
          let fits = ltb-false _ _ f in
          record {
            inside = inside_of b r e;
            counted = count;
            fit = omega (arith, count, fits);
            marks_are = ap (λ (u : Updated). u.marks) d;
            out_is = ap (λ (u : Updated). u.out) d;
          }

  pub unchanged : (e : BookError) → (updated b r out).answer ≡ Err e → ((updated b r out).marks ≡ b.marks) × ((updated b r out).out ≡ out)
  unchanged x h = go outside short refl refl
    where
      go : (s t : Bool) → outside ≡ s → short ≡ t → ((updated b r out).marks ≡ b.marks) × ((updated b r out).out ≡ out)
      go true t e f = let d = is_outside_refused e in (ap (λ (u : Updated). u.marks) d, ap (λ (u : Updated). u.out) d)
      go false true e f = let d = is_short_refused e f in (ap (λ (u : Updated). u.marks) d, ap (λ (u : Updated). u.out) d)
      go false false e f = absurd (no_error x (length (cleared b.marks r)) (sym h ∙ ap (λ (u : Updated). u.answer) (is_done e f)))
