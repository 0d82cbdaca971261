-- Lines one after the other, and how long they are.
-- Assumes nothing.
use Rattle.std.specs.Prelude.{◌≢◌, Result, Ok, Err}
use Rattle.std.specs.List.{range_with_len, flat_map}
use mathlib.Core.Path.{◌≡◌, refl, sym, ap, ◌∙◌}
use mathlib.Core.Bool.{Bool, true, false}
use mathlib.Core.List.{List, [], ◌∷◌, ◌++◌, append-nil, append_assoc}
use Prim.Native.Nat.{ℕ, zero, suc, ◌+◌, ◌*◌, ◌≤◌}
use borrow.Author.Tests.{eq-eqb, ne_eqb}
use native.Mathlib.Omega.{arith}
use native.Mathlib.Numerals.{add-one}
use lib.ListN.{length, get_or, length-append}
use Rattle.conditions.specs.Conditions.{pick}
use lib.Dec.{eqb}
use Rattle.sheet_lines.specs.Lines.{refused_word}
use Rattle.slices.specs.Put.{Put}
use Rattle.slices.proofs.Puts.{put_none, put_then, put_as}
use Rattle.sheet_text.proofs.Puts.{spaced_few, line_few}
use Rattle.book_marks.specs.declared.Book.{Book}
use Rattle.book_marks.specs.Book.{is_filled}
use Rattle.book_marks.specs.declared.BookError.{BookError}
use Rattle.sheet_books.specs.Books.{texture_word, is_filled_word, is_missing_word, place_text, places_text, answered_text, verdict_text, head_text}
use Rattle.sheet_text.specs.Text.{spaced, line_text}

-- ---- one more of a row

flat_map_more : (f : ℕ → List ℕ) (a n : ℕ) → flat_map f (range_with_len a (suc n)) ≡ flat_map f (range_with_len a n) ++ f (a + n)
flat_map_more f a zero = let k : a + 0 ≡ a = omega arith in rw k (append-nil (f a))
flat_map_more f a (suc n) =
    let k : a + 1 + n ≡ a + suc n = omega arith in
    ap (λ (l : List ℕ). f a ++ l) (flat_map_more f (a + 1) n ∙ ap (λ (i : ℕ). flat_map f (range_with_len (a + 1) n) ++ f i) k) ∙ sym (append_assoc (f a) (flat_map f (range_with_len (a + 1) n)) (f (a + suc n)))

-- texts of so many numbers, put one after the other
module _ (f : ℕ → List ℕ) (most : ℕ) (few : (k : ℕ) → length (f k) ≤ most) where
  pub record Underway (l₀ l : List ℕ) (at next k : ℕ) : Type 0 where
    pub put : Put l₀ l at (flat_map f (range_with_len 0 k)) next
    pub room : next ≤ at + k * most

  rows_few : (a n : ℕ) → length (flat_map f (range_with_len a n)) ≤ n * most
  rows_few a zero = omega arith
  rows_few a (suc n) = omega (arith, length-append (f a) (flat_map f (range_with_len (a + 1) n)), few a, rows_few (a + 1) n)

  pub rows_of_few : (n : ℕ) → length (flat_map f (range_with_len 0 n)) ≤ n * most
  rows_of_few n = rows_few 0 n

  pub underway_none : (l : List ℕ) (at : ℕ) → Underway l l at at 0
  underway_none l at = record { put = put_none l at; room = omega arith }

  pub underway_on : (l₀ l m : List ℕ) (at next k r : ℕ) → Underway l₀ l at next k → Put l m next (f k) r → Underway l₀ m at r (k + 1)
  underway_on l₀ l m at next k r u p =
      let row : flat_map f (range_with_len 0 (k + 1)) ≡ flat_map f (range_with_len 0 k) ++ f k =
      let z : 0 + k ≡ k = omega arith in
      rw (add-one k) (flat_map_more f 0 k ∙ ap (λ (i : ℕ). flat_map f (range_with_len 0 k) ++ f i) z) in
      record {
        put = put_as (put_then u.put p) (sym row);
        room = omega (arith, p.next, u.room, few k);
      }

pub place_few : (word : List ℕ) (texture : ℕ) (numbers : List ℕ) (k : ℕ) → length (place_text word texture numbers k) ≤ length word + 64
place_few word texture numbers k = omega (arith, line_few word false (texture ∷ get_or numbers (2 * k) 0 ∷ get_or numbers (2 * k + 1) 0 ∷ []))

abbrev pub places_bound : List ℕ → ℕ
places_bound word = length word + 64

-- ---- places that were answered

module _ (word : List ℕ) (texture : ℕ) (numbers : List ℕ) where
  pub answered_few : (short : length word ≤ 7) (a : Result ℕ BookError) → ((n : ℕ) → a ≡ Ok n → n ≤ 256) → length (answered_text word texture a numbers) ≤ 18176
  unfolding answered_text places_text
  answered_few short (Ok n) few =
      let each : (k : ℕ) → length (place_text word texture numbers k) ≤ 71 = λ k. omega (arith, place_few word texture numbers k) in
      omega (arith, few n refl, rows_of_few (place_text word texture numbers) 71 each n)
  answered_few short (Err e) few = omega arith

  -- they were put, or there are none
  pub answered_put : (l m : List ℕ) (at r : ℕ) (n : ℕ) (a : Result ℕ BookError) → a ≡ Ok n → Put l m at (places_text word texture numbers n) r → Put l m at (answered_text word texture a numbers) r
  unfolding answered_text
  answered_put l m at r n a e p = rw e p

  pub answered_none : (l : List ℕ) (at : ℕ) (e : BookError) (a : Result ℕ BookError) → a ≡ Err e → Put l l at (answered_text word texture a numbers) at
  unfolding answered_text
  answered_none l at e a h = rw h (put_none l at)

-- ---- a texture's line

module _ (texture : ℕ) (b : Book) where
  verdict_few : length (verdict_text b) ≤ 135
  unfolding verdict_text
  verdict_few = by (eqb b.mip_level_count 0) (is_filled b)
    where
      by : (s t : Bool) → length (pick s (line_text refused_word false (2 ∷ 0 ∷ 0 ∷ 0 ∷ 0 ∷ 0 ∷ [])) (line_text (pick t is_filled_word is_missing_word) false (b.mip_level_count ∷ b.array_layer_count ∷ []))) ≤ 135
      by true t = omega (arith, line_few refused_word false (2 ∷ 0 ∷ 0 ∷ 0 ∷ 0 ∷ 0 ∷ []))
      by false true = omega (arith, line_few is_filled_word false (b.mip_level_count ∷ b.array_layer_count ∷ []))
      by false false = omega (arith, line_few is_missing_word false (b.mip_level_count ∷ b.array_layer_count ∷ []))

  pub verdict_refused : b.mip_level_count ≡ 0 → line_text refused_word false (2 ∷ 0 ∷ 0 ∷ 0 ∷ 0 ∷ 0 ∷ []) ≡ verdict_text b
  unfolding verdict_text
  verdict_refused h = rw (eq-eqb b.mip_level_count 0 h)

  module _ (there : b.mip_level_count ≢ 0) where
    pub verdict_filled : is_filled b ≡ true → line_text is_filled_word false (b.mip_level_count ∷ b.array_layer_count ∷ []) ≡ verdict_text b
    unfolding verdict_text
    verdict_filled h = rw (ne_eqb b.mip_level_count 0 there, h)

    pub verdict_missing : is_filled b ≡ false → line_text is_missing_word false (b.mip_level_count ∷ b.array_layer_count ∷ []) ≡ verdict_text b
    unfolding verdict_text
    verdict_missing h = rw (ne_eqb b.mip_level_count 0 there, h)

  pub head_few : length (head_text texture b) ≤ 1024
  unfolding head_text
  head_few = omega (arith, length-append (spaced false (texture ∷ [])) (verdict_text b), length-append texture_word (spaced false (texture ∷ []) ++ verdict_text b), spaced_few false (texture ∷ []), verdict_few)
