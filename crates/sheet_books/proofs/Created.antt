-- Books created one after the other.
-- Assumes nothing.
use Rattle.std.proofs.lemmas.List.{ext_get_or, get_or-map, get_or-set_same, get_or-set_other, length-set, length-map}
use mathlib.Core.Path.{◌≡◌, refl, sym, ◌∙◌}
use mathlib.Core.List.{List, map}
use mathlib.Core.Bool.{Bool, true, false}
use lib.Dec.{ltb}
use borrow.Author.Tests.{ltb-true, ltb-false}
use Prim.Native.Nat.{ℕ, ◌+◌, ◌≤◌, ◌<◌}
use native.Mathlib.Omega.{arith}
use lib.ListN.{length, set, get_or}
use Rattle.book_marks.specs.declared.Book.{Book}
use Rattle.book_marks.specs.Book.{blank}
use Rattle.sheet_books.specs.Books.{book_at}

-- the first i books are those of the first i places
module _ (s places : List ℕ) where
  abbrev pub Creates : List Book → ℕ → Type 0
  Creates books i = (length books ≡ length places) × ((k : ℕ) (d : Book) → k < i → get_or books k d ≡ book_at s (get_or places k 0))

  module _ (books : List Book) (i : ℕ) (c : Creates books i) where
    pub one_created : i < length places → (b : Book) → b ≡ book_at s (get_or places i 0) → Creates (set books i b) (i + 1)
    one_created h b e = (length-set books i b ∙ c.0, λ k d low. by k d low (ltb k i) refl)
      where
        by : (k : ℕ) (d : Book) → k < i + 1 → (t : Bool) → ltb k i ≡ t → get_or (set books i b) k d ≡ book_at s (get_or places k 0)
        by k d low true t = get_or-set_other books i k b d (λ e. let under = ltb-true k i t in omega arith) ∙ c.1 k d (ltb-true k i t)
        by k d low false t =
            let same : k ≡ i = let over = ltb-false k i t in omega arith in
            rw same (get_or-set_same books i b d (omega (arith, c.0, h)) ∙ e)

    pub all_created : length places ≤ i → books ≡ map (book_at s) places
    all_created h = ext_get_or (blank 0 0) books (map (book_at s) places) (c.0 ∙ sym (length-map places (book_at s))) (λ k low. c.1 k (blank 0 0) (omega (arith, c.0)) ∙ sym (get_or-map (book_at s) places k 0 (blank 0 0) (omega (arith, c.0))))
