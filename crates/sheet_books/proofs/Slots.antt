-- The ranges of a copy, applied to books one after the other.
-- Assumes nothing.
use Rattle.std.specs.Prelude.{Option, Some, None, Ok, Err}
use Rattle.std.proofs.lemmas.List.{set_past, get_or_past}
use mathlib.Core.Path.{◌≡◌, refl, sym, ap, ◌∙◌}
use mathlib.Core.List.{List, [], ◌++◌}
use Prim.Native.Nat.{ℕ, ◌+◌, ◌*◌, ◌-◌, ◌≤◌, ◌<◌}
use mathlib.Core.Bool.{true}
use lib.Dec.{leb}
use borrow.Author.Tests.{le-leb}
use native.Mathlib.Omega.{arith}
use native.Mathlib.Numerals.{add-one}
use lib.ListN.{length, set, drop, get_or, drop_of_length-le}
use lib.Seq.{drop-cons}
use Rattle.rule_init_ranges.specs.declared.TextureInitRange.{TextureInitRange}
use Rattle.copy_kinds.specs.declared.InitRange.{InitRange}
use Rattle.copy_kinds.specs.declared.InitRange.TheVariants.{Texture, Buffer}
use Rattle.book_marks.specs.declared.Book.{Book}
use Rattle.book_marks.specs.declared.BookError.{BookError}
use Rattle.book_marks.specs.declared.BookError.TheVariants.{InvalidBookRange}
use Rattle.book_marks.specs.Book.{blank}
use Rattle.book_marks.specs.Update.{is_outside, updated, book_after}
use Rattle.book_marks.proofs.Updates.{few_places}
use Rattle.conditions.specs.Conditions.{stop_if}
use Rattle.slices.specs.Put.{Put}
use Rattle.slices.proofs.Puts.{put_none, put_then, put_as, put_length}
use Rattle.sheet_books.specs.Books.{answered_text, places_text, clear_word, missing_word, book_of, room, update_of, update_text, update_books, slot_text, slot_books, slots_text, slots_books, level_text}
use Rattle.sheet_books.proofs.Lines.{answered_few, answered_put, answered_none}

update_few : (books : List Book) (texture : ℕ) (r : TextureInitRange) → length (update_text books texture r) ≤ 18176
unfolding update_text
update_few books texture r =
    answered_few clear_word texture (update_of books texture r).out (omega arith) (update_of books texture r).answer (few_places (book_of books texture) r room)

-- a texture without a book

outside_none : (r : TextureInitRange) → is_outside 0 0 r ≡ true
unfolding is_outside
outside_none r = let t : leb 0 r.mip_level ≡ true = le-leb 0 r.mip_level (omega arith) in rw t refl

answer_outside : (b : Book) (r : TextureInitRange) (out : List ℕ) → is_outside b.mip_level_count b.array_layer_count r ≡ true → (updated b r out).answer ≡ Err InvalidBookRange
unfolding updated stop_if
answer_outside b r out h = rw h refl

module _ (books : List Book) (texture : ℕ) (r : TextureInitRange) (past : length books ≤ texture) where
  no_answer : (b : Book) → b ≡ blank 0 0 → (updated b r room).answer ≡ Err InvalidBookRange
  no_answer b e = answer_outside b r room (rw e (outside_none r))

  pub no_text : (l : List ℕ) (at : ℕ) → Put l l at (update_text books texture r) at
  unfolding update_text
  no_text l at = answered_none clear_word texture _ l at InvalidBookRange _ (no_answer (book_of books texture) (get_or_past books texture (blank 0 0) past))

  pub no_books : books ≡ update_books books texture r
  unfolding update_books
  no_books = sym (set_past books texture _ past)

-- one with a book, whose update was put
module _ (books : List Book) (texture : ℕ) (r : TextureInitRange) (b : Book) (e : b ≡ book_of books texture) where
  pub update_put :
      (l m numbers : List ℕ) (at n q : ℕ) → (updated b r room).answer ≡ Ok n → numbers ≡ (updated b r room).out
      → Put l m at (places_text clear_word texture numbers n) q → Put l m at (update_text books texture r) q
  unfolding update_text
  update_put l m numbers at n q a o p =
      put_as (answered_put clear_word texture numbers l m at q n (updated b r room).answer a p)
      (ap (λ (ns : List ℕ). answered_text clear_word texture (updated b r room).answer ns) o ∙ ap (λ (x : Book). answered_text clear_word texture (updated x r room).answer (updated x r room).out) e)

  pub update_none : (l : List ℕ) (at : ℕ) (why : BookError) → (updated b r room).answer ≡ Err why → Put l l at (update_text books texture r) at
  unfolding update_text
  update_none l at why a =
      put_as (answered_none clear_word texture (updated b r room).out l at why (updated b r room).answer a)
      (ap (λ (x : Book). answered_text clear_word texture (updated x r room).answer (updated x r room).out) e)

  pub update_marks : (new : Book) → new ≡ book_after b (updated b r room) → set books texture new ≡ update_books books texture r
  unfolding update_books
  update_marks new n = ap (set books texture) (n ∙ ap (λ (x : Book). book_after x (updated x r room)) e)

slot_few : (books : List Book) (slot : Option InitRange) → length (slot_text books slot) ≤ 18176
unfolding slot_text
slot_few books (Some (Texture i r)) = update_few books i r
slot_few books (Some (Buffer i r)) = omega arith
slot_few books None = omega arith

-- what is put of the slots from the i-th on goes on with what was put before
module _ (l₀ l : List ℕ) (at next : ℕ) (books₀ books : List Book) (ss : List (Option InitRange)) (i : ℕ) where
  pub record Slotting : Type 0 where
    pub room : next + 18176 * (4 - i) ≤ length l
    pub same : length l ≡ length l₀
    pub rest : (m : List ℕ) (r : ℕ) → Put l m next (slots_text books (drop i ss)) r → Put l₀ m at (slots_text books₀ ss) r
    pub after : slots_books books (drop i ss) ≡ slots_books books₀ ss

module _ (books : List Book) (ss : List (Option InitRange)) (i : ℕ) where
  text_on : i < length ss → slots_text books (drop i ss) ≡ slot_text books (get_or ss i None) ++ slots_text (slot_books books (get_or ss i None)) (drop (i + 1) ss)
  unfolding slots_text
  text_on h = rw (drop-cons ss i None h, add-one i)

  books_on : i < length ss → slots_books books (drop i ss) ≡ slots_books (slot_books books (get_or ss i None)) (drop (i + 1) ss)
  unfolding slots_books
  books_on h = rw (drop-cons ss i None h, add-one i)

  text_end : length ss ≤ i → slots_text books (drop i ss) ≡ []
  unfolding slots_text
  text_end h = rw (drop_of_length-le ss h)

  books_end : length ss ≤ i → slots_books books (drop i ss) ≡ books
  unfolding slots_books
  books_end h = rw (drop_of_length-le ss h)

module _ {l₀ l : List ℕ} {at next : ℕ} {books₀ books : List Book} {ss : List (Option InitRange)} {i : ℕ} (u : Slotting l₀ l at next books₀ books ss i) (four : length ss ≡ 4) where
  pub slotting_on : (m : List ℕ) (r : ℕ) (new : List Book) → i < 4 → Put l m next (slot_text books (get_or ss i None)) r → new ≡ slot_books books (get_or ss i None) → Slotting l₀ m at r books₀ new ss (i + 1)
  slotting_on m r new h p e =
      let on : i < length ss = omega (arith, four) in
      record {
        room = omega (arith, p.next, put_length p, u.room, slot_few books (get_or ss i None));
        same = put_length p ∙ u.same;
        rest = λ m' r' q. u.rest m' r' (put_as (put_then p (put_as q (ap (λ (bs : List Book). slots_text bs (drop (i + 1) ss)) e))) (sym (text_on books ss i on)));
        after = rw e (sym (books_on books ss i on) ∙ u.after);
      }

  pub slotting_within : 4 ≤ i → next ≤ length l
  slotting_within h = omega (arith, u.room)

  pub slotting_text : 4 ≤ i → Put l₀ l at (slots_text books₀ ss) next
  slotting_text h = u.rest l next (put_as (put_none l next) (sym (text_end books ss i (omega (arith, four)))))

  pub slotting_books : 4 ≤ i → books ≡ slots_books books₀ ss
  slotting_books h = sym (books_end books ss i (omega (arith, four))) ∙ u.after

pub level_few : (texture : ℕ) (b : Book) (level : ℕ) → length (level_text texture b level) ≤ 18176
unfolding level_text
level_few texture b level = answered_few missing_word texture _ (omega arith) _ (few_places b _ room)
