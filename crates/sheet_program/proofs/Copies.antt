-- Copies and textures, written one after the other.
-- Assumes nothing.
use mathlib.Core.Path.{◌≡◌, refl, sym, ap, subst, ◌∙◌}
use mathlib.Core.Bool.{Bool, true, false}
use mathlib.Core.List.{List, [], ◌∷◌, ◌++◌, map}
use Prim.Native.Nat.{ℕ, suc, min, ◌+◌, ◌-◌, ◌≤◌, ◌<◌}
use native.Mathlib.Omega.{arith}
use native.Mathlib.Numerals.{add-one}
use lib.ListN.{length, take, drop, get_or, drop_of_length-le}
use lib.Seq.{drop-cons}
use Rattle.std.specs.Prelude.{Result, Ok, Err, IfOk, OnErr}
use Rattle.records.specs.declared.Device.{Device}
use Rattle.book_marks.specs.declared.Book.{Book}
use Rattle.refusals.specs.declared.TransferError.{TransferError}
use Rattle.plan_kinds.specs.declared.Plan.{Plan}
use Rattle.copy_kinds.specs.declared.Ranges.{Ranges}
use Rattle.slices.specs.Put.{Put}
use Rattle.slices.proofs.Puts.{put_take, put_length}
use Rattle.sheet_text.proofs.Puts.{line_few}
use Rattle.sheet_lines.specs.Lines.{sheet_word, sheet_text}
use Rattle.sheet_fields.specs.declared.Line.{Line}
use Rattle.sheet_sections.specs.declared.Parts.{Parts}
use Rattle.sheet_sections.specs.declared.SheetError.{SheetError}
use Rattle.sheet_sections.specs.Rows.{textures, buffers, copies, section_line, places_of}
use Rattle.sheet_sections.specs.Sheet.{sheet_of, line_number}
use Rattle.sheet_sections.proofs.RowLaws.{places_length}
use Rattle.sheet_copies.specs.CopyLines.{line_planned}
use Rattle.sheet_copies.specs.Answers.{texture_places, buffer_places, device_at, answer_at}
use Rattle.sheet_copies.proofs.Placed.{textures_placed, buffers_placed}
use Rattle.sheet_outcome.specs.declared.Outcome.{Outcome}
use Rattle.sheet_outcome.specs.declared.Outcome.TheVariants.{Refused, Ill}
use Rattle.sheet_outcome.specs.Outcome.{outcome_of}
use Rattle.sheet_calls.specs.declared.Error.{Error}
use Rattle.sheet_calls.specs.Calls.{Sends}
use Rattle.sheet_calls.specs.Delivery.{Delivered}
use Rattle.sheet_calls.proofs.WrittenParts.{Onto, onto_same, onto_end, onto_stop, onto_on, delivered_then, delivered_stop}
use Rattle.sheet_books.specs.Books.{copy_text_with, copy_books, texture_text, book_at, are_filled}
use Rattle.sheet_program.specs.Books.{copies_books_text, books_after, textures_text, first_books, last_books, books_text_from, books_text_of, books_outcome_from, books_outcome_of}

-- ---- what was put at a slice's start is what is sent

put_front : {l m t : List ℕ} {n : ℕ} → Put l m 0 t n → n ≤ length m → take n m ≡ t
put_front p h = put_take p (omega (arith, p.next, put_length p, h))

pub sent_text : {l m t : List ℕ} {n : ℕ} {whole : Bool} → Put l m 0 t n → n ≤ length m → Sends (take n m) whole → Sends t whole
sent_text {whole = whole} p h o = subst (λ (t : List ℕ). Sends t whole) (put_front p h) o

pub sheet_within : {l m : List ℕ} {r : ℕ} (n : ℕ) → Put l m 0 (sheet_text n) r → 64 ≤ length l → r ≤ length m
unfolding sheet_text
sheet_within n p h = omega (arith, p.next, put_length p, line_few sheet_word false (n ∷ []), h)

-- ---- copies

module _ (s ts bs : List ℕ) (device : Device) (total first : ℕ) (books₀ : List Book) where
  -- k copies were written, and the books are those after them
  pub record Copying (k at : ℕ) (books : List Book) : Type 0 where
    pub goes : Onto (copies_books_text s ts bs device total total first books₀) (copies_books_text s ts bs device total (total - k) at books)
    pub after : books_after s ts bs device (total - k) at books ≡ books_after s ts bs device total first books₀

  pub copying_none : Copying 0 first books₀
  copying_none = let z : total - 0 ≡ total = omega arith in record { goes = onto_same _ _ (rw z refl); after = rw z refl }

  module _ (k at : ℕ) (books : List Book) (c : Copying k at books) where
    pub copying_end : total ≤ k → Delivered (copies_books_text s ts bs device total total first books₀) true
    unfolding copies_books_text
    copying_end h = let z : total - k ≡ 0 = omega arith in onto_end c.goes (rw z refl)

    pub copying_books : total ≤ k → books ≡ books_after s ts bs device total first books₀
    unfolding books_after
    copying_books h = let z : total - k ≡ 0 = omega arith in rw z refl ∙ c.after

    module _ (on : k < total) (l : Line) (a : Result (Plan × Ranges) TransferError) (line : l ≡ section_line s copies at) (answer : a ≡ line_planned s ts bs device l) where
      text_on : copies_books_text s ts bs device total (total - k) at books ≡ copy_text_with books k a ++ copies_books_text s ts bs device total (total - (k + 1)) l.next (copy_books books a)
      unfolding copies_books_text answer_at
      text_on =
          let p : total - k ≡ suc (total - (k + 1)) = omega arith in
          let q : total - suc (total - (k + 1)) ≡ k = omega arith in
          rw (p, q, answer, line) refl

      books_on : books_after s ts bs device (total - k) at books ≡ books_after s ts bs device (total - (k + 1)) l.next (copy_books books a)
      unfolding books_after answer_at
      books_on = let p : total - k ≡ suc (total - (k + 1)) = omega arith in rw (p, answer, line) refl

      pub copying_stop : Sends (copy_text_with books k a) false → Delivered (copies_books_text s ts bs device total total first books₀) false
      copying_stop o = onto_stop c.goes _ _ text_on o

      pub copying_on : Sends (copy_text_with books k a) true → (new : List Book) → new ≡ copy_books books a → Copying (k + 1) l.next new
      copying_on o new e = record { goes = rw e (onto_on c.goes _ _ text_on o); after = rw e (sym books_on ∙ c.after) }

-- ---- textures

module _ (books : List Book) (i : ℕ) (goes : Onto (textures_text 0 books) (textures_text i (drop i books))) where
  pub texturing_end : length books ≤ i → Delivered (textures_text 0 books) true
  unfolding textures_text
  texturing_end h = onto_end goes (rw (drop_of_length-le books h) refl)

  module _ (h : i < length books) (b : Book) (d : Book) (e : b ≡ get_or books i d) where
    text_at : textures_text i (drop i books) ≡ texture_text i b ++ textures_text (i + 1) (drop (i + 1) books)
    unfolding textures_text
    text_at = rw (drop-cons books i d h, e, add-one i) refl

    pub texturing_stop : Sends (texture_text i b) false → Delivered (textures_text 0 books) false
    texturing_stop o = onto_stop goes _ _ text_at o

    pub texturing_on : Sends (texture_text i b) true → Onto (textures_text 0 books) (textures_text (i + 1) (drop (i + 1) books))
    texturing_on o = onto_on goes _ _ text_at o

-- ---- a good sheet

pub on_err : {A : Type 0} {E : Type 0} {P : Type 0} (r : Result A E) → P → OnErr r P
on_err (Ok a) h = tt
on_err (Err e) h = h

module _ (s : List ℕ) (p : Parts) (good : Ok p ≡ sheet_of s) where
  pub good_places : (ts : List ℕ) → ts ≡ places_of s textures (min p.textures.count 64) p.textures.first → ts ≡ texture_places s p
  good_places ts e = e ∙ textures_placed s p good

  pub good_count : length (texture_places s p) ≡ p.textures.count
  unfolding texture_places
  good_count = places_length s textures p.textures.count p.textures.first

  module _ (ts bs : List ℕ) (device : Device) (books : List Book) (its_textures : ts ≡ texture_places s p)
      (at_buffers : bs ≡ places_of s buffers (min p.buffers.count 64) p.buffers.first) (its_device : device ≡ device_at s p) (made : books ≡ map (book_at s) ts) where
    abbrev copied : List ℕ
    copied = copies_books_text s ts bs device p.copies.count p.copies.count p.copies.first books

    its_buffers : bs ≡ buffer_places s p
    its_buffers = at_buffers ∙ buffers_placed s p good

    first_are : books ≡ first_books s p
    unfolding first_books
    first_are = made ∙ ap (map (book_at s)) its_textures

    text_is : copied ++ textures_text 0 (books_after s ts bs device p.copies.count p.copies.first books) ≡ books_text_from s (Ok p)
    unfolding books_text_from last_books
    text_is = rw (its_textures, its_buffers, its_device, first_are) refl

    last_is : books_after s ts bs device p.copies.count p.copies.first books ≡ last_books s p
    unfolding last_books
    last_is = rw (its_textures, its_buffers, its_device, first_are) refl

    pub copies_broken : Delivered copied false → Delivered (books_text_from s (Ok p)) false
    copies_broken d = subst (λ (t : List ℕ). Delivered t false) text_is (delivered_stop copied _ d)

    module _ (last : List Book) (d : Delivered copied true) (after : last ≡ books_after s ts bs device p.copies.count p.copies.first books) where
      pub textures_written : (whole : Bool) → Delivered (textures_text 0 last) whole → Delivered (books_text_from s (Ok p)) whole
      textures_written whole e =
          subst (λ (t : List ℕ). Delivered t whole) (ap (λ (b : List Book). copied ++ textures_text 0 b) after ∙ text_is) (delivered_then copied (textures_text 0 last) d e)

      pub all_filled : (t : Bool) (o : Outcome) → t ≡ are_filled last → t ≡ true → o ≡ outcome_of s → o ≡ books_outcome_from s (Ok p)
      unfolding books_outcome_from
      all_filled t o f e q = rw (← last_is, ← after, ← f, e) q

      pub some_missing : (t : Bool) → t ≡ are_filled last → t ≡ false → Refused ≡ books_outcome_from s (Ok p)
      unfolding books_outcome_from
      some_missing t f e = rw (← last_is, ← after, ← f, e) refl

-- ---- any sheet

module _ (s : List ℕ) (r : Result Parts SheetError) (read : r ≡ sheet_of s) where
  pub text_for : (x : Result Parts SheetError) → r ≡ x → books_text_from s x ≡ books_text_of s
  unfolding books_text_of
  text_for x e = ap (books_text_from s) (sym e ∙ read)

  pub outcome_for : (x : Result Parts SheetError) → r ≡ x → books_outcome_from s x ≡ books_outcome_of s
  unfolding books_outcome_of
  outcome_for x e = ap (books_outcome_from s) (sym e ∙ read)

  pub good_whole :
      (p : Parts) → r ≡ Ok p → (x : Result Outcome Error) → IfOk x (λ o. (o ≡ books_outcome_from s (Ok p)) × Delivered (books_text_from s (Ok p)) true)
      → IfOk x (λ o. (o ≡ books_outcome_of s) × Delivered (books_text_of s) true)
  good_whole p e (Ok o) h = (h.0 ∙ outcome_for (Ok p) e, subst (λ (t : List ℕ). Delivered t true) (text_for (Ok p) e) h.1)
  good_whole p e (Err why) h = tt

  pub good_broken : (p : Parts) → r ≡ Ok p → (x : Result Outcome Error) → OnErr x (Delivered (books_text_from s (Ok p)) false) → OnErr x (Delivered (books_text_of s) false)
  good_broken p e (Ok o) h = tt
  good_broken p e (Err why) h = subst (λ (t : List ℕ). Delivered t false) (text_for (Ok p) e) h

  module _ (e : SheetError) (was : r ≡ Err e) (line : ℕ) (its_line : line ≡ line_number e) where
    pub ill_written : (whole : Bool) → Delivered (sheet_text line) whole → Delivered (books_text_of s) whole
    unfolding books_text_from
    ill_written whole d = subst (λ (t : List ℕ). Delivered t whole) (ap sheet_text its_line ∙ text_for (Err e) was) d

    pub ill_outcome : Ill ≡ books_outcome_of s
    unfolding books_outcome_from
    ill_outcome = outcome_for (Err e) was
