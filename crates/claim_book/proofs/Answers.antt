-- What an update of any book answers.
-- Assumes nothing.
use Rattle.std.specs.Prelude.{Ok}
use Rattle.std.specs.List.{range_with_len}
use Rattle.std.proofs.lemmas.Bool.{true_from_ne_false}
use mathlib.Core.Path.{◌≡◌, refl, ap, ◌∙◌}
use mathlib.Core.Bool.{not, cond}
use mathlib.Core.List.{List, ◌∷◌}
use Prim.Native.Nat.{ℕ, zero, suc, ◌+◌, ◌*◌, ◌-◌}
use native.Mathlib.Omega.{arith}
use borrow.Author.Tests.{lt-ltb, le-ltb, ne_eqb}
use lib.Dec.{eqb}
use lib.ListN.{length, get_or}
use Rattle.measures.specs.declared.Range.{Range}
use Rattle.rule_init_ranges.specs.declared.MemoryInitKind.{MemoryInitKind}
use Rattle.rule_init_ranges.specs.declared.MemoryInitKind.TheVariants.{ImplicitlyInitialized, NeedsInitializedMemory}
use Rattle.rule_init_ranges.specs.declared.TextureInitRange.{TextureInitRange}
use Rattle.book_marks.specs.declared.Book.{Book}
use Rattle.book_marks.specs.Book.{is_marked, place_of}
use Rattle.book_marks.specs.Update.{Updated, layers_in, unmarked, if_needed, cleared}
use Rattle.claim_book.specs.Answers.{unset, unmarked_count, needed_of, needed, EveryAnswer}
use Rattle.claim_book.proofs.History.{marked_after}
use Rattle.claim_book.proofs.Updates.{inside_of, inside_by, is_outside_refused, is_short_refused, is_done, unchanged}

one_more : (mark z : ℕ) (ys : List ℕ) → length (cond (not (not (eqb mark 0))) (z ∷ ys) ys) ≡ unset mark + length ys
one_more zero z ys = omega arith
one_more (suc mark) z ys = rw (ne_eqb (suc mark) 0 (λ e. omega (arith, e))) (omega arith)

counted : (b : Book) (level z n : ℕ) → length (unmarked b.marks level (range_with_len z n)) ≡ unmarked_count b level z n
unfolding unmarked is_marked place_of
counted b level z zero = refl
counted b level z (suc n) =
    one_more (get_or b.marks (level * 256 + z) 0) z (unmarked b.marks level (range_with_len (z + 1) n))
    ∙ ap (λ (k : ℕ). unset (get_or b.marks (level * 256 + z) 0) + k) (counted b level (z + 1) n)

by_kind : (kind : MemoryInitKind) (b : Book) (level : ℕ) (layers : Range) → length (if_needed kind (unmarked b.marks level (layers_in layers))) ≡ needed_of kind b level layers
by_kind ImplicitlyInitialized b level layers = refl
by_kind NeedsInitializedMemory b level layers = counted b level layers.start (layers.end - layers.start)

pub needed_is : (b : Book) (r : TextureInitRange) → length (cleared b.marks r) ≡ needed b r
unfolding cleared
needed_is b r = by_kind r.kind b r.mip_level r.layers

pub every_answer : EveryAnswer
every_answer b r out =
    let count = needed_is b r in
    record {
      counts_stay = refl;
      marks = λ n e long level layer few thin. marked_after level layer (omega (arith, few)) (omega (arith, thin)) b r out n e long;
      outside = λ no. ap (λ (u : Updated). u.answer) (is_outside_refused b r out (true_from_ne_false _ (λ f. no (inside_of b r f))));
      short = λ i h. ap (λ (u : Updated). u.answer) (is_short_refused b r out (inside_by b r i) (lt-ltb _ _ (omega (arith, count, h))));
      room = λ i h. ap (λ (u : Updated). u.answer) (is_done b r out (inside_by b r i) (le-ltb _ _ (omega (arith, count, h)))) ∙ ap Ok count;
      unchanged = unchanged b r out;
    }
