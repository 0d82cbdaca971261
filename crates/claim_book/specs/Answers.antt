-- What an update answers, for any book that a caller lends, also one that no texture has.
use Rattle.std.specs.Prelude.{Ok, Err, ◌≡◌, ◌⊎◌, ◌↔◌, ℕ, zero, suc, ◌+◌, ◌-◌, ◌*◌, ◌<◌, ◌≤◌, List, length, get_or}
use Rattle.measures.specs.declared.Range.{Range}
use Rattle.rule_init_ranges.specs.declared.MemoryInitKind.{MemoryInitKind}
use Rattle.rule_init_ranges.specs.declared.MemoryInitKind.TheVariants.{ImplicitlyInitialized, NeedsInitializedMemory}
use Rattle.rule_init_ranges.specs.declared.TextureInitRange.{TextureInitRange}
use Rattle.book_marks.specs.declared.Book.{Book}
use Rattle.book_marks.specs.declared.BookError.{BookError}
use Rattle.book_marks.specs.declared.BookError.TheVariants.{InvalidBookRange, SliceTooShort}
use Rattle.claim_book.specs.History.{with_marks, Holds, Marked}
-- what is judged
use Rattle.book_marks.specs.Update.{updated, book_after}

-- there are marks for all that the book counts, the range is of one of its levels, does not go backward, and ends within its layers
pub record Inside (b : Book) (r : TextureInitRange) : Type 0 where
  pub levels_few : b.mip_level_count ≤ 14
  pub layers_few : b.array_layer_count ≤ 256
  pub level : r.mip_level < b.mip_level_count
  pub rising : r.layers.start ≤ r.layers.end
  pub ending : r.layers.end ≤ b.array_layer_count

-- 1 for a mark that is not set
abbrev pub unset : ℕ → ℕ
unset zero = 1
unset (suc mark) = 0

-- how many of n layers from z on have no mark
abbrev pub unmarked_count : Book → ℕ → ℕ → ℕ → ℕ
unmarked_count b level z zero = 0
unmarked_count b level z (suc n) = unset (get_or b.marks (level * 256 + z) 0) + unmarked_count b level (z + 1) n

-- how many layers have to be cleared
abbrev pub needed_of : MemoryInitKind → Book → ℕ → Range → ℕ
needed_of ImplicitlyInitialized b level layers = 0
needed_of NeedsInitializedMemory b level layers = unmarked_count b level layers.start (layers.end - layers.start)

abbrev pub needed : Book → TextureInitRange → ℕ
needed b r = needed_of r.kind b r.mip_level r.layers

pub record Answers (b : Book) (r : TextureInitRange) (out : List ℕ) : Type 0 where
  -- the book afterwards: its counts stay
  pub counts_stay : book_after b (updated b r out) ≡ with_marks b (updated b r out).marks
  -- what the range holds is marked; any other level and layer is marked where it was before
  pub marks :
      (n : ℕ) → (updated b r out).answer ≡ Ok n → length b.marks ≡ 3584
      → (level layer : ℕ) → level < 14 → layer < 256
      → Marked (book_after b (updated b r out)) level layer ↔ (Marked b level layer ⊎ Holds r level layer)
  pub outside : (Inside b r → ⊥) → (updated b r out).answer ≡ Err InvalidBookRange
  -- each layer takes two numbers
  pub short : Inside b r → length out < 2 * needed b r → (updated b r out).answer ≡ Err SliceTooShort
  pub room : Inside b r → 2 * needed b r ≤ length out → (updated b r out).answer ≡ Ok (needed b r)
  pub unchanged : (e : BookError) → (updated b r out).answer ≡ Err e → ((updated b r out).marks ≡ b.marks) × ((updated b r out).out ≡ out)

abbrev pub EveryAnswer : Type 0
EveryAnswer = (b : Book) (r : TextureInitRange) (out : List ℕ) → Answers b r out
