-- What applying a texture range does to a book, and which layers of a level are not written.
use Rattle.std.specs.Prelude.{ℕ, ◌*◌, ◌-◌, Bool, not, ◌||◌, List, [], ◌∷◌, leb, ltb, length, replicate, Result, Ok, Err}
use Rattle.std.specs.List.{range_with_len, filter, flat_map}
use Rattle.std.proofs.lemmas.List.Edits.{sets}
use Rattle.conditions.specs.Conditions.{stop_if, ◌$◌}
use Rattle.measures.specs.declared.Range.{Range}
use Rattle.records.specs.Limits.{max_levels, max_layers}
use Rattle.rule_init_ranges.specs.declared.MemoryInitKind.{MemoryInitKind}
use Rattle.rule_init_ranges.specs.declared.MemoryInitKind.TheVariants.{ImplicitlyInitialized, NeedsInitializedMemory}
use Rattle.rule_init_ranges.specs.declared.TextureInitRange.{TextureInitRange}
use Rattle.book_marks.specs.declared.Book.{Book}
use Rattle.book_marks.specs.declared.BookError.{BookError}
use Rattle.book_marks.specs.declared.BookError.TheVariants.{InvalidBookRange, SliceTooShort}
use Rattle.book_marks.specs.Book.{book_with, place_of, is_marked}

-- of a book of so many levels and layers: more than there are marks for, a level past them, a first layer above the end, an end above the
-- book's layers
unfoldable pub is_outside : ℕ → ℕ → TextureInitRange → Bool
is_outside levels layers r =
    ltb max_levels levels
    || (ltb max_layers layers
    || (leb levels r.mip_level
    || (ltb r.layers.end r.layers.start
    || ltb layers r.layers.end)))

-- the layers of a range, rising
abbrev pub layers_in : Range → List ℕ
layers_in r = range_with_len r.start (r.end - r.start)

-- of some layers of a level, those without a mark
unfoldable pub unmarked : List ℕ → ℕ → List ℕ → List ℕ
unmarked marks level layers = filter (λ z. not (is_marked marks level z)) layers

abbrev pub if_needed : MemoryInitKind → List ℕ → List ℕ
if_needed ImplicitlyInitialized layers = []
if_needed NeedsInitializedMemory layers = layers

-- the layers that have to be cleared before a copy with this range: an implicit one needs none
unfoldable pub cleared : List ℕ → TextureInitRange → List ℕ
cleared marks r = if_needed r.kind (unmarked marks r.mip_level (layers_in r.layers))

-- level and layer of each
unfoldable pub place_numbers : ℕ → List ℕ → List ℕ
place_numbers level layers = flat_map (λ z. level ∷ z ∷ []) layers

-- every layer of the range has a mark
unfoldable pub marked : List ℕ → TextureInitRange → List ℕ
marked marks r = sets marks (place_of r.mip_level r.layers.start) (replicate (r.layers.end - r.layers.start) 1)

-- the answer, and every mark and every number of the slice afterwards
pub record Updated : Type 0 where
  pub answer : Result ℕ BookError
  pub marks : List ℕ
  pub out : List ℕ

-- a range is applied, and a slice lent for the places that have to be cleared
unfoldable pub updated : Book → TextureInitRange → List ℕ → Updated
updated b r out =
    stop_if (is_outside b.mip_level_count b.array_layer_count r) (record { answer = Err InvalidBookRange; marks = b.marks; out = out }) $  -- 39
    stop_if (ltb (length out) (2 * length (cleared b.marks r))) (record { answer = Err SliceTooShort; marks = b.marks; out = out }) $  -- 38
    record {
      answer = Ok (length (cleared b.marks r));
      marks = marked b.marks r;
      out = sets out 0 (place_numbers r.mip_level (cleared b.marks r));
    }

-- the book afterwards: its counts stay
abbrev pub book_after : Book → Updated → Book
book_after b u = book_with b.mip_level_count b.array_layer_count u.marks

-- all layers of a level, as a range that needs them written
abbrev pub whole_level : Book → ℕ → TextureInitRange
whole_level b level =
    record { mip_level = level; layers = record { start = 0; end = b.array_layer_count }; kind = NeedsInitializedMemory }

-- what an update with a whole level would answer and write: its layers that are not written. Of this only the answer and the slice
-- are used: nothing is marked.
abbrev pub missing : Book → ℕ → List ℕ → Updated
missing b level out = updated b (whole_level b level) out
