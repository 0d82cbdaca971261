-- What a texture's book marks, over any sequence of updates from its creation (document 02, request 3).
use Rattle.std.specs.Prelude.{Ok, Err, ◌≡◌, ◌⊎◌, ◌↔◌, ℕ, ◌+◌, ◌*◌, ◌≤◌, ◌<◌, List, [], ◌∷◌, get_or}
use Rattle.records.specs.declared.Texture.{Texture}
use Rattle.rule_init_ranges.specs.declared.TextureInitRange.{TextureInitRange}
use Rattle.book_marks.specs.declared.Book.{Book}
use Rattle.book_marks.specs.declared.BookError.{BookError}
-- what is judged
use Rattle.book_marks.specs.Book.{created}
use Rattle.book_marks.specs.Update.{updated}

-- the book with other marks: its counts stay
abbrev pub with_marks : Book → List ℕ → Book
with_marks b marks = record { mip_level_count = b.mip_level_count; array_layer_count = b.array_layer_count; marks = marks }

-- The book b of a texture, and the ranges applied to it so far, the last first: those of refused updates are not among them. Each update is lent
-- some slice.
pub data History (t : Texture) : Book → List TextureInitRange → Type 0 where
  creation : (b : Book) → created t ≡ Ok b → History t b []
  applied :
      (b : Book) (rs : List TextureInitRange) → History t b rs
      → (r : TextureInitRange) (out : List ℕ) (n : ℕ) → (updated b r out).answer ≡ Ok n → History t (with_marks b (updated b r out).marks) (r ∷ rs)
  refused :
      (b : Book) (rs : List TextureInitRange) → History t b rs
      → (r : TextureInitRange) (out : List ℕ) (e : BookError) → (updated b r out).answer ≡ Err e → History t (with_marks b (updated b r out).marks) rs

-- the range is of that level, and the layer lies in it: from its start up to, not including, its end
pub record Holds (r : TextureInitRange) (level layer : ℕ) : Type 0 where
  pub level_is : r.mip_level ≡ level
  pub from : r.layers.start ≤ layer
  pub below : layer < r.layers.end

-- some range of the list holds the level and layer
abbrev pub HeldBy : List TextureInitRange → ℕ → ℕ → Type 0
HeldBy [] level layer = ⊥
HeldBy (r ∷ rs) level layer = Holds r level layer ⊎ HeldBy rs level layer

-- the mark of level l and layer z is at l × 256 + z, and is not 0
abbrev pub Marked : Book → ℕ → ℕ → Type 0
Marked b level layer = 0 < get_or b.marks (level * 256 + layer) 0

-- a level and layer is marked exactly when some earlier applied range held it
abbrev pub EveryMark : Type 0
EveryMark =
    (t : Texture) (b : Book) (rs : List TextureInitRange) → History t b rs
    → (level layer : ℕ) → level < 14 → layer < 256 → Marked b level layer ↔ HeldBy rs level layer
