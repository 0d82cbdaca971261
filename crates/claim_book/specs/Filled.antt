-- What the book answers when it is asked: whether a level and layer was written, and whether all were.
use Rattle.std.specs.Prelude.{true, ◌≡◌, ◌↔◌, ℕ, ◌<◌, List}
use Rattle.records.specs.declared.Texture.{Texture}
use Rattle.rule_init_ranges.specs.declared.MemoryInitKind.TheVariants.{NeedsInitializedMemory}
use Rattle.rule_init_ranges.specs.declared.TextureInitRange.{TextureInitRange}
use Rattle.book_marks.specs.declared.Book.{Book}
use Rattle.claim_book.specs.Created.{layers_of}
use Rattle.claim_book.specs.History.{History, HeldBy}
-- what is judged
use Rattle.book_marks.specs.Book.{is_written, is_filled}
use Rattle.book_marks.specs.Update.{updated, missing}

-- a level and layer of the texture
pub record Has (t : Texture) (level layer : ℕ) : Type 0 where
  pub level_there : level < t.mip_level_count
  pub layer_there : layer < layers_of t

-- all layers of a level
abbrev pub whole : Texture → ℕ → TextureInitRange
whole t level = record { mip_level = level; layers = record { start = 0; end = layers_of t }; kind = NeedsInitializedMemory }

pub record Told (t : Texture) (b : Book) (rs : List TextureInitRange) : Type 0 where
  pub written : (level layer : ℕ) → (is_written b level layer ≡ true) ↔ (Has t level layer × HeldBy rs level layer)
  -- what is missing of a level is what an update with all its layers would have cleared
  pub missed : (level : ℕ) (out : List ℕ) → missing b level out ≡ updated b (whole t level) out
  pub filled : (is_filled b ≡ true) ↔ ((level layer : ℕ) → Has t level layer → HeldBy rs level layer)

abbrev pub EveryFilled : Type 0
EveryFilled = (t : Texture) (b : Book) (rs : List TextureInitRange) → History t b rs → Told t b rs
