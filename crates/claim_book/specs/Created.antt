-- The book of a texture of which nothing is written.
use Rattle.std.specs.Prelude.{Ok, Err, ◌≡◌, ℕ, ◌==◌, if◌then◌else◌, length, get_or}
use Rattle.records.specs.declared.Texture.{Texture}
use Rattle.book_marks.specs.declared.Book.{Book}
use Rattle.book_marks.specs.declared.BookError.TheVariants.{InvalidTextureRecord}
use Rattle.claim_webgpu_copies.specs.Bounds.{TextureInBounds}
-- what is judged
use Rattle.book_marks.specs.Book.{created}

-- the layers of a 2D texture; in 1D and 3D a whole level is layer 0
abbrev pub layers_of : Texture → ℕ
layers_of t = if t.dimension == 2 then t.size.depth_or_array_layers else 1

-- 14 levels of 256 layers have a mark each
pub record Blank (t : Texture) (b : Book) : Type 0 where
  pub levels : b.mip_level_count ≡ t.mip_level_count
  pub layers : b.array_layer_count ≡ layers_of t
  pub marks : length b.marks ≡ 3584
  pub unset : (k : ℕ) → get_or b.marks k 0 ≡ 0

pub record EveryCreation : Type 0 where
  pub made : (t : Texture) → TextureInBounds t → (b : Book) × (created t ≡ Ok b) × Blank t b
  pub refused : (t : Texture) → (TextureInBounds t → ⊥) → created t ≡ Err InvalidTextureRecord
