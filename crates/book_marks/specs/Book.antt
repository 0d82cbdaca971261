-- A book of what has been written of a texture: its creation, and what its marks say.
use Rattle.std.specs.Prelude.{ℕ, ◌+◌, ◌*◌, Bool, not, List, [], ◌∷◌, eqb, leb, ltb, get_or, replicate, Result, Ok, Err}
use Rattle.std.specs.List.{range_with_len, list_all}
use Rattle.conditions.specs.Conditions.{every, stop_if, ◌$◌}
use Rattle.measures.specs.declared.Extent3d.{Extent3d}
use Rattle.mip_levels.specs.declared.TextureDimension.{TextureDimension}
use Rattle.mip_levels.specs.declared.TextureDimension.TheVariants.{D1, D2, D3}
use Rattle.mip_levels.specs.Level.{texture_dimension}
use Rattle.refusals.specs.declared.Refusal.{Refusal}
use Rattle.refusals.specs.Numbers.{six}
use Rattle.records.specs.declared.Texture.{Texture}
use Rattle.records.specs.Limits.{max_levels, max_layers}
use Rattle.records.specs.Bounds.{within, texture_in_bounds}
use Rattle.book_marks.specs.declared.Book.{Book}
use Rattle.book_marks.specs.declared.BookError.{BookError}
use Rattle.book_marks.specs.declared.BookError.TheVariants.{InvalidTextureRecord, InvalidBookRange, SliceTooShort}

-- number, side, dimension, start, end, limit
unfoldable pub refusal_of : BookError → Refusal
refusal_of InvalidTextureRecord = six 2 0 0 0 0 0
refusal_of InvalidBookRange = six 39 0 0 0 0 0
refusal_of SliceTooShort = six 38 0 0 0 0 0

-- ---- creation

-- the layers of a 2D texture; in 1D and 3D a whole level is layer 0
unfoldable pub layer_count : TextureDimension → Extent3d → ℕ
layer_count D1 e = 1
layer_count D2 e = e.depth_or_array_layers
layer_count D3 e = 1

-- a mark for each level and layer that any texture has
abbrev pub mark_count : ℕ
mark_count = max_levels * max_layers

abbrev pub book_with : ℕ → ℕ → List ℕ → Book
book_with levels layers marks = record { mip_level_count = levels; array_layer_count = layers; marks = marks }

-- nothing is written of so many levels and layers
abbrev pub blank : ℕ → ℕ → Book
blank levels layers = book_with levels layers (replicate mark_count 0)

unfoldable pub created : Texture → Result Book BookError
created t =
    stop_if (not (texture_in_bounds t)) (Err InvalidTextureRecord) $  -- 2
    Ok (blank t.mip_level_count (layer_count (texture_dimension t.dimension) t.size))

-- ---- what the marks say

-- the mark of a level and a layer
unfoldable pub place_of : ℕ → ℕ → ℕ
place_of level layer = level * max_layers + layer

unfoldable pub is_marked : List ℕ → ℕ → ℕ → Bool
is_marked marks level layer = not (eqb (get_or marks (place_of level layer) 0) 0)

-- a level and layer of the book, which has marks for all that it counts
unfoldable pub is_written : Book → ℕ → ℕ → Bool
is_written b level layer =
    every
    (leb b.mip_level_count max_levels
    ∷ leb b.array_layer_count max_layers
    ∷ ltb level b.mip_level_count
    ∷ ltb layer b.array_layer_count
    ∷ is_marked b.marks level layer
    ∷ [])

-- every layer of a level, every level and layer
unfoldable pub is_level_filled : List ℕ → ℕ → ℕ → Bool
is_level_filled marks layers level = list_all (λ layer. is_marked marks level layer) (range_with_len 0 layers)

-- a book without a level or a layer is of no texture, and is not filled
unfoldable pub is_filled : Book → Bool
is_filled b =
    every
    (within 1 b.mip_level_count max_levels
    ∷ within 1 b.array_layer_count max_layers
    ∷ list_all (λ level. is_level_filled b.marks b.array_layer_count level) (range_with_len 0 b.mip_level_count)
    ∷ [])
