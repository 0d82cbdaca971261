-- The extent of a level, and how many levels a texture may have.
use Rattle.std.specs.Prelude.{ℕ, zero, suc, ◌+◌, ◌/◌, max, eqb, leb}
use Rattle.conditions.specs.Conditions.{pick, stop_if, ◌$◌}
use Rattle.measures.specs.declared.Texels.{Texels}
use Rattle.measures.specs.declared.Extent3d.{Extent3d}
use Rattle.measures.specs.Measure.{texels}
use Rattle.mip_levels.specs.declared.TextureDimension.{TextureDimension}
use Rattle.mip_levels.specs.declared.TextureDimension.TheVariants.{D1, D2, D3}

-- n halved as many times
unfoldable pub halved : ℕ → ℕ → ℕ
halved n zero = n
halved n (suc times) = halved n times / 2

-- a side of a level: halved level times, at least 1
unfoldable pub side_at : ℕ → ℕ → ℕ
side_at n level = max 1 (halved n level)

unfoldable pub texels_at : Texels → ℕ → Texels
texels_at n level = texels (side_at n.0 level)

abbrev pub extent : Texels → Texels → ℕ → Extent3d
extent width height depth = record { width = width; height = height; depth_or_array_layers = depth }

-- the logical extent of a level: 2D keeps its layers, and 1D has neither height nor depth
unfoldable pub mip_level_size : TextureDimension → Extent3d → ℕ → Extent3d
mip_level_size D1 e level = extent (texels_at e.width level) (texels 1) 1
mip_level_size D2 e level = extent (texels_at e.width level) (texels_at e.height level) e.depth_or_array_layers
mip_level_size D3 e level = extent (texels_at e.width level) (texels_at e.height level) (side_at e.depth_or_array_layers level)

-- how many halvings bring n to 1; n steps are enough
unfoldable pub halvings : ℕ → ℕ → ℕ
halvings zero n = 0
halvings (suc steps) n = pick (leb n 1) 0 (suc (halvings steps (n / 2)))

-- the most levels of a texture whose largest side is n
unfoldable pub max_mip_levels : ℕ → ℕ
max_mip_levels n = halvings n n + 1

-- the dimension that a texture record's number names
unfoldable pub texture_dimension : ℕ → TextureDimension
texture_dimension n =
    stop_if (eqb n 1) D1 $
    stop_if (eqb n 3) D3 $
    D2
