-- A region's numbers, and the slice that holds them: 01, the job sheet.
use Prim.{Unit}
use Rattle.std.specs.Prelude.{ℕ, ◌-◌, ◌^◌, ◌<◌, length, drop, Option, Some, None}
use mathlib.Core.List.{List, [], ◌∷◌, ◌++◌, map, flat_map}
use Rattle.rule_copy_range.specs.declared.CopyExtent.{CopyExtent}
use Rattle.rule_selectors.specs.declared.TextureCopyBase.{TextureCopyBase}
use Rattle.claim_region_output.specs.Asking.{Region, buffers, buffer_texture, textures}

pub data Number : Type 0 where
  given : ℕ → Number
  absent : Number

unfoldable pub optional : Option ℕ → Number
optional (Some n) = given n
optional None = absent

-- level, layer, x, y, z, aspect bits
abbrev pub base_numbers : TextureCopyBase → List Number
base_numbers b =
    given b.mip_level ∷ given b.array_layer ∷ given b.origin.x.0 ∷ given b.origin.y.0 ∷ given b.origin.z ∷ given b.aspect.0 ∷ []

-- w, h, d
abbrev pub sides : CopyExtent → List Number
sides e = given e.width.0 ∷ given e.height.0 ∷ given e.depth ∷ []

-- between buffers two offsets, size; with a texture offset, bytes, rows, place, size; between textures two places, size
unfoldable pub numbers : Region → List Number
numbers (buffers r) = given r.src_offset ∷ given r.dst_offset ∷ given r.size ∷ []
numbers (buffer_texture r) = given r.offset ∷ optional r.bytes_per_row ∷ optional r.rows_per_image ∷ (base_numbers r.base ++ sides r.size)
numbers (textures r) = base_numbers r.src ++ (base_numbers r.dst ++ sides r.size)

-- in the slice an absent number is 2 ^ 64 − 1
unfoldable pub slot : Number → ℕ
slot (given n) = n
slot absent = 2 ^ 64 - 1

unfoldable pub row : Region → List ℕ
row r = map slot (numbers r)

-- the regions' numbers in sequence
unfoldable pub slots : List Region → List ℕ
slots rs = flat_map row rs

-- a slice that holds them from its start, every number past them as it was
unfoldable pub written : List Region → List ℕ → List ℕ
written rs slice = slots rs ++ drop (length (slots rs)) slice

-- every number that is given is below another
abbrev pub Below : ℕ → List Number → Type 0
Below limit [] = Unit {0}
Below limit (given n ∷ ns) = (n < limit) × Below limit ns
Below limit (absent ∷ ns) = Below limit ns
