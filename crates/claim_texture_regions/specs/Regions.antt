-- The regions of a copy between textures, from document 01: its records, formats, aspects and module 8. Nothing here is the planner's
-- but the types.
use Rattle.std.specs.Prelude.{Bool, true, ◌&&◌, ◌||◌, cond, List, [], ◌∷◌, ℕ, zero, suc, ◌+◌, ◌-◌, ◌*◌, ◌/◌, ◌%◌, min, eqb, ltb, length, get_or}
use Rattle.measures.specs.declared.Extent3d.{Extent3d}
use Rattle.mip_levels.specs.declared.TextureDimension.{TextureDimension}
use Rattle.mip_levels.specs.declared.TextureDimension.TheVariants.{D1, D2, D3}
use Rattle.formats.specs.declared.TextureAspect.{TextureAspect}
use Rattle.formats.specs.declared.TextureAspect.TheVariants.{All, StencilOnly, DepthOnly, Plane0, Plane1, Plane2}
use Rattle.rule_copy_range.specs.declared.CopyExtent.{CopyExtent}
use Rattle.rule_selectors.specs.declared.TextureCopyBase.{TextureCopyBase}
use Rattle.records.specs.declared.TextureSide.{TextureSide}
use Rattle.plan_textures.specs.declared.TextureCopy.{TextureCopy}

pub record Copy : Type 0 where
  pub src : TextureSide
  pub dst : TextureSide
  pub size : Extent3d

abbrev pub depth : Copy → ℕ
depth c = c.size.depth_or_array_layers

-- ---- aspects

-- aspect bits: colour 1, depth 2, stencil 4, planes 8, 16, 32
abbrev pub COLOR : ℕ
COLOR = 1

abbrev pub DEPTH : ℕ
DEPTH = 2

abbrev pub STENCIL : ℕ
STENCIL = 4

abbrev pub PLANE_0 : ℕ
PLANE_0 = 8

abbrev pub PLANE_1 : ℕ
PLANE_1 = 16

abbrev pub PLANE_2 : ℕ
PLANE_2 = 32

-- the bits of formats 15 to 21: stencil8, depth16unorm, depth24plus, depth24plus-stencil8, depth32float, depth32float-stencil8, NV12
abbrev pub from_stencil8 : List (List ℕ)
from_stencil8 =
    (STENCIL ∷ [])
    ∷ (DEPTH ∷ [])
    ∷ (DEPTH ∷ [])
    ∷ (DEPTH ∷ STENCIL ∷ [])
    ∷ (DEPTH ∷ [])
    ∷ (DEPTH ∷ STENCIL ∷ [])
    ∷ (PLANE_0 ∷ PLANE_1 ∷ [])
    ∷ []

-- formats 0 to 14 are colour
unfoldable pub format_bits : ℕ → List ℕ
format_bits format = cond (ltb format 15) (COLOR ∷ []) (get_or from_stencil8 (format - 15) [])

unfoldable pub is_asked : TextureAspect → ℕ → Bool
is_asked All bit = true
is_asked StencilOnly bit = eqb bit STENCIL
is_asked DepthOnly bit = eqb bit DEPTH
is_asked Plane0 bit = eqb bit PLANE_0
is_asked Plane1 bit = eqb bit PLANE_1
is_asked Plane2 bit = eqb bit PLANE_2

-- the chosen aspects are the format's bits met with those asked
unfoldable pub chosen : TextureAspect → List ℕ → ℕ
chosen asked [] = 0
chosen asked (bit ∷ bits) = cond (is_asked asked bit) bit 0 + chosen asked bits

abbrev pub bits : TextureSide → ℕ
bits s = chosen s.view.aspect (format_bits s.texture.format)

-- ---- parts: the bits on both sides, and what x, y, width and height are divided by

pub record Part : Type 0 where
  pub src : ℕ
  pub dst : ℕ
  pub factor : ℕ

abbrev pub part : ℕ → ℕ → ℕ → Part
part src dst factor = record { src = src; dst = dst; factor = factor }

abbrev pub is_combined : TextureSide → Bool
is_combined s = eqb (bits s) (DEPTH + STENCIL)

abbrev pub is_nv12 : TextureSide → Bool
is_nv12 s = eqb s.texture.format 21

-- All of a combined depth-stencil format becomes depth, then stencil; NV12 to NV12 plane 0, then plane 1, halved
unfoldable pub parts : Copy → List Part
parts c =
    cond (is_combined c.dst) (part DEPTH DEPTH 1 ∷ part STENCIL STENCIL 1 ∷ [])
    (cond (is_nv12 c.src && is_nv12 c.dst) (part PLANE_0 PLANE_0 1 ∷ part PLANE_1 PLANE_1 2 ∷ [])
    (part (bits c.src) (bits c.dst) 1 ∷ []))

-- ---- layers and depth

-- dimension 1, 2 or 3
unfoldable pub dimension : TextureSide → TextureDimension
dimension s = cond (eqb s.texture.dimension 1) D1 (cond (eqb s.texture.dimension 3) D3 D2)

-- the layers of a copy, one in 1D and 3D
abbrev pub layers_of : TextureDimension → ℕ → ℕ
layers_of D1 depth = 1
layers_of D2 depth = depth
layers_of D3 depth = 1

-- a region starts at layer z, at z 0, in 2D, else at z of layer 0; 1D has but one z
abbrev pub layer_of : TextureDimension → ℕ → ℕ
layer_of D1 z = 0
layer_of D2 z = z
layer_of D3 z = 0

abbrev pub z_of : TextureDimension → ℕ → ℕ
z_of D1 z = 0
z_of D2 z = 0
z_of D3 z = z

-- and is one deep, in 3D as deep as the copy
abbrev pub depth_of : TextureDimension → ℕ → ℕ
depth_of D1 depth = 1
depth_of D2 depth = 1
depth_of D3 depth = depth

-- ---- regions: a layer's parts, then the next layer's

abbrev pub side_of : TextureSide → ℕ → ℕ → ℕ → TextureCopyBase
side_of s layer bits factor =
    record {
      mip_level = s.view.mip_level;
      array_layer = layer_of (dimension s) s.view.origin.z + layer;
      origin =
          record {
            x = record { 0 = s.view.origin.x.0 / factor };
            y = record { 0 = s.view.origin.y.0 / factor };
            z = z_of (dimension s) s.view.origin.z;
          };
      aspect = record { 0 = bits };
    }

-- each size the lesser of both sides
abbrev pub size_of : Copy → ℕ → CopyExtent
size_of c factor =
    record {
      width = record { 0 = c.size.width.0 / factor };
      height = record { 0 = c.size.height.0 / factor };
      depth = min (depth_of (dimension c.src) (depth c)) (depth_of (dimension c.dst) (depth c));
    }

abbrev pub region_of : Copy → ℕ → Part → TextureCopy
region_of c layer q =
    record {
      src = side_of c.src layer q.src q.factor;
      dst = side_of c.dst layer q.dst q.factor;
      size = size_of c q.factor;
    }

abbrev pub part_count : Copy → ℕ
part_count c = length (parts c)

abbrev pub region_at : Copy → ℕ → TextureCopy
region_at c n = region_of c (n / part_count c) (get_or (parts c) (n % part_count c) (part 0 0 1))

-- zero width, height or depth
abbrev pub is_empty : Extent3d → Bool
is_empty size = eqb size.width.0 0 || (eqb size.height.0 0 || eqb size.depth_or_array_layers 0)

-- a region for each part of each source layer; none where the copy is empty
abbrev pub region_count : Copy → ℕ
region_count c = cond (is_empty c.size) 0 (layers_of (dimension c.src) (depth c) * part_count c)

abbrev pub regions_from : Copy → ℕ → ℕ → List TextureCopy
regions_from c k zero = []
regions_from c k (suc n) = region_at c k ∷ regions_from c (suc k) n

abbrev pub regions_of : Copy → List TextureCopy
regions_of c = regions_from c 0 (region_count c)
