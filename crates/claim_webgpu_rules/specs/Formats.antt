-- The standard's texture formats, from its tables of plain color, packed and depth-stencil formats. A record names a format by
-- document 01's number, which is its place here. NV12 (21) is not in the standard.
use Rattle.std.specs.Prelude.{Bool, true, false, ◌&&◌, ◌||◌, cond, List, [], ◌∷◌, ℕ, ◌<◌, eqb, length, get_or}
use Rattle.mip_levels.specs.declared.TextureDimension.{TextureDimension}
use Rattle.mip_levels.specs.declared.TextureDimension.TheVariants.{D1, D2, D3}
use Rattle.formats.specs.declared.TextureAspect.{TextureAspect}
use Rattle.formats.specs.declared.TextureAspect.TheVariants.{All, StencilOnly, DepthOnly, Plane0, Plane1, Plane2}

pub data Aspect : Type 0 where
  Color Depth Stencil : Aspect

-- one aspect of a format: the bytes of a block in a copy ("texel block copy footprint"), and whether a copy with a buffer or memory may have it
-- as its source and as its destination
pub record Part : Type 0 where
  pub aspect : Aspect
  pub bytes : ℕ
  pub source : Bool
  pub destination : Bool

pub record Format : Type 0 where
  pub block_width_of : ℕ
  pub block_height_of : ℕ
  pub parts : List Part

-- the footprint of an aspect that cannot be copied
abbrev pub none : ℕ
none = 0

abbrev pub part : Aspect → ℕ → Bool → Bool → Part
part aspect bytes source destination = record { aspect = aspect; bytes = bytes; source = source; destination = destination }

abbrev pub color : ℕ → ℕ → ℕ → Format
color width height bytes = record { block_width_of = width; block_height_of = height; parts = part Color bytes true true ∷ [] }

abbrev pub depth_stencil : List Part → Format
depth_stencil parts = record { block_width_of = 1; block_height_of = 1; parts = parts }

unfoldable pub formats : List Format
formats =
    color 1 1 1  -- 0 r8unorm
    ∷ color 1 1 2  -- 1 rg8unorm
    ∷ color 1 1 4  -- 2 rgba8unorm
    ∷ color 1 1 4  -- 3 rgba8unorm-srgb
    ∷ color 1 1 4  -- 4 bgra8unorm
    ∷ color 1 1 4  -- 5 bgra8unorm-srgb
    ∷ color 1 1 2  -- 6 r16float
    ∷ color 1 1 8  -- 7 rgba16float
    ∷ color 1 1 4  -- 8 r32float
    ∷ color 1 1 8  -- 9 rg32float
    ∷ color 1 1 16  -- 10 rgba32float
    ∷ color 4 4 8  -- 11 bc1-rgba-unorm
    ∷ color 4 4 8  -- 12 bc1-rgba-unorm-srgb
    ∷ color 4 4 16  -- 13 bc7-rgba-unorm
    ∷ color 4 4 16  -- 14 bc7-rgba-unorm-srgb
    ∷ depth_stencil (part Stencil 1 true true ∷ [])  -- 15 stencil8
    ∷ depth_stencil (part Depth 2 true true ∷ [])  -- 16 depth16unorm
    ∷ depth_stencil (part Depth none false false ∷ [])  -- 17 depth24plus
    ∷ depth_stencil (part Depth none false false ∷ part Stencil 1 true true ∷ [])  -- 18 depth24plus-stencil8
    ∷ depth_stencil (part Depth 4 true false ∷ [])  -- 19 depth32float
    ∷ depth_stencil (part Depth 4 true false ∷ part Stencil 1 true true ∷ [])  -- 20 depth32float-stencil8
    ∷ []

-- the number names a format of the standard
abbrev pub Known : ℕ → Type 0
Known format = format < length formats

-- a number that does not: no aspects
unfoldable pub format_of : ℕ → Format
format_of format = get_or formats format (depth_stencil [])

-- ---- aspects

-- a depth-or-stencil format has a depth or a stencil aspect
abbrev pub is_color : Aspect → Bool
is_color Color = true
is_color Depth = false
is_color Stencil = false

unfoldable pub any_depth_or_stencil : List Part → Bool
any_depth_or_stencil [] = false
any_depth_or_stencil (p ∷ ps) = cond (is_color p.aspect) (any_depth_or_stencil ps) true

unfoldable pub is_depth_or_stencil : ℕ → Bool
is_depth_or_stencil format = any_depth_or_stencil (format_of format).parts

-- "all" names every aspect, "stencil-only" the stencil, "depth-only" the depth; the planes are not in the standard
abbrev pub names : TextureAspect → Aspect → Bool
names All a = true
names StencilOnly Color = false
names StencilOnly Depth = false
names StencilOnly Stencil = true
names DepthOnly Color = false
names DepthOnly Depth = true
names DepthOnly Stencil = false
names Plane0 a = false
names Plane1 a = false
names Plane2 a = false

abbrev pub named_of : List Part → TextureAspect → List Part
named_of [] asked = []
named_of (p ∷ ps) asked = cond (names asked p.aspect) (p ∷ named_of ps asked) (named_of ps asked)

-- the format's aspects that a view names
unfoldable pub named : Format → TextureAspect → List Part
named format asked = named_of format.parts asked

-- ---- the dimension that a texture record's number names

unfoldable pub dimension_of : ℕ → TextureDimension
dimension_of n = cond (eqb n 1) D1 (cond (eqb n 3) D3 D2)

-- ---- "copy-compatible": equal, or differing only in srgb

-- rgba8unorm, bgra8unorm, bc1-rgba-unorm, bc7-rgba-unorm, each with its srgb
unfoldable pub srgb_pairs : List (ℕ × ℕ)
srgb_pairs = (2, 3) ∷ (4, 5) ∷ (11, 12) ∷ (13, 14) ∷ []

unfoldable pub paired : List (ℕ × ℕ) → ℕ → ℕ → Bool
paired [] a b = false
paired (p ∷ ps) a b = (eqb p.0 a && eqb p.1 b) || paired ps a b

unfoldable pub copy_compatible : ℕ → ℕ → Bool
copy_compatible a b = eqb a b || (paired srgb_pairs a b || paired srgb_pairs b a)
