-- The formats and their aspects, from document 01's section on records.
use Rattle.std.specs.Prelude.{Bool, cond, ◌&&◌, ◌||◌, List, [], ◌∷◌, ◌++◌, ℕ, ◌+◌, eqb, leb, get_or}
use Rattle.formats.specs.declared.TextureAspect.{TextureAspect}
use Rattle.formats.specs.declared.TextureAspect.TheVariants.{All, StencilOnly, DepthOnly, Plane0, Plane1, Plane2}

-- an aspect of a format: its bit, and the bytes of a block of it
pub record Aspect : Type 0 where
  pub bit : ℕ
  pub bytes : ℕ

abbrev pub aspect : ℕ → ℕ → List Aspect
aspect bit bytes = record { bit = bit; bytes = bytes } ∷ []

-- aspect bits: colour 1, depth 2, stencil 4, planes 8, 16, 32
abbrev pub colour : ℕ → List Aspect
colour bytes = aspect 1 bytes

abbrev pub depth : ℕ → List Aspect
depth bytes = aspect 2 bytes

abbrev pub stencil : ℕ → List Aspect
stencil bytes = aspect 4 bytes

abbrev pub plane0 : ℕ → List Aspect
plane0 bytes = aspect 8 bytes

abbrev pub plane1 : ℕ → List Aspect
plane1 bytes = aspect 16 bytes

-- no bytes that can be copied
abbrev pub none : ℕ
none = 0

unfoldable pub formats : List (List Aspect)
formats =
    colour 1  -- 0 r8unorm
    ∷ colour 2  -- 1 rg8unorm
    ∷ colour 4  -- 2 rgba8unorm
    ∷ colour 4  -- 3 its srgb
    ∷ colour 4  -- 4 bgra8unorm
    ∷ colour 4  -- 5 its srgb
    ∷ colour 2  -- 6 r16float
    ∷ colour 8  -- 7 rgba16float
    ∷ colour 4  -- 8 r32float
    ∷ colour 8  -- 9 rg32float
    ∷ colour 16  -- 10 rgba32float
    ∷ colour 8  -- 11 bc1-rgba-unorm
    ∷ colour 8  -- 12 its srgb
    ∷ colour 16  -- 13 bc7-rgba-unorm
    ∷ colour 16  -- 14 its srgb
    ∷ stencil 1  -- 15 stencil8
    ∷ depth 2  -- 16 depth16unorm
    ∷ depth none  -- 17 depth24plus
    ∷ (depth none ++ stencil 1)  -- 18 depth24plus-stencil8
    ∷ depth 4  -- 19 depth32float
    ∷ (depth 4 ++ stencil 1)  -- 20 depth32float-stencil8
    ∷ (plane0 1 ++ plane1 2)  -- 21 NV12
    ∷ []

-- blocks are 4×4 for 11 to 14, else 1×1
unfoldable pub block_side : ℕ → ℕ
block_side format = cond (leb 11 format && leb format 14) 4 1

-- the bit of the aspect asked, none for All
abbrev pub asked_bit : TextureAspect → ℕ
asked_bit All = 0
asked_bit StencilOnly = 4
asked_bit DepthOnly = 2
asked_bit Plane0 = 8
asked_bit Plane1 = 16
asked_bit Plane2 = 32

unfoldable pub is_all : TextureAspect → Bool
is_all asked = eqb (asked_bit asked) 0

-- a number of each aspect that is asked, added up
abbrev pub summed : (Aspect → ℕ) → TextureAspect → List Aspect → ℕ
summed number asked [] = 0
summed number asked (a ∷ rest) = cond (is_all asked || eqb a.bit (asked_bit asked)) (number a) 0 + summed number asked rest

-- the chosen aspects: the format's bits met with those asked
unfoldable pub chosen_bits : ℕ → TextureAspect → ℕ
chosen_bits format asked = summed (λ a. a.bit) asked (get_or formats format [])

-- the bytes of a block of the chosen aspect
unfoldable pub bytes_per_block : ℕ → TextureAspect → ℕ
bytes_per_block format asked = summed (λ a. a.bytes) asked (get_or formats format [])
