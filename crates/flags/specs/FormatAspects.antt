-- The aspects of a format.
use Rattle.std.specs.Prelude.{ℕ}
use Rattle.std.specs.Int.Bits.{bit_or}

abbrev pub COLOR : ℕ
COLOR = 1

abbrev pub DEPTH : ℕ
DEPTH = 2

abbrev pub STENCIL : ℕ
STENCIL = 4

abbrev pub PLANE_0 : ℕ
PLANE_0 = 8

abbrev pub PLANE_1 : ℕ
PLANE_1 = 16

abbrev pub PLANE_2 : ℕ
PLANE_2 = 32

abbrev pub DEPTH_STENCIL : ℕ
DEPTH_STENCIL = bit_or DEPTH STENCIL
