-- Words of flags: usages and aspects. A flag is a binary digit, and a word may have several.
use Rattle.std.specs.Prelude.{ℕ, Bool, not, ◌||◌, eqb}
use Rattle.std.specs.Int.Bits.{bit_and}
use Rattle.flags.specs.FormatAspects.{COLOR, DEPTH, STENCIL, PLANE_0, PLANE_1, PLANE_2}

-- every flag of the second word is set in the first
unfoldable pub contains : ℕ → ℕ → Bool
contains word flags = eqb (bit_and word flags) flags

-- the flags that are set in both
unfoldable pub meet : ℕ → ℕ → ℕ
meet a b = bit_and a b

-- some flag is set in both
unfoldable pub meets : ℕ → ℕ → Bool
meets a b = not (eqb (bit_and a b) 0)

-- exactly one aspect
unfoldable pub is_one : ℕ → Bool
is_one aspects =
    eqb aspects COLOR || (eqb aspects DEPTH || (eqb aspects STENCIL || (eqb aspects PLANE_0 || (eqb aspects PLANE_1 || eqb aspects PLANE_2))))
