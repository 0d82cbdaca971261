-- Numbers, words and lines as lists of bytes.
-- Among bytes 10 is a newline, 32 a space, 45 `-`, and 48 to 57 are the digits.
use Rattle.std.specs.Prelude.{Bool, ◌&&◌, List, [], ◌∷◌, ◌++◌, ℕ, zero, suc, ◌+◌, ◌-◌, ◌/◌, ◌%◌, ◌^◌, ltb, eqb}
use Rattle.conditions.specs.Conditions.{pick}

-- the decimal digits of n, if the first number allows as many
unfoldable pub digits_in : ℕ → ℕ → List ℕ
digits_in zero n = []
digits_in (suc f) n = pick (ltb n 10) ((48 + n) ∷ []) (digits_in f (n / 10) ++ ((48 + n % 10) ∷ []))

-- twenty digits are enough below 2 ^ 64
unfoldable pub decimal : ℕ → List ℕ
decimal n = digits_in 20 n

-- the largest number stands for an absent one, where one may be absent
unfoldable pub is_absent : Bool → ℕ → Bool
is_absent dash n = dash && eqb n (2 ^ 64 - 1)

-- the digits of a number, or `-`
unfoldable pub number_text : Bool → ℕ → List ℕ
number_text dash n = pick (is_absent dash n) (45 ∷ []) (decimal n)

-- numbers, each after a space
unfoldable pub spaced : Bool → List ℕ → List ℕ
spaced dash [] = []
spaced dash (n ∷ ns) = 32 ∷ (number_text dash n ++ spaced dash ns)

-- a word, its numbers, a newline
unfoldable pub line_text : List ℕ → Bool → List ℕ → List ℕ
line_text word dash ns = word ++ (spaced dash ns ++ (10 ∷ []))
