-- A text as the bytes of its characters, each of which is one byte.
use Rattle.std.specs.Prelude.{ℕ}
use Prim.Native.Char.{code}
use Prim.Native.String.{String, [], ◌∷◌}
use mathlib.Core.List as L

unfoldable pub bytes : String → L.List ℕ
bytes [] = L.[]
bytes (c ∷ text) = L.◌∷◌ (code c) (bytes text)
