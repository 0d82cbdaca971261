-- What a buffer may be used for.
use Rattle.std.specs.Prelude.{ℕ}

abbrev pub COPY_SRC : ℕ
COPY_SRC = 4

abbrev pub COPY_DST : ℕ
COPY_DST = 8

abbrev pub INDEX : ℕ
INDEX = 16

abbrev pub VERTEX : ℕ
VERTEX = 32

abbrev pub UNIFORM : ℕ
UNIFORM = 64

abbrev pub STORAGE : ℕ
STORAGE = 128

abbrev pub INDIRECT : ℕ
INDIRECT = 256
