-- What a texture may be used for.
use Rattle.std.specs.Prelude.{ℕ}

abbrev pub COPY_SRC : ℕ
COPY_SRC = 1

abbrev pub COPY_DST : ℕ
COPY_DST = 2
