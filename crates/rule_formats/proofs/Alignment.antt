-- An alignment is above 0.
-- Assumes nothing.
use Rattle.std.specs.Prelude.{Option, Some, None}
use mathlib.Core.Path.{◌≡◌, refl}
use Prim.Native.Nat.{ℕ, ◌<◌}
use native.Mathlib.Omega.{arith}
use Rattle.measures.specs.Measure.{or_else}
use Rattle.formats.specs.declared.TextureAspect.{TextureAspect}
use Rattle.formats.specs.Aspects.{block_copy_size}
use Rattle.formats.proofs.Rows.{every_format}

pub some : (format : ℕ) (aspect : TextureAspect) → 0 < or_else (block_copy_size format aspect) 1
unfolding or_else
some format aspect = go (block_copy_size format aspect) refl
  where
    go : (o : Option ℕ) → block_copy_size format aspect ≡ o → 0 < or_else o 1
    go (Some n) e = (every_format format).bytes_some aspect n e
    go None e = omega arith
