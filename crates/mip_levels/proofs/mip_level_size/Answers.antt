-- What the check does not find alone for `mip_level_size`.
use mathlib.Core.Path.{◌≡◌}
use Prim.Native.Nat.{ℕ}
use borrow.Author.Rules.{rules}
use Rattle.measures.specs.declared.Texels.{Texels}
use Rattle.measures.specs.declared.Extent3d.{Extent3d}
use Rattle.measures.specs.Measure.{texels}
use Rattle.mip_levels.specs.declared.TextureDimension.{TextureDimension}
use Rattle.mip_levels.specs.declared.TextureDimension.TheVariants.{D1}
use Rattle.mip_levels.specs.Level.{extent, texels_at, mip_level_size}
use Rattle.mip_levels.proofs.mip_level_size.Goals as goal

-- a level of a 1D texture has its width alone
flat : (d : TextureDimension) (e : Extent3d) (level : ℕ) (w : Texels) → d ≡ D1 → w ≡ texels_at e.width level → extent w (texels 1) 1 ≡ mip_level_size d e level
unfolding mip_level_size
flat d e level w p q = rw (p, q)

pub returns-in-D1 : goal.returns-in-D1
returns-in-D1 c = flat _ _ _ _ (search rules) c.texels_at-width.ensures

pub returns-in-D2 : goal.returns-in-D2
unfolding mip_level_size
returns-in-D2 c = cc

pub returns-in-D3 : goal.returns-in-D3
unfolding mip_level_size
returns-in-D3 c = cc
