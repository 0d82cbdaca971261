-- What a layer is copied as, as a number that callers in other languages keep.
use Rattle.std.specs.Prelude.{ℕ, eqb}
use Rattle.conditions.specs.Conditions.{pick}
use Rattle.plan_textures.specs.declared.CopyParts.{CopyParts}
use Rattle.plan_textures.specs.declared.CopyParts.TheVariants.{Whole, DepthStencil, Planes}

unfoldable pub parts_number : CopyParts → ℕ
parts_number Whole = 0
parts_number DepthStencil = 1
parts_number Planes = 2

unfoldable pub parts_from : ℕ → CopyParts
parts_from n = pick (eqb n 0) Whole (pick (eqb n 1) DepthStencil Planes)
