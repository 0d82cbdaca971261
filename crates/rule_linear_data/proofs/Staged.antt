-- The stages answer the first refusal of the list, or the data.
-- Assumes nothing.
use Rattle.std.specs.Prelude.{Result, Ok, Err}
use mathlib.Core.Path.{◌≡◌, refl, ap, ◌∙◌}
use mathlib.Core.Bool.{Bool, true, false, not}
use Prim.Native.Nat.{ℕ, ◌^◌}
use lib.Dec.{ltb}
use Rattle.conditions.specs.Conditions.{pick, stop_if}
use Rattle.measures.specs.declared.Extent3d.{Extent3d}
use Rattle.formats.specs.declared.TextureAspect.{TextureAspect}
use Rattle.refusals.specs.declared.CopySide.{CopySide}
use Rattle.refusals.specs.declared.TransferError.{TransferError}
use Rattle.refusals.specs.declared.TransferError.TheVariants as E
use Rattle.refusals.specs.Order.{refuse_if, first, decided}
use Rattle.refusals.proofs.Order.{line}
use Rattle.records.specs.declared.TexelCopyBufferLayout.{TexelCopyBufferLayout}
use Rattle.rule_linear_data.specs.declared.Dense.{Dense}
use Rattle.rule_linear_data.specs.Linear.{reaches_2^64, dense_of, linear_data, linear_checks, linear_checked}
use Rattle.rule_linear_data.specs.Stages.{below_2^64, placed, measured, linear_staged}
use Rattle.rule_linear_data.specs.declared.LinearData.{LinearData}

line_l : (t : Bool) (e : TransferError) (rest : Result LinearData TransferError) → stop_if t (Err e) rest ≡ first (refuse_if t e) rest
line_l t e rest = line LinearData t e rest

fits : (b : Bool) (rest : Result LinearData TransferError) → pick b rest (Err E.SizeOverflow) ≡ first (refuse_if (not b) E.SizeOverflow) rest
unfolding first refuse_if
fits true rest = refl
fits false rest = refl

below : (n : ℕ) (k : ℕ → Result LinearData TransferError) → below_2^64 n k ≡ first (refuse_if (reaches_2^64 n) E.SizeOverflow) (k n)
unfolding below_2^64
below n k = fits (ltb n (2 ^ 64)) (k n)

pub linear_law :
    (layout : TexelCopyBufferLayout) (bufferSize : ℕ) (side : CopySide) (d : Dense)
    → linear_staged layout bufferSize side d ≡ decided (linear_checks layout bufferSize side d) (Ok (linear_data layout d))
unfolding linear_staged measured placed linear_checks decided
linear_law layout bufferSize side d = simp (line_l, below)

-- of dense values that a function gave
pub by_law :
    (layout : TexelCopyBufferLayout) (format : ℕ) (aspect : TextureAspect) (bufferSize : ℕ) (side : CopySide) (size : Extent3d) (d : Dense) (x : Result LinearData TransferError)
    → x ≡ linear_staged layout bufferSize side d → d ≡ dense_of format aspect size → x ≡ linear_checked layout format aspect bufferSize side size
unfolding linear_checked
by_law layout format aspect bufferSize side size d x p q =
    p ∙ ap (λ (e : Dense). linear_staged layout bufferSize side e) q ∙ linear_law layout bufferSize side (dense_of format aspect size)
