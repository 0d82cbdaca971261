-- How the checks of a copy between a buffer, or memory, and a texture go on after a rule's answer was taken apart.
-- Assumes nothing.
use Rattle.std.specs.Prelude.{Result, Ok}
use mathlib.Core.Path.{◌≡◌, sym, ap, ◌∙◌}
use mathlib.Core.Bool.{true}
use Prim.Native.Nat.{ℕ, ◌+◌, ◌^◌, ◌<◌}
use native.Mathlib.Omega.{arith}
use Rattle.measures.specs.declared.Extent3d.{Extent3d}
use Rattle.formats.specs.declared.TextureAspect.{TextureAspect}
use Rattle.refusals.specs.declared.CopySide.{CopySide}
use Rattle.refusals.specs.declared.CopySide.TheVariants.{Source}
use Rattle.records.specs.declared.Buffer.{Buffer}
use Rattle.records.specs.declared.TexelCopyBufferLayout.{TexelCopyBufferLayout}
use Rattle.records.specs.Bounds.{buffer_in_bounds}
use Rattle.records.proofs.Bounded.{buffer_laws}
use Rattle.rule_linear_data.specs.declared.LinearData.{LinearData}
use Rattle.rule_linear_data.specs.Linear.{data_of, linear_checked}
use Rattle.rule_linear_data.proofs.Accepted.{linear_went}
use Rattle.copy_buffer_texture.specs.declared.UploadSource.{UploadSource}
use Rattle.copy_buffer_texture.specs.declared.UploadSource.TheVariants as S
use Rattle.copy_buffer_texture.specs.Plan.{source_size}
use Rattle.copy_buffer_texture.specs.Stages.{EndFits}
use Rattle.copy_buffer_texture.specs.Laws.{source_in_bounds}
use Rattle.refusals.specs.declared.TransferError.{TransferError}

-- ---- what callees need

-- the end of a copy that a buffer holds is far below 2 ^ 63
pub end_fits :
    (r : Result LinearData TransferError) (layout : TexelCopyBufferLayout) (format : ℕ) (aspect : TextureAspect) (b : Buffer) (side : CopySide) (size : Extent3d) (s : LinearData)
    → buffer_in_bounds b ≡ true → r ≡ linear_checked layout format aspect b.size side size → r ≡ Ok s → layout.offset + s.bytes_in_copy < 2 ^ 63
unfolding data_of
end_fits r layout format aspect b side size s bound p q =
    let l = linear_went layout format aspect b.size side size s (sym p ∙ q) in
    let bytes = ap (λ (d : LinearData). d.bytes_in_copy) l.1 in
    omega (arith, l.0.inside, bytes, buffer_laws b bound)

-- of what an upload reads; nothing is asked of memory
pub source_end_fits :
    (r : Result LinearData TransferError) (layout : TexelCopyBufferLayout) (format : ℕ) (aspect : TextureAspect) (source : UploadSource) (size : Extent3d) (s : LinearData)
    → source_in_bounds source ≡ true → r ≡ linear_checked layout format aspect (source_size source) Source size → r ≡ Ok s
    → EndFits source (layout.offset + s.bytes_in_copy)
source_end_fits r layout format aspect (S.Buffer b) size s bound p q = end_fits r layout format aspect b Source size s bound p q
source_end_fits r layout format aspect (S.Memory length) size s bound p q = tt
