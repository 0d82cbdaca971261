-- Past the records, the first check of the range refuses a level that is not there.
-- Assumes nothing.
use Rattle.std.specs.Prelude.{Result, Err}
use mathlib.Core.Path.{◌≡◌, refl}
use mathlib.Core.Bool.{true}
use mathlib.Core.List.{flatten}
use Prim.Native.Nat.{ℕ, ◌≤◌}
use borrow.Author.Tests.{le-leb}
use Rattle.measures.specs.declared.Extent3d.{Extent3d}
use Rattle.refusals.specs.declared.CopySide.{CopySide}
use Rattle.refusals.specs.declared.CopySide.TheVariants.{Source, Destination}
use Rattle.refusals.specs.declared.TransferError.{TransferError}
use Rattle.refusals.specs.declared.TransferError.TheVariants as E
use Rattle.refusals.specs.Numbers.{numbers_of}
use Rattle.refusals.specs.Order.{refuse_if, first, decided}
use Rattle.records.specs.declared.Buffer.{Buffer}
use Rattle.records.specs.declared.Device.{Device}
use Rattle.records.specs.declared.Texture.{Texture}
use Rattle.records.specs.declared.TexelCopyTextureInfo.{TexelCopyTextureInfo}
use Rattle.records.specs.declared.TexelCopyBufferLayout.{TexelCopyBufferLayout}
use Rattle.records.specs.Bounds.{buffer_in_bounds, texture_in_bounds}
use Rattle.records.proofs.Checked.{buffer_passes, texture_passes}
use Rattle.rule_copy_range.specs.Range.{range_checks}
use Rattle.plan_buffer_texture.specs.declared.BufferTexturePlan.{BufferTexturePlan}
use Rattle.copy_buffer_texture.specs.Plan.{upload_checks, download_checks, planned, buffer_to_texture, memory_to_texture, texture_to_buffer}
use Rattle.claim_webgpu_copies.proofs.Records.{record_bounds}
use Rattle.claim_refusals.specs.Levels.{MissingLevel, EveryMissingLevel}

module _ (t : Texture) (view : TexelCopyTextureInfo) (bounds : texture_in_bounds t ≡ true) (missing : t.mip_level_count ≤ view.mip_level) where
  abbrev why : TransferError
  why = E.InvalidTextureMipLevel view.mip_level t.mip_level_count

  range_stops : (side : CopySide) (size : Extent3d) (rest : Result BufferTexturePlan TransferError) → first (flatten (range_checks view t side size)) rest ≡ Err why
  unfolding range_checks refuse_if flatten first
  range_stops side size rest = rw (le-leb _ _ missing)

  of_buffer : (device : Device) (b : Buffer) (layout : TexelCopyBufferLayout) (size : Extent3d) → buffer_in_bounds b ≡ true → buffer_to_texture device b layout t view size ≡ Err why
  unfolding buffer_to_texture planned upload_checks decided first
  of_buffer device b layout size h = rw (buffer_passes b Source h) (rw (texture_passes t Destination bounds) (range_stops Destination size _))

  of_memory : (device : Device) (length : ℕ) (layout : TexelCopyBufferLayout) (size : Extent3d) → memory_to_texture device length layout t view size ≡ Err why
  unfolding memory_to_texture planned upload_checks decided first flatten
  of_memory device length layout size = rw (texture_passes t Destination bounds) (range_stops Destination size _)

  to_buffer : (device : Device) (b : Buffer) (layout : TexelCopyBufferLayout) (size : Extent3d) → buffer_in_bounds b ≡ true → texture_to_buffer device t view b layout size ≡ Err why
  unfolding texture_to_buffer planned download_checks decided first
  to_buffer device b layout size h = rw (texture_passes t Source bounds) (rw (buffer_passes b Destination h) (range_stops Source size _))

  missing_level : MissingLevel t view
  unfolding numbers_of
  missing_level = record {
    from_buffer = λ device b layout size h. (why, of_buffer device b layout size ((record_bounds.buffers b).1 h), refl);
    from_memory = λ device length layout size. (why, of_memory device length layout size, refl);
    into_buffer = λ device b layout size h. (why, to_buffer device b layout size ((record_bounds.buffers b).1 h), refl);
  }

pub every_missing_level : EveryMissingLevel
every_missing_level t view bounds missing = missing_level t view ((record_bounds.textures t).1 bounds) missing
