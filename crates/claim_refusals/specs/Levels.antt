-- A level that a texture does not have is refused as such (13), with the level and how many there are. Records out of their bounds are refused
-- before.
use Rattle.std.specs.Prelude.{Result, Err}
use mathlib.Core.Path.{◌≡◌}
use Prim.Native.Nat.{ℕ, ◌≤◌}
use Rattle.measures.specs.declared.Extent3d.{Extent3d}
use Rattle.refusals.specs.declared.Refusal.{Refusal}
use Rattle.refusals.specs.declared.TransferError.{TransferError}
use Rattle.records.specs.declared.Buffer.{Buffer}
use Rattle.records.specs.declared.Device.{Device}
use Rattle.records.specs.declared.Texture.{Texture}
use Rattle.records.specs.declared.TexelCopyTextureInfo.{TexelCopyTextureInfo}
use Rattle.records.specs.declared.TexelCopyBufferLayout.{TexelCopyBufferLayout}
use Rattle.plan_buffer_texture.specs.declared.BufferTexturePlan.{BufferTexturePlan}
use Rattle.claim_webgpu_copies.specs.Bounds.{BufferInBounds, TextureInBounds}
-- what is judged: the answers, and the six numbers of a refusal
use Rattle.refusals.specs.Numbers.{numbers_of}
use Rattle.copy_buffer_texture.specs.Plan.{buffer_to_texture, memory_to_texture, texture_to_buffer}

abbrev pub no_level : TexelCopyTextureInfo → Texture → Refusal
no_level view t =
    record { number = 13; side = 0; dimension = 0; start = view.mip_level; end = 0; limit = t.mip_level_count }

abbrev pub RefusedWith : Refusal → Result BufferTexturePlan TransferError → Type 0
RefusedWith n answer = (e : TransferError) × (answer ≡ Err e) × (numbers_of e ≡ n)

-- a copy of a texture within its bounds and of a level that it does not have
pub record MissingLevel (t : Texture) (view : TexelCopyTextureInfo) : Type 0 where
  pub from_buffer :
      (device : Device) (b : Buffer) (layout : TexelCopyBufferLayout) (size : Extent3d)
      → BufferInBounds b → RefusedWith (no_level view t) (buffer_to_texture device b layout t view size)
  pub from_memory :
      (device : Device) (length : ℕ) (layout : TexelCopyBufferLayout) (size : Extent3d)
      → RefusedWith (no_level view t) (memory_to_texture device length layout t view size)
  pub into_buffer :
      (device : Device) (b : Buffer) (layout : TexelCopyBufferLayout) (size : Extent3d)
      → BufferInBounds b → RefusedWith (no_level view t) (texture_to_buffer device t view b layout size)

abbrev pub EveryMissingLevel : Type 0
EveryMissingLevel = (t : Texture) (view : TexelCopyTextureInfo) → TextureInBounds t → t.mip_level_count ≤ view.mip_level → MissingLevel t view
