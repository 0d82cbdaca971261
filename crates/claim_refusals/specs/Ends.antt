-- A copy that is refused because its box leaves a texture (9), or takes a part of what is only copied whole (10), tells where the box begins and
-- ends, also where the end passes 32 bits (document 02, request 2).
use Rattle.std.specs.Prelude.{Err}
use mathlib.Core.Path.{◌≡◌}
use mathlib.Core.Logic.{◌⊎◌}
use Prim.Native.Nat.{ℕ, ◌+◌, ◌<◌}
use Rattle.measures.specs.declared.Extent3d.{Extent3d}
use Rattle.measures.specs.declared.Origin3d.{Origin3d}
use Rattle.refusals.specs.declared.Refusal.{Refusal}
use Rattle.refusals.specs.declared.TransferError.{TransferError}
use Rattle.records.specs.declared.Buffer.{Buffer}
use Rattle.records.specs.declared.Device.{Device}
use Rattle.records.specs.declared.Texture.{Texture}
use Rattle.records.specs.declared.TextureSide.{TextureSide}
use Rattle.records.specs.declared.TexelCopyTextureInfo.{TexelCopyTextureInfo}
use Rattle.records.specs.declared.TexelCopyBufferLayout.{TexelCopyBufferLayout}
-- what is judged: the answers, and the six numbers of a refusal
use Rattle.refusals.specs.Numbers.{numbers_of}
use Rattle.copy_buffer_texture.specs.Plan.{buffer_to_texture, memory_to_texture, texture_to_buffer}
use Rattle.copy_textures.specs.Plan.{texture_to_texture}

-- the box along a dimension, which is told by its number: where it starts and where it ends
pub data Runs (o : Origin3d) (size : Extent3d) : ℕ → ℕ → ℕ → Type 0 where
  on_x : Runs o size 1 o.x.0 (o.x.0 + size.width.0)
  on_y : Runs o size 2 o.y.0 (o.y.0 + size.height.0)
  on_z : Runs o size 3 o.z (o.z + size.depth_or_array_layers)

-- the box that is read, and the one that is written
abbrev pub OfSource : Origin3d → Extent3d → Refusal → Type 0
OfSource o size n = (n.side ≡ 1) × Runs o size n.dimension n.start n.end

abbrev pub OfDestination : Origin3d → Extent3d → Refusal → Type 0
OfDestination o size n = (n.side ≡ 2) × Runs o size n.dimension n.start n.end

-- the numbers are those of a box: of a 9 one that passes the limit told, of a 10 one that is not all of it, along X or Y
pub record TrueEnd (Box : Refusal → Type 0) (n : Refusal) : Type 0 where
  pub overrun : n.number ≡ 9 → Box n × (n.limit < n.end)
  pub partial : n.number ≡ 10 → Box n × ((n.start ≡ 0) × (n.end ≡ n.limit) → ⊥) × (n.dimension ≡ 3 → ⊥)

pub record EveryTrueEnd : Type 0 where
  pub from_buffer :
      (device : Device) (b : Buffer) (layout : TexelCopyBufferLayout) (t : Texture) (view : TexelCopyTextureInfo) (size : Extent3d) (e : TransferError)
      → buffer_to_texture device b layout t view size ≡ Err e → TrueEnd (OfDestination view.origin size) (numbers_of e)
  pub from_memory :
      (device : Device) (length : ℕ) (layout : TexelCopyBufferLayout) (t : Texture) (view : TexelCopyTextureInfo) (size : Extent3d) (e : TransferError)
      → memory_to_texture device length layout t view size ≡ Err e → TrueEnd (OfDestination view.origin size) (numbers_of e)
  pub into_buffer :
      (device : Device) (t : Texture) (view : TexelCopyTextureInfo) (b : Buffer) (layout : TexelCopyBufferLayout) (size : Extent3d) (e : TransferError)
      → texture_to_buffer device t view b layout size ≡ Err e → TrueEnd (OfSource view.origin size) (numbers_of e)
  pub between_textures :
      (i : ℕ) (src : TextureSide) (j : ℕ) (dst : TextureSide) (size : Extent3d) (e : TransferError) → texture_to_texture i src j dst size ≡ Err e
      → TrueEnd (λ n. OfSource src.view.origin size n ⊎ OfDestination dst.view.origin size n) (numbers_of e)
