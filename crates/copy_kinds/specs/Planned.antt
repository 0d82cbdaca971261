-- A copy of any of the five kinds: its plan or refusal is that of its kind, its ranges with the indices that the copy names.
use Rattle.std.specs.Prelude.{ℕ, Option, Result, Ok, Err}
use Rattle.measures.specs.declared.Extent3d.{Extent3d}
use Rattle.records.specs.declared.Buffer.{Buffer}
use Rattle.records.specs.declared.Device.{Device}
use Rattle.records.specs.declared.Texture.{Texture}
use Rattle.records.specs.declared.TextureSide.{TextureSide}
use Rattle.records.specs.declared.TexelCopyTextureInfo.{TexelCopyTextureInfo}
use Rattle.records.specs.declared.TexelCopyBufferLayout.{TexelCopyBufferLayout}
use Rattle.copy_buffers.specs.Plan.{buffer_to_buffer}
use Rattle.copy_buffer_texture.specs.Plan.{buffer_to_texture, memory_to_texture, texture_to_buffer}
use Rattle.copy_textures.specs.Plan.{texture_to_texture}
use Rattle.plan_kinds.specs.declared.Plan.TheVariants.{Buffers, BufferTexture, Textures}
use Rattle.copy_kinds.specs.Ranges.{buffer_ranges, copy_ranges, memory_ranges, texture_ranges}
use Rattle.plan_buffer_texture.specs.declared.BufferTexturePlan.{BufferTexturePlan}
use Rattle.plan_buffers.specs.declared.BufferPlan.{BufferPlan}
use Rattle.plan_textures.specs.declared.TexturePlan.{TexturePlan}
use Rattle.refusals.specs.declared.TransferError.{TransferError}
use Rattle.copy_kinds.specs.declared.Ranges.{Ranges}
use Rattle.plan_kinds.specs.declared.Plan.{Plan}

unfoldable pub of_buffers : ℕ → ℕ → Result BufferPlan TransferError → Result (Plan × Ranges) TransferError
of_buffers src dst (Ok p) = Ok (Buffers p, buffer_ranges src dst p)
of_buffers src dst (Err e) = Err e

unfoldable pub of_buffer_texture : ℕ → ℕ → Result BufferTexturePlan TransferError → Result (Plan × Ranges) TransferError
of_buffer_texture texture buffer (Ok p) = Ok (BufferTexture p, copy_ranges texture buffer p.ranges)
of_buffer_texture texture buffer (Err e) = Err e

unfoldable pub of_memory : ℕ → Result BufferTexturePlan TransferError → Result (Plan × Ranges) TransferError
of_memory texture (Ok p) = Ok (BufferTexture p, memory_ranges texture p.ranges)
of_memory texture (Err e) = Err e

unfoldable pub of_textures : ℕ → ℕ → Result TexturePlan TransferError → Result (Plan × Ranges) TransferError
of_textures src dst (Ok p) = Ok (Textures p, texture_ranges src dst p.ranges)
of_textures src dst (Err e) = Err e

-- ---- by kind: i is the index of the source, j that of the destination

abbrev pub planned_buffers : Device → ℕ → Buffer → ℕ → ℕ → Buffer → ℕ → Option ℕ → Result (Plan × Ranges) TransferError
planned_buffers device i src from j dst to size = of_buffers i j (buffer_to_buffer device i src from j dst to size)

abbrev pub planned_upload : Device → ℕ → Buffer → TexelCopyBufferLayout → ℕ → Texture → TexelCopyTextureInfo → Extent3d → Result (Plan × Ranges) TransferError
planned_upload device i buffer layout j texture view size = of_buffer_texture j i (buffer_to_texture device buffer layout texture view size)

abbrev pub planned_memory_upload : Device → ℕ → TexelCopyBufferLayout → ℕ → Texture → TexelCopyTextureInfo → Extent3d → Result (Plan × Ranges) TransferError
planned_memory_upload device length layout j texture view size = of_memory j (memory_to_texture device length layout texture view size)

abbrev pub planned_download : Device → ℕ → Texture → TexelCopyTextureInfo → ℕ → Buffer → TexelCopyBufferLayout → Extent3d → Result (Plan × Ranges) TransferError
planned_download device i texture view j buffer layout size = of_buffer_texture i j (texture_to_buffer device texture view buffer layout size)

abbrev pub planned_textures : ℕ → TextureSide → ℕ → TextureSide → Extent3d → Result (Plan × Ranges) TransferError
planned_textures i src j dst size = of_textures i j (texture_to_texture i src j dst size)
