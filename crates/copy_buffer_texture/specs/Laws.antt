-- What callers use of an accepted copy, either way; what is promised of a refused one from memory.
use Rattle.std.specs.Prelude.{◌≡◌, Bool, true, false, not, ◌||◌, ℕ, eqb, Ok, Err}
use Rattle.flags.specs.BufferUsages as BufferUsages
use Rattle.flags.specs.TextureUsages as TextureUsages
use Rattle.flags.specs.Flags.{contains}
use Rattle.formats.specs.declared.TextureAspect.{TextureAspect}
use Rattle.refusals.specs.declared.TransferError.{TransferError}
use Rattle.refusals.specs.Numbers.{numbers_of}
use Rattle.refusals.specs.Order.{Checks, checked}
use Rattle.measures.specs.declared.Extent3d.{Extent3d}
use Rattle.records.specs.declared.Device.{Device}
use Rattle.records.specs.declared.Texture.{Texture}
use Rattle.records.specs.declared.TexelCopyTextureInfo.{TexelCopyTextureInfo}
use Rattle.records.specs.declared.TexelCopyBufferLayout.{TexelCopyBufferLayout}
use Rattle.records.specs.Bounds.{buffer_in_bounds, texture_in_bounds}
use Rattle.rule_copy_range.specs.Laws.{RangeLaws}
use Rattle.rule_linear_data.specs.Laws.{LinearLaws}
use Rattle.rule_formats.specs.Rules.{src_format_checks, dst_format_checks, layout_checks}
use Rattle.plan_buffer_texture.specs.declared.BufferTexturePlan.{BufferTexturePlan}
use Rattle.copy_buffer_texture.specs.declared.UploadSource.{UploadSource}
use Rattle.copy_buffer_texture.specs.declared.UploadSource.TheVariants as S
use Rattle.copy_buffer_texture.specs.Copy.{Direction, Upload, Download, Copy}
use Rattle.copy_buffer_texture.specs.Plan.{aspects, dense, lacks_depth_fact, lacks_copy_src, is_aligned, source_size, plan_for, planned, memory_to_texture}

-- what each way asks of the flags and the format
abbrev pub texture_flag : Direction → ℕ
texture_flag (Upload source) = TextureUsages.COPY_DST
texture_flag (Download b) = TextureUsages.COPY_SRC

abbrev pub format_checks : Direction → ℕ → TextureAspect → Checks
format_checks (Upload source) format aspect = dst_format_checks format aspect
format_checks (Download b) format aspect = src_format_checks format aspect

-- what it asks of a buffer; memory is asked nothing
abbrev pub source_in_bounds : UploadSource → Bool
source_in_bounds (S.Buffer b) = buffer_in_bounds b
source_in_bounds (S.Memory length) = true

abbrev pub buffer_within : Direction → Bool
buffer_within (Upload source) = source_in_bounds source
buffer_within (Download b) = buffer_in_bounds b

abbrev pub buffer_usable : Direction → Bool
buffer_usable (Upload source) = not (lacks_copy_src source)
buffer_usable (Download b) = contains b.usage.0 BufferUsages.COPY_DST

abbrev pub aligned : Direction → Bool
aligned (Upload source) = is_aligned source
aligned (Download b) = true

-- the bytes that the buffer or the block of memory has
abbrev pub byte_size : Direction → ℕ
byte_size (Upload source) = source_size source
byte_size (Download b) = b.size

pub record Accepted (c : Copy) : Type 0 where
  pub buffer_bounds : buffer_within c.direction ≡ true
  pub texture_bounds : texture_in_bounds c.texture ≡ true
  pub range : RangeLaws c.view c.texture c.size
  pub chosen : eqb (aspects c) 0 ≡ false
  pub buffer_usage : buffer_usable c.direction ≡ true
  pub texture_usage : contains c.texture.usage.0 (texture_flag c.direction) ≡ true
  pub format : checked (format_checks c.direction c.texture.format c.view.aspect) ≡ (Ok tt)
  pub layout : checked (layout_checks c.view.aspect (aspects c) c.texture c.layout (aligned c.direction)) ≡ (Ok tt)
  pub linear : LinearLaws c.layout (byte_size c.direction) (dense c)
  pub fact : lacks_depth_fact c.device c.texture.format ≡ false

-- a copy is accepted exactly where these hold, and then this is its plan
pub record CopyLaw (c : Copy) : Type 0 where
  pub has_plan : Accepted c → planned c ≡ Ok (plan_for c)
  pub is_accepted : (p : BufferTexturePlan) → planned c ≡ Ok p → Accepted c × (plan_for c ≡ p)

abbrev pub EveryCopyLaw : Type 0
EveryCopyLaw = (c : Copy) → CopyLaw c

-- ---- refusals of a copy from memory

-- not one of 3, 5, 14 and 20, which are of a buffer's record, its flag and its alignment
abbrev pub may_refuse_memory : ℕ → Bool
may_refuse_memory number = not (eqb number 3 || (eqb number 5 || (eqb number 14 || eqb number 20)))

abbrev pub EveryMemoryRefusal : Type 0
EveryMemoryRefusal =
    (device : Device) (length : ℕ) (layout : TexelCopyBufferLayout) (t : Texture) (view : TexelCopyTextureInfo) (size : Extent3d) (e : TransferError)
    → memory_to_texture device length layout t view size ≡ Err e → may_refuse_memory (numbers_of e).number ≡ true
