-- Copies between a buffer, or memory, and a texture: the checks in their order, and the plan.
use Rattle.std.specs.Prelude.{ℕ, Bool, true, false, ◌&&◌, not, None, Result, Ok}
use mathlib.Core.List.{[], ◌∷◌, flatten}
use Rattle.measures.specs.declared.Extent3d.{Extent3d}
use Rattle.flags.specs.BufferUsages as BufferUsages
use Rattle.flags.specs.TextureUsages as TextureUsages
use Rattle.flags.specs.Flags.{contains}
use Rattle.formats.specs.Table.{is_depth_stencil}
use Rattle.formats.specs.Aspects.{chosen_aspects}
use Rattle.refusals.specs.declared.CopySide.TheVariants.{Source, Destination}
use Rattle.refusals.specs.declared.DownlevelFlags.TheVariants.{DepthTextureAndBufferCopies}
use Rattle.refusals.specs.declared.TransferError.TheVariants as E
use Rattle.refusals.specs.Order.{Checks, refuse_if, decided}
use Rattle.records.specs.declared.Buffer.{Buffer}
use Rattle.records.specs.declared.Device.{Device}
use Rattle.records.specs.declared.Texture.{Texture}
use Rattle.records.specs.declared.TexelCopyTextureInfo.{TexelCopyTextureInfo}
use Rattle.records.specs.declared.TexelCopyBufferLayout.{TexelCopyBufferLayout}
use Rattle.records.specs.Bounds.{buffer_checks, texture_checks}
use Rattle.rule_copy_range.specs.Range.{copy_extent, layer_count_of, range_checks}
use Rattle.rule_linear_data.specs.declared.Dense.{Dense}
use Rattle.rule_linear_data.specs.declared.LinearData.{LinearData}
use Rattle.rule_linear_data.specs.Linear.{dense_of, linear_data, linear_checks}
use Rattle.rule_formats.specs.Rules.{src_format_checks, dst_format_checks, layout_checks}
use Rattle.rule_selectors.specs.Selector.{base_of, selector_checks}
use Rattle.rule_init_ranges.specs.declared.TextureInitRange.{TextureInitRange}
use Rattle.rule_init_ranges.specs.declared.BufferInitRanges.{BufferInitRanges}
use Rattle.rule_init_ranges.specs.Init.{src_texture_range, dst_texture_range, buffer_init}
use Rattle.plan_buffer_texture.specs.declared.BufferTexturePlan.{BufferTexturePlan}
use Rattle.plan_buffer_texture.specs.Plan.{plan_of}
use Rattle.copy_buffer_texture.specs.declared.UploadSource.{UploadSource}
use Rattle.copy_buffer_texture.specs.declared.UploadSource.TheVariants as S
use Rattle.copy_buffer_texture.specs.Copy.{Direction, Upload, Download, Copy}
use Rattle.refusals.specs.declared.TransferError.{TransferError}

-- the aspects that the copy chooses of the format
abbrev pub aspects : Copy → ℕ
aspects c = chosen_aspects c.texture.format c.view.aspect

-- what is copied, with nothing between rows
abbrev pub dense : Copy → Dense
dense c = dense_of c.texture.format c.view.aspect c.size

-- a depth-stencil format without the fact
unfoldable pub lacks_depth_fact : Device → ℕ → Bool
lacks_depth_fact device format = is_depth_stencil format && not device.depth_texture_and_buffer_copies

-- ---- what an upload reads: a buffer, or memory, of which nothing is asked but its length

-- the record's bounds
abbrev pub source_checks : UploadSource → Checks
source_checks (S.Buffer b) = buffer_checks b Source
source_checks (S.Memory length) = []

-- the flag of what is read
abbrev pub lacks_copy_src : UploadSource → Bool
lacks_copy_src (S.Buffer b) = not (contains b.usage.0 BufferUsages.COPY_SRC)
lacks_copy_src (S.Memory length) = false

-- whether offset and bytes per row are held to multiples
abbrev pub is_aligned : UploadSource → Bool
is_aligned (S.Buffer b) = true
is_aligned (S.Memory length) = false

abbrev pub source_size : UploadSource → ℕ
source_size (S.Buffer b) = b.size
source_size (S.Memory length) = length

-- ---- the orders of checks

-- buffer to texture, memory to texture
unfoldable pub upload_checks : UploadSource → Copy → Checks
upload_checks source c =
    flatten (source_checks source)  -- 3, of a buffer
    ∷ flatten (texture_checks c.texture Destination)  -- 2
    ∷ flatten (range_checks c.view c.texture Destination c.size)  -- module 3
    ∷ flatten (selector_checks c.view c.texture)  -- 12
    ∷ refuse_if (lacks_copy_src source) (E.MissingBufferUsage Source)  -- 5, of a buffer
    ∷ refuse_if (not (contains c.texture.usage.0 TextureUsages.COPY_DST)) (E.MissingTextureUsage Destination)  -- 6
    ∷ flatten (dst_format_checks c.texture.format c.view.aspect)  -- 31 or 32
    ∷ flatten (layout_checks c.view.aspect (aspects c) c.texture c.layout (is_aligned source))  -- 35; 28; of a buffer 14, 20
    ∷ flatten (linear_checks c.layout (source_size source) Source (dense c))  -- module 4
    ∷ refuse_if (lacks_depth_fact c.device c.texture.format) (E.MissingDownlevelFlags DepthTextureAndBufferCopies)  -- 34
    ∷ []

-- texture to buffer
unfoldable pub download_checks : Buffer → Copy → Checks
download_checks b c =
    flatten (texture_checks c.texture Source)  -- 2
    ∷ flatten (buffer_checks b Destination)  -- 3
    ∷ flatten (range_checks c.view c.texture Source c.size)  -- module 3
    ∷ flatten (selector_checks c.view c.texture)  -- 12
    ∷ refuse_if (not (contains c.texture.usage.0 TextureUsages.COPY_SRC)) (E.MissingTextureUsage Source)  -- 6
    ∷ flatten (src_format_checks c.texture.format c.view.aspect)  -- 29 or 30
    ∷ flatten (layout_checks c.view.aspect (aspects c) c.texture c.layout true)  -- 35; 28; 14; 20
    ∷ flatten (linear_checks c.layout b.size Destination (dense c))  -- module 4
    ∷ refuse_if (lacks_depth_fact c.device c.texture.format) (E.MissingDownlevelFlags DepthTextureAndBufferCopies)  -- 34
    ∷ refuse_if (not (contains b.usage.0 BufferUsages.COPY_DST)) (E.MissingBufferUsage Destination)  -- 5
    ∷ []

abbrev pub checks_of : Direction → Copy → Checks
checks_of (Upload source) c = upload_checks source c
checks_of (Download b) c = download_checks b c

-- ---- the plan

-- the texture's range, as it is written or read
abbrev pub copy_texture_range : Direction → Copy → TextureInitRange
copy_texture_range (Upload source) c = dst_texture_range c.view c.texture c.size
copy_texture_range (Download b) c = src_texture_range c.view c.texture c.size

-- the ranges of what an upload reads, from an offset on; memory has none
unfoldable pub source_ranges : UploadSource → ℕ → LinearData → BufferInitRanges
source_ranges (S.Buffer b) offset info = buffer_init offset Source info.bytes_in_copy info.is_contiguous
source_ranges (S.Memory length) offset info = record { head = None; whole = None; tail = None }

-- the buffer's ranges, as it is read or written
abbrev pub buffer_ranges : Direction → ℕ → LinearData → BufferInitRanges
buffer_ranges (Upload source) offset info = source_ranges source offset info
buffer_ranges (Download b) offset info = buffer_init offset Destination info.bytes_in_copy info.is_contiguous

unfoldable pub plan_for : Copy → BufferTexturePlan
plan_for c =
    plan_of c.layout c.size (copy_extent c.texture c.size) (layer_count_of c.texture c.size)
    (base_of c.view c.texture (aspects c)) (linear_data c.layout (dense c)) (copy_texture_range c.direction c)
    (buffer_ranges c.direction c.layout.offset (linear_data c.layout (dense c)))

unfoldable pub planned : Copy → Result BufferTexturePlan TransferError
planned c = decided (checks_of c.direction c) (Ok (plan_for c))

-- ---- by what is copied

abbrev pub uploaded : Device → UploadSource → TexelCopyBufferLayout → Texture → TexelCopyTextureInfo → Extent3d → Result BufferTexturePlan TransferError
uploaded device source layout t view size =
    planned (record { direction = Upload source; device = device; layout = layout; texture = t; view = view; size = size })

unfoldable pub buffer_to_texture : Device → Buffer → TexelCopyBufferLayout → Texture → TexelCopyTextureInfo → Extent3d → Result BufferTexturePlan TransferError
buffer_to_texture device b layout t view size = uploaded device (S.Buffer b) layout t view size

unfoldable pub memory_to_texture : Device → ℕ → TexelCopyBufferLayout → Texture → TexelCopyTextureInfo → Extent3d → Result BufferTexturePlan TransferError
memory_to_texture device length layout t view size = uploaded device (S.Memory length) layout t view size

unfoldable pub texture_to_buffer : Device → Texture → TexelCopyTextureInfo → Buffer → TexelCopyBufferLayout → Extent3d → Result BufferTexturePlan TransferError
texture_to_buffer device t view b layout size =
    planned (record { direction = Download b; device = device; layout = layout; texture = t; view = view; size = size })
