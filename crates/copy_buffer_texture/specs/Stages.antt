-- The same answers as the functions between the first check and the plan give them. Only the contracts of private functions cite this: no caller need
-- read it.
use Rattle.std.specs.Prelude.{ℕ, ◌^◌, ◌<◌, true, not, Result, Ok, Err}
use Rattle.conditions.specs.Conditions.{stop_if, ◌$◌}
use Rattle.measures.specs.declared.Extent3d.{Extent3d}
use Rattle.flags.specs.BufferUsages as BufferUsages
use Rattle.flags.specs.TextureUsages as TextureUsages
use Rattle.flags.specs.Flags.{contains}
use Rattle.refusals.specs.declared.CopySide.TheVariants.{Source, Destination}
use Rattle.refusals.specs.declared.DownlevelFlags.TheVariants.{DepthTextureAndBufferCopies}
use Rattle.refusals.specs.declared.TransferError.TheVariants as E
use Rattle.refusals.specs.Order.{decided, checked}
use Rattle.records.specs.declared.Buffer.{Buffer}
use Rattle.records.specs.declared.Texture.{Texture}
use Rattle.records.specs.declared.TextureSide.{TextureSide}
use Rattle.records.specs.declared.TexelCopyTextureInfo.{TexelCopyTextureInfo}
use Rattle.records.specs.Bounds.{buffer_checks, texture_checks}
use Rattle.rule_copy_range.specs.Range.{range_checked}
use Rattle.rule_linear_data.specs.Linear.{linear_checked}
use Rattle.rule_formats.specs.Rules.{src_format_checks, dst_format_checks, layout_checks}
use Rattle.rule_selectors.specs.Selector.{selector_checked}
use Rattle.rule_init_ranges.specs.Init.{src_texture_range, dst_texture_range, buffer_init}
use Rattle.refusals.specs.Stages.{after}
use Rattle.plan_buffer_texture.specs.Plan.{plan_of}
use Rattle.refusals.specs.declared.CopySide.{CopySide}
use Rattle.plan_buffer_texture.specs.declared.TexturePart.{TexturePart}
use Rattle.rule_init_ranges.specs.declared.TextureInitRange.{TextureInitRange}
use Rattle.copy_buffer_texture.specs.declared.LinearTextureCopy.{LinearTextureCopy}
use Rattle.copy_buffer_texture.specs.declared.UploadSource.{UploadSource}
use Rattle.copy_buffer_texture.specs.declared.UploadSource.TheVariants as S
use Rattle.copy_buffer_texture.specs.Plan.{lacks_depth_fact, lacks_copy_src, is_aligned, source_size, source_ranges}
use Rattle.plan_buffer_texture.specs.declared.BufferTexturePlan.{BufferTexturePlan}
use Rattle.refusals.specs.declared.TransferError.{TransferError}

-- ---- the part of the texture

-- module 3; 12
unfoldable pub part_checked : TexelCopyTextureInfo → Texture → CopySide → Extent3d → Result TexturePart TransferError
part_checked view t side size =
    after (range_checked view t side size) λ range.
    after (selector_checked view t size) λ selected.
    Ok (record { extent = range.0; layers = range.1; base = selected.1 })

-- its range, as it is read or written
unfoldable pub texture_range : CopySide → TexelCopyTextureInfo → Texture → Extent3d → TextureInitRange
texture_range Source view t size = src_texture_range view t size
texture_range Destination view t size = dst_texture_range view t size

-- ---- into a texture, from a buffer or from memory

-- module 4; 34
unfoldable pub upload_placed : UploadSource → LinearTextureCopy → TexturePart → Result BufferTexturePlan TransferError
upload_placed source c part =
    after (linear_checked c.layout c.texture.texture.format c.texture.view.aspect (source_size source) Source c.size) λ info.
    stop_if (lacks_depth_fact c.device c.texture.texture.format) (Err (E.MissingDownlevelFlags DepthTextureAndBufferCopies)) $
    Ok (plan_of c.layout c.size part.extent part.layers part.base info (texture_range Destination c.texture.view c.texture.texture c.size) (source_ranges source c.layout.offset info))

-- 5; 6; 31 or 32; 35; 28; 14; 20
unfoldable pub upload_allowed : UploadSource → LinearTextureCopy → TexturePart → Result BufferTexturePlan TransferError
upload_allowed source c part =
    stop_if (lacks_copy_src source) (Err (E.MissingBufferUsage Source)) $
    stop_if (not (contains c.texture.texture.usage.0 TextureUsages.COPY_DST)) (Err (E.MissingTextureUsage Destination)) $
    after (checked (dst_format_checks c.texture.texture.format c.texture.view.aspect)) λ _.
    after (checked (layout_checks c.texture.view.aspect part.base.aspect.0 c.texture.texture c.layout (is_aligned source))) λ _.
    upload_placed source c part

-- module 3; 12
unfoldable pub upload_ranged : UploadSource → LinearTextureCopy → TextureSide → Result BufferTexturePlan TransferError
upload_ranged source c t =
    after (part_checked t.view t.texture Destination c.size) λ part.
    upload_allowed source c part

-- the texture's record: 2; module 3; 12
unfoldable pub upload_recorded : UploadSource → LinearTextureCopy → Result BufferTexturePlan TransferError
upload_recorded source c =
    after {A = TextureSide} (decided (texture_checks c.texture.texture Destination) (Ok c.texture)) λ t.
    upload_ranged source c t

-- the buffer's: 3
unfoldable pub upload_staged : Buffer → LinearTextureCopy → Result BufferTexturePlan TransferError
upload_staged b c =
    after (decided (buffer_checks b Source) (Ok b)) λ b.
    upload_recorded (S.Buffer b) c

-- ---- what callees need

-- the end of a buffer's ranges, rounded up, has 64 bits
abbrev pub EndFits : UploadSource → ℕ → Type 0
EndFits (S.Buffer b) end = end < 2 ^ 63
EndFits (S.Memory length) end = Unit {0}

-- ---- texture to buffer

-- module 4; 34; 5
unfoldable pub download_placed : LinearTextureCopy → Buffer → TexturePart → Result BufferTexturePlan TransferError
download_placed c b part =
    after (linear_checked c.layout c.texture.texture.format c.texture.view.aspect b.size Destination c.size) λ info.
    stop_if (lacks_depth_fact c.device c.texture.texture.format) (Err (E.MissingDownlevelFlags DepthTextureAndBufferCopies)) $
    stop_if (not (contains b.usage.0 BufferUsages.COPY_DST)) (Err (E.MissingBufferUsage Destination)) $
    Ok (plan_of c.layout c.size part.extent part.layers part.base info (texture_range Source c.texture.view c.texture.texture c.size) (buffer_init c.layout.offset Destination info.bytes_in_copy info.is_contiguous))

-- 6; 29 or 30; 35; 28; 14; 20
unfoldable pub download_allowed : LinearTextureCopy → Buffer → TexturePart → Result BufferTexturePlan TransferError
download_allowed c b part =
    stop_if (not (contains c.texture.texture.usage.0 TextureUsages.COPY_SRC)) (Err (E.MissingTextureUsage Source)) $
    after (checked (src_format_checks c.texture.texture.format c.texture.view.aspect)) λ _.
    after (checked (layout_checks c.texture.view.aspect part.base.aspect.0 c.texture.texture c.layout true)) λ _.
    download_placed c b part

-- module 3; 12
unfoldable pub download_ranged : LinearTextureCopy → Buffer → TextureSide → Result BufferTexturePlan TransferError
download_ranged c b t =
    after (part_checked t.view t.texture Source c.size) λ part.
    download_allowed c b part

-- records: 2 source, 3 destination; module 3; 12
unfoldable pub download_staged : LinearTextureCopy → Buffer → Result BufferTexturePlan TransferError
download_staged c b =
    after {A = TextureSide} (decided (texture_checks c.texture.texture Source) (Ok c.texture)) λ t.
    after (decided (buffer_checks b Destination) (Ok b)) λ b.
    download_ranged c b t
