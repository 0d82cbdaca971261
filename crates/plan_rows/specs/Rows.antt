-- Regions, ranges and refusals as numbers: 3, 12 or 15 for a region, 5 or 4 for a range, 6 for a refusal.
use Rattle.std.specs.Prelude.{ℕ, ◌-◌, ◌^◌, List, [], ◌∷◌, ◌++◌, Option, Some, None}
use Rattle.refusals.specs.declared.TransferError.{TransferError}
use Rattle.refusals.specs.Numbers.{numbers_of}
use Rattle.rule_copy_range.specs.declared.CopyExtent.{CopyExtent}
use Rattle.rule_selectors.specs.declared.TextureCopyBase.{TextureCopyBase}
use Rattle.rule_init_ranges.specs.declared.TextureInitRange.{TextureInitRange}
use Rattle.rule_init_ranges.specs.declared.BufferInitRange.{BufferInitRange}
use Rattle.rule_init_ranges.specs.Init.{kind_number}
use Rattle.plan_buffers.specs.declared.BufferCopy.{BufferCopy}
use Rattle.plan_buffer_texture.specs.declared.BufferTextureCopy.{BufferTextureCopy}
use Rattle.plan_textures.specs.declared.TextureCopy.{TextureCopy}

-- ---- regions

-- an absent value is the last number of 64 bits
unfoldable pub or_absent : Option ℕ → ℕ
or_absent (Some n) = n
or_absent None = 2 ^ 64 - 1

-- two offsets, size
unfoldable pub buffer_copy_numbers : BufferCopy → List ℕ
buffer_copy_numbers r = r.src_offset ∷ r.dst_offset ∷ r.size ∷ []

-- level, layer, x, y, z, aspect bits
abbrev pub base_numbers : TextureCopyBase → List ℕ
base_numbers b = b.mip_level ∷ b.array_layer ∷ b.origin.x.0 ∷ b.origin.y.0 ∷ b.origin.z ∷ b.aspect.0 ∷ []

abbrev pub size_numbers : CopyExtent → List ℕ
size_numbers e = e.width.0 ∷ e.height.0 ∷ e.depth ∷ []

-- offset, bytes, rows, the texture's place, size
unfoldable pub buffer_texture_copy_numbers : BufferTextureCopy → List ℕ
buffer_texture_copy_numbers r =
    r.offset ∷ or_absent r.bytes_per_row ∷ or_absent r.rows_per_image ∷ (base_numbers r.base ++ size_numbers r.size)

-- both places, size
unfoldable pub texture_copy_numbers : TextureCopy → List ℕ
texture_copy_numbers r = base_numbers r.src ++ (base_numbers r.dst ++ size_numbers r.size)

-- ---- ranges

-- texture, level, first layer, end layer, kind
unfoldable pub texture_range_numbers : ℕ → TextureInitRange → List ℕ
texture_range_numbers texture r = texture ∷ r.mip_level ∷ r.layers.start ∷ r.layers.end ∷ kind_number r.kind ∷ []

-- buffer, start, end, kind
unfoldable pub buffer_range_numbers : ℕ → BufferInitRange → List ℕ
buffer_range_numbers buffer r = buffer ∷ r.start ∷ r.end ∷ kind_number r.kind ∷ []

-- ---- a refusal: number, side, dimension, start, end, limit

unfoldable pub refusal_numbers : TransferError → List ℕ
refusal_numbers why =
    (numbers_of why).number ∷ (numbers_of why).side ∷ (numbers_of why).dimension ∷ (numbers_of why).start ∷ (numbers_of why).end ∷ (numbers_of why).limit ∷ []
