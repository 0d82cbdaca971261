-- The texture ranges of an accepted copy lie inside the book of their texture; so, by `EveryAnswer`, an update with one is never refused
-- with 39.
use Rattle.std.specs.Prelude.{Ok, Some, ◌≡◌, ℕ, Result}
use Rattle.measures.specs.declared.Extent3d.{Extent3d}
use Rattle.refusals.specs.declared.TransferError.{TransferError}
use Rattle.records.specs.declared.Buffer.{Buffer}
use Rattle.records.specs.declared.Device.{Device}
use Rattle.records.specs.declared.Texture.{Texture}
use Rattle.records.specs.declared.TextureSide.{TextureSide}
use Rattle.records.specs.declared.TexelCopyTextureInfo.{TexelCopyTextureInfo}
use Rattle.records.specs.declared.TexelCopyBufferLayout.{TexelCopyBufferLayout}
use Rattle.rule_init_ranges.specs.declared.BufferInitRanges.{BufferInitRanges}
use Rattle.rule_init_ranges.specs.declared.TextureInitRange.{TextureInitRange}
use Rattle.plan_buffer_texture.specs.declared.BufferTexturePlan.{BufferTexturePlan}
use Rattle.plan_textures.specs.declared.TexturePlan.{TexturePlan}
use Rattle.book_marks.specs.declared.Book.{Book}
use Rattle.claim_book.specs.Answers.{Inside}
use Rattle.claim_book.specs.Created.{layers_of}
-- what is judged
use Rattle.copy_buffer_texture.specs.Plan.{buffer_to_texture, memory_to_texture, texture_to_buffer}
use Rattle.copy_textures.specs.Plan.{texture_to_texture}

-- a book of as many levels and layers as the texture has, whatever it marks
pub record Counts (t : Texture) (b : Book) : Type 0 where
  pub levels : b.mip_level_count ≡ t.mip_level_count
  pub layers : b.array_layer_count ≡ layers_of t

abbrev pub Fits : Texture → TextureInitRange → Type 0
Fits t r = (b : Book) → Counts t b → Inside b r

-- of a copy with one texture: the texture's range, if the plan reports ranges
abbrev pub RangeFits : Texture → Result BufferTexturePlan TransferError → Type 0
RangeFits t answer =
    (p : BufferTexturePlan) → answer ≡ Ok p
    → (r : TextureInitRange) (bs : BufferInitRanges) → p.ranges ≡ Some (r, bs) → Fits t r

-- of a copy with two: the first range is the source's, the second the destination's
abbrev pub RangesFit : Texture → Texture → Result TexturePlan TransferError → Type 0
RangesFit src dst answer =
    (p : TexturePlan) → answer ≡ Ok p
    → (rs rd : TextureInitRange) → p.ranges ≡ Some (rs, rd) → Fits src rs × Fits dst rd

pub record EveryFittingRange : Type 0 where
  pub from_buffer :
      (device : Device) (b : Buffer) (layout : TexelCopyBufferLayout) (t : Texture) (view : TexelCopyTextureInfo) (size : Extent3d)
      → RangeFits t (buffer_to_texture device b layout t view size)
  pub from_memory :
      (device : Device) (length : ℕ) (layout : TexelCopyBufferLayout) (t : Texture) (view : TexelCopyTextureInfo) (size : Extent3d)
      → RangeFits t (memory_to_texture device length layout t view size)
  pub into_buffer :
      (device : Device) (t : Texture) (view : TexelCopyTextureInfo) (b : Buffer) (layout : TexelCopyBufferLayout) (size : Extent3d)
      → RangeFits t (texture_to_buffer device t view b layout size)
  pub between_textures :
      (i : ℕ) (src : TextureSide) (j : ℕ) (dst : TextureSide) (size : Extent3d)
      → RangesFit src.texture dst.texture (texture_to_texture i src j dst size)
