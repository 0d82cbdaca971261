-- Plans, ranges and refusals as words of 64 bits, which callers in other languages keep.
use Rattle.std.specs.Prelude.{ℕ, ◌+◌, ◌-◌, List, [], ◌∷◌, ◌++◌, replicate, Option, Some, None, Result, Ok, Err}
use Rattle.refusals.specs.declared.TransferError.{TransferError}
use Rattle.refusals.specs.declared.Refusal.{Refusal}
use Rattle.refusals.specs.Numbers.{numbers_of}
use Rattle.rule_init_ranges.specs.declared.TextureInitRange.{TextureInitRange}
use Rattle.rule_init_ranges.specs.declared.BufferInitRange.{BufferInitRange}
use Rattle.rule_init_ranges.specs.declared.BufferInitRanges.{BufferInitRanges}
use Rattle.rule_init_ranges.specs.declared.MemoryInitKind.{MemoryInitKind}
use Rattle.rule_init_ranges.specs.Init.{kind_number}
use Rattle.plan_rows.specs.Rows.{buffer_texture_copy_numbers, base_numbers, size_numbers}
use Rattle.plan_buffers.specs.declared.BufferPlan.{BufferPlan}
use Rattle.plan_buffer_texture.specs.declared.BufferTexturePlan.{BufferTexturePlan}
use Rattle.plan_textures.specs.Numbers.{parts_number}
use Rattle.plan_textures.specs.declared.TexturePlan.{TexturePlan}

-- ---- plans: the regions left, what the next of them needs, and its numbers

-- left, bytes checked, two offsets, size
unfoldable pub buffer_words : BufferPlan → List ℕ
buffer_words p = p.left ∷ p.bytes_checked ∷ p.region.src_offset ∷ p.region.dst_offset ∷ p.region.size ∷ 0 ∷ []

-- left, bytes checked, bytes from one region to the next, the region's twelve numbers
unfoldable pub buffer_texture_words : BufferTexturePlan → List ℕ
buffer_texture_words p = p.left ∷ p.bytes_checked ∷ p.stride ∷ buffer_texture_copy_numbers p.region

-- left, parts of a layer, the next of them, where the layer starts on both sides, size
unfoldable pub texture_words : TexturePlan → List ℕ
texture_words p =
    p.left ∷ parts_number p.parts ∷ p.part ∷ (base_numbers p.src ++ (base_numbers p.dst ++ size_numbers p.size))

-- ---- ranges: 0 for none, 1 implicitly initialised, 2 needs initialised memory; start, end

abbrev pub kind_word : MemoryInitKind → ℕ
kind_word kind = kind_number kind + 1

abbrev pub buffer_range_words : BufferInitRange → List ℕ
buffer_range_words r = kind_word r.kind ∷ r.start ∷ r.end ∷ []

unfoldable pub range_words : Option BufferInitRange → List ℕ
range_words (Some r) = buffer_range_words r
range_words None = 0 ∷ 0 ∷ 0 ∷ []

abbrev pub layers_words : TextureInitRange → List ℕ
layers_words r = kind_word r.kind ∷ r.layers.start ∷ r.layers.end ∷ []

-- the destination's, then the source's
unfoldable pub buffers_range_words : BufferPlan → List ℕ
buffers_range_words p = range_words p.dst_range ++ range_words p.src_range

-- the texture's, then the buffer's, of which memory has none
unfoldable pub copy_range_words : Option (TextureInitRange × BufferInitRanges) → List ℕ
copy_range_words (Some (t, b)) = layers_words t ++ (range_words b.head ++ (range_words b.whole ++ range_words b.tail))
copy_range_words None = replicate 12 0

-- the source's, then the destination's
unfoldable pub texture_range_words : Option (TextureInitRange × TextureInitRange) → List ℕ
texture_range_words (Some (s, d)) = layers_words s ++ layers_words d
texture_range_words None = replicate 6 0

-- ---- a refusal: no region left, then side, dimension, start, end, limit

abbrev pub details_words : Refusal → List ℕ → List ℕ
details_words n rest = 0 ∷ n.side ∷ n.dimension ∷ n.start ∷ n.end ∷ n.limit ∷ rest

abbrev pub refused_words : TransferError → List ℕ → List ℕ
refused_words e rest = details_words (numbers_of e) rest

-- ---- an answer about a plan of any kind: 0 or the refusal's number, the plan's n words, the ranges' m words

unfoldable pub answer_number : {P : Type 0} → Result P TransferError → ℕ
answer_number (Ok p) = 0
answer_number (Err e) = (numbers_of e).number

unfoldable pub answer_plan : {P : Type 0} → (P → List ℕ) → ℕ → Result P TransferError → List ℕ
answer_plan words n (Ok p) = words p
answer_plan words n (Err e) = refused_words e (replicate (n - 6) 0)

unfoldable pub answer_ranges : {P : Type 0} → (P → List ℕ) → ℕ → Result P TransferError → List ℕ
answer_ranges words m (Ok p) = words p
answer_ranges words m (Err e) = replicate m 0

-- the three kinds'

abbrev pub buffers_number : Result BufferPlan TransferError → ℕ
buffers_number = answer_number

abbrev pub buffers_plan : Result BufferPlan TransferError → List ℕ
buffers_plan = answer_plan buffer_words 6

abbrev pub buffers_ranges : Result BufferPlan TransferError → List ℕ
buffers_ranges = answer_ranges buffers_range_words 6

abbrev pub copy_number : Result BufferTexturePlan TransferError → ℕ
copy_number = answer_number

abbrev pub copy_plan : Result BufferTexturePlan TransferError → List ℕ
copy_plan = answer_plan buffer_texture_words 15

abbrev pub copy_ranges_of : Result BufferTexturePlan TransferError → List ℕ
copy_ranges_of = answer_ranges (λ p. copy_range_words p.ranges) 12

abbrev pub textures_number : Result TexturePlan TransferError → ℕ
textures_number = answer_number

abbrev pub textures_plan : Result TexturePlan TransferError → List ℕ
textures_plan = answer_plan texture_words 18

abbrev pub textures_ranges : Result TexturePlan TransferError → List ℕ
textures_ranges = answer_ranges (λ p. texture_range_words p.ranges) 6
