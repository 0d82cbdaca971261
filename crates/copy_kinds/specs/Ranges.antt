-- The ranges of a copy, in the order in which they are reported, each with the index of its texture or buffer.
use Rattle.std.specs.Prelude.{ℕ, ◌+◌, [], ◌∷◌, get_or, Option, Some, None, option_map}
use Rattle.rule_init_ranges.specs.declared.TextureInitRange.{TextureInitRange}
use Rattle.rule_init_ranges.specs.declared.BufferInitRanges.{BufferInitRanges}
use Rattle.plan_buffers.specs.declared.BufferPlan.{BufferPlan}
use Rattle.copy_kinds.specs.declared.InitRange.{InitRange}
use Rattle.copy_kinds.specs.declared.InitRange.TheVariants.{Texture, Buffer}
use Rattle.copy_kinds.specs.declared.Ranges.{Ranges}
use Rattle.rule_init_ranges.specs.declared.BufferInitRange.{BufferInitRange}

unfoldable pub buffer_slot : ℕ → Option BufferInitRange → Option InitRange
buffer_slot buffer range = option_map (λ r. Buffer buffer r) range

unfoldable pub no_ranges : Ranges
no_ranges = record { slots = None ∷ None ∷ None ∷ None ∷ [] }

-- between buffers the destination's first
unfoldable pub buffer_ranges : ℕ → ℕ → BufferPlan → Ranges
buffer_ranges src dst p =
    record { slots = buffer_slot dst p.dst_range ∷ buffer_slot src p.src_range ∷ None ∷ None ∷ [] }

-- the texture's, then the buffer's
unfoldable pub texture_and_buffer : ℕ → TextureInitRange → ℕ → BufferInitRanges → Ranges
texture_and_buffer texture t buffer b =
    record {
      slots = Some (Texture texture t) ∷ buffer_slot buffer b.head ∷ buffer_slot buffer b.whole ∷ buffer_slot buffer b.tail ∷ [];
    }

unfoldable pub copy_ranges : ℕ → ℕ → Option (TextureInitRange × BufferInitRanges) → Ranges
copy_ranges texture buffer (Some (t, b)) = texture_and_buffer texture t buffer b
copy_ranges texture buffer None = no_ranges

-- from memory the texture's alone
unfoldable pub memory_ranges : ℕ → Option (TextureInitRange × BufferInitRanges) → Ranges
memory_ranges texture (Some (t, b)) = record { slots = Some (Texture texture t) ∷ None ∷ None ∷ None ∷ [] }
memory_ranges texture None = no_ranges

-- the source's, then the destination's
unfoldable pub two_textures : ℕ → TextureInitRange → ℕ → TextureInitRange → Ranges
two_textures src s dst d = record { slots = Some (Texture src s) ∷ Some (Texture dst d) ∷ None ∷ None ∷ [] }

unfoldable pub texture_ranges : ℕ → ℕ → Option (TextureInitRange × TextureInitRange) → Ranges
texture_ranges src dst (Some (s, d)) = two_textures src s dst d
texture_ranges src dst None = no_ranges

-- ---- how many there are

-- the range of a slot; there are four slots
abbrev pub range_at : Ranges → ℕ → Option InitRange
range_at r k = get_or r.slots k None

unfoldable pub slot_count : Option InitRange → ℕ
slot_count (Some r) = 1
slot_count None = 0

unfoldable pub count_of : Ranges → ℕ
count_of r = slot_count (range_at r 0) + slot_count (range_at r 1) + slot_count (range_at r 2) + slot_count (range_at r 3)
