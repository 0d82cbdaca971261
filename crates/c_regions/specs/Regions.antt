-- What a caller in another language is answered for a plan's next region, and for all that are left.
use Rattle.std.specs.Prelude.{ℕ, ◌+◌, ◌-◌, ◌/◌, ◌%◌, ◌^◌, Bool, not, ◌&&◌, List, take, drop, ◌==◌, slice_index, slice_set}
use Rattle.conditions.specs.Conditions.{pick, ◌$◌}
use Rattle.flags.specs.FormatAspects.{DEPTH, STENCIL, PLANE_0, PLANE_1}
use Rattle.c_words.specs.Words.{buffer_words, buffer_texture_words, texture_words}
use Rattle.plan_kinds.specs.declared.Plan.{Plan}
use Rattle.plan_kinds.specs.declared.Plan.TheVariants.{Buffers, BufferTexture, Textures}
use Rattle.plan_kinds.specs.Regions.{left_of}
use Rattle.plan_writer.specs.Writing.{behind_all, fits}

unfoldable pub words_of : Plan → List ℕ
words_of (Buffers p) = buffer_words p
words_of (BufferTexture p) = buffer_texture_words p
words_of (Textures p) = texture_words p

-- ---- the next region, and the words after it, from a plan's words w; where no region is left: zeros, and w

-- word i
abbrev pub word_at : List ℕ → ℕ → ℕ
word_at w i = slice_index w i

-- how many regions are left: the low 32 bits of word 0
abbrev pub left_in : List ℕ → ℕ
left_in w = word_at w 0 % 2 ^ 32

-- one answer where a region is left, the other where none is
unfoldable pub if_left : {A : Type 0} → List ℕ → A → A → A
if_left w one none = pick (left_in w == 0) none one

unfoldable pub next_number : List ℕ → ℕ
next_number w = if_left w 1 0

-- the words with one region fewer
abbrev pub one_fewer : List ℕ → List ℕ
one_fewer w = slice_set w 0 (left_in w - 1)

-- the words with the layer, which is word i, one on
abbrev pub layer_on : ℕ → List ℕ → List ℕ
layer_on i w = slice_set w i ((word_at w i + 1) % 2 ^ 32)

-- between buffers: words 2, 3, 4

unfoldable pub buffer_region : List ℕ → List ℕ
buffer_region w = take 3 (drop 2 w)

unfoldable pub buffer_behind : List ℕ → List ℕ
buffer_behind w = one_fewer w

-- between a buffer, or memory, and a texture: the words from 3 on, of which 3 is the offset and 7 the layer; word 2 is the stride

unfoldable pub buffer_texture_region : List ℕ → List ℕ
buffer_texture_region w = drop 3 w

abbrev pub offset_on : List ℕ → List ℕ
offset_on w = slice_set w 3 ((word_at w 3 + word_at w 2) % 2 ^ 64)

unfoldable pub buffer_texture_behind : List ℕ → List ℕ
buffer_texture_behind w = layer_on 7 (offset_on (one_fewer w))

-- between textures: a layer is the words from 3 on, of which 4 and 10 are the layers; word 1 is 0 where it is copied whole,
-- 1 where depth and stencil are its parts, and else planes are; word 2 is 0 at the first part

-- a region r with the aspects of its source and of its destination
unfoldable pub with_aspects : ℕ → ℕ → List ℕ → List ℕ
with_aspects source destination r = slice_set (slice_set r 5 source) 11 destination

abbrev pub halved_at : ℕ → List ℕ → List ℕ
halved_at i r = slice_set r i (word_at r i / 2)

-- x and y of both sides, width and height divided by 2
unfoldable pub chroma_halved : List ℕ → List ℕ
chroma_halved r = halved_at 2 $ halved_at 3 $ halved_at 8 $ halved_at 9 $ halved_at 12 $ halved_at 13 r

abbrev pub part_region : ℕ → List ℕ → List ℕ
part_region aspects w = with_aspects aspects aspects (drop 3 w)

unfoldable pub depth_or_stencil : ℕ → ℕ
depth_or_stencil part = pick (part == 0) DEPTH STENCIL

unfoldable pub texture_region : List ℕ → List ℕ
texture_region w =
    pick (word_at w 1 == 0) (drop 3 w) $
    pick (word_at w 1 == 1) (part_region (depth_or_stencil (word_at w 2)) w) $
    pick (word_at w 2 == 0) (part_region PLANE_0 w) (chroma_halved (part_region PLANE_1 w))

-- whether the layer has another part after this one
unfoldable pub part_follows : ℕ → ℕ → Bool
part_follows parts part = not (parts == 0) && part == 0

-- the layer's other part, or the first part one layer on
unfoldable pub part_on : List ℕ → List ℕ
part_on w = pick (part_follows (word_at w 1) (word_at w 2)) (slice_set w 2 1) (layer_on 10 (layer_on 4 (slice_set w 2 0)))

unfoldable pub texture_behind : List ℕ → List ℕ
texture_behind w = part_on (one_fewer w)

-- ---- all regions left; the slice afterwards is `slots_of`

-- 0, or 38 where the slice is too short
unfoldable pub written_number : Plan → ℕ → ℕ
written_number p room = pick (fits p room) 0 38

-- the words of the plan after them; the words as they are where the slice is too short
unfoldable pub written_words : List ℕ → Plan → ℕ → List ℕ
written_words w p room = pick (fits p room) (words_of (behind_all (left_of p) p)) w
