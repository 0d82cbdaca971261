-- What the words of a plan give is what the plan gives: as many regions left, the same next region, and the words of the plan after it.
use Rattle.std.specs.Prelude.{◌≡◌, ℕ, ◌^◌, ◌<◌, List}
use Rattle.c_words.specs.Words.{buffer_words, buffer_texture_words, texture_words}
use Rattle.plan_kinds.specs.declared.Plan.{Plan}
use Rattle.plan_kinds.specs.declared.Plan.TheVariants.{Buffers, BufferTexture, Textures}
use Rattle.plan_kinds.specs.Regions.{left_of, region_numbers, behind_of}
use Rattle.c_regions.specs.Regions.{words_of, left_in, buffer_region, buffer_behind, buffer_texture_region, buffer_texture_behind, texture_region, texture_behind}

-- the next region from a plan's words
unfoldable pub region_from : Plan → List ℕ
region_from (Buffers p) = buffer_region (buffer_words p)
region_from (BufferTexture p) = buffer_texture_region (buffer_texture_words p)
region_from (Textures p) = texture_region (texture_words p)

-- the words after it
unfoldable pub words_behind : Plan → List ℕ
words_behind (Buffers p) = buffer_behind (buffer_words p)
words_behind (BufferTexture p) = buffer_texture_behind (buffer_texture_words p)
words_behind (Textures p) = texture_behind (texture_words p)

abbrev pub NextAgrees : Plan → Type 0
NextAgrees p = (region_from p ≡ region_numbers p) × (words_behind p ≡ words_of (behind_of p))

-- a plan counts its regions in 32 bits
abbrev pub EveryStep : Type 0
EveryStep = (p : Plan) → left_of p < 2 ^ 32 → (left_in (words_of p) ≡ left_of p) × (0 < left_of p → NextAgrees p)
