-- The regions of a plan of any kind, as rows of numbers.
use Rattle.std.specs.Prelude.{ℕ, zero, suc, List, [], ◌∷◌, Option, option_map, unwrap_or}
use Rattle.plan_buffers.specs.Asking as K
use Rattle.plan_buffer_texture.specs.Asking as L
use Rattle.plan_textures.specs.declared.TexturePlan.{TexturePlan}
use Rattle.plan_textures.specs.Asking as X
use Rattle.plan_rows.specs.Rows.{buffer_copy_numbers, buffer_texture_copy_numbers, texture_copy_numbers}
use Rattle.plan_kinds.specs.declared.Plan.{Plan}
use Rattle.plan_kinds.specs.declared.Plan.TheVariants.{Buffers, BufferTexture, Textures}
use Rattle.plan_asked.specs.declared.Asked.{Asked}
use Rattle.rule_init_ranges.specs.declared.TextureInitRange.{TextureInitRange}

-- how many regions are left
unfoldable pub left_of : Plan → ℕ
left_of (Buffers p) = p.left
left_of (BufferTexture p) = p.left
left_of (Textures p) = p.left

-- the numbers of each region
unfoldable pub fields_of : Plan → ℕ
fields_of (Buffers p) = 3
fields_of (BufferTexture p) = 12
fields_of (Textures p) = 15

-- the bytes checked, 0 between textures
unfoldable pub checked_bytes_of : Plan → ℕ
checked_bytes_of (Buffers p) = p.bytes_checked
checked_bytes_of (BufferTexture p) = p.bytes_checked
checked_bytes_of (Textures p) = 0

-- ---- the next region's numbers, of which there are none past the last, and the plan after it

unfoldable pub next_numbers : Plan → Option (List ℕ)
next_numbers (Buffers p) = option_map buffer_copy_numbers (K.next_of p).answer
next_numbers (BufferTexture p) = option_map buffer_texture_copy_numbers (L.next_of p).answer
next_numbers (Textures p) = option_map texture_copy_numbers (X.next_of p).answer

unfoldable pub behind_of : Plan → Plan
behind_of (Buffers p) = Buffers (K.next_of p).plan
behind_of (BufferTexture p) = BufferTexture (L.next_of p).plan
behind_of (Textures p) = Textures (X.next_of p).plan

unfoldable pub next_of : Plan → Asked (List ℕ) Plan
next_of p = record { answer = next_numbers p; plan = behind_of p }

-- ---- the regions left, each by asking the plan that the one before handed back

unfoldable pub region_numbers : Plan → List ℕ
region_numbers p = unwrap_or (next_numbers p) []

unfoldable pub regions_from : ℕ → Plan → List (List ℕ)
regions_from zero p = []
regions_from (suc n) p = region_numbers p ∷ regions_from n (behind_of p)

unfoldable pub regions_left : Plan → List (List ℕ)
regions_left p = regions_from (left_of p) p

-- ---- a plan with other ranges, which its regions do not rest on

abbrev pub textures_with : Option (TextureInitRange × TextureInitRange) → TexturePlan → TexturePlan
textures_with ranges p =
    record { src = p.src; dst = p.dst; size = p.size; parts = p.parts; part = p.part; left = p.left; ranges = ranges }
