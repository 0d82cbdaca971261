-- What the words of a plan keep of it: all but its ranges, and so its regions.
use Prim.{Unit}
use Rattle.std.specs.Prelude.{ℕ, ◌^◌, ◌<◌, ◌≡◌, List, [], ◌∷◌, ◌++◌, Option, Some, None}
use Rattle.plan_buffers.specs.declared.BufferPlan.{BufferPlan}
use Rattle.plan_buffer_texture.specs.declared.BufferTexturePlan.{BufferTexturePlan}
use Rattle.plan_rows.specs.Rows.{base_numbers, size_numbers}
use Rattle.plan_kinds.specs.declared.Plan.{Plan}
use Rattle.plan_kinds.specs.declared.Plan.TheVariants.{Buffers, BufferTexture, Textures}
use Rattle.plan_kinds.specs.Regions.{regions_left, textures_with}
use Rattle.c_words.specs.Words.{buffer_words, buffer_texture_words, texture_words}
use Rattle.c_plans.specs.PlanWords.{buffers_from, buffer_texture_from, textures_from}

-- ---- a plan without its ranges

abbrev pub bare_buffers : BufferPlan → BufferPlan
bare_buffers p =
    record { region = p.region; left = p.left; dst_range = None; src_range = None; bytes_checked = p.bytes_checked }

abbrev pub bare_buffer_texture : BufferTexturePlan → BufferTexturePlan
bare_buffer_texture p =
    record { region = p.region; stride = p.stride; left = p.left; ranges = None; bytes_checked = p.bytes_checked }

unfoldable pub without_ranges : Plan → Plan
without_ranges (Buffers p) = Buffers (bare_buffers p)
without_ranges (BufferTexture p) = BufferTexture (bare_buffer_texture p)
without_ranges (Textures p) = Textures (textures_with None p)

-- ---- the plan that its words give

unfoldable pub read_back : Plan → Plan
read_back (Buffers p) = Buffers (buffers_from (buffer_words p))
read_back (BufferTexture p) = BufferTexture (buffer_texture_from (buffer_texture_words p))
read_back (Textures p) = Textures (textures_from (texture_words p))

-- ---- numbers within their width

abbrev pub Narrow : List ℕ → Type 0
Narrow [] = Unit {0}
Narrow (n ∷ ns) = (n < 2 ^ 32) × Narrow ns

abbrev pub given_numbers : Option ℕ → List ℕ
given_numbers (Some n) = n ∷ []
given_numbers None = []

-- the numbers that have 32 bits
unfoldable pub narrow_numbers : Plan → List ℕ
narrow_numbers (Buffers p) = p.left ∷ []
narrow_numbers (BufferTexture p) =
    p.left ∷ (base_numbers p.region.base ++ (size_numbers p.region.size ++ (given_numbers p.region.bytes_per_row ++ given_numbers p.region.rows_per_image)))
narrow_numbers (Textures p) = p.left ∷ p.part ∷ (base_numbers p.src ++ (base_numbers p.dst ++ size_numbers p.size))

abbrev pub EveryPlan : Type 0
EveryPlan = (p : Plan) → Narrow (narrow_numbers p) → (read_back p ≡ without_ranges p) × (regions_left (without_ranges p) ≡ regions_left p)
