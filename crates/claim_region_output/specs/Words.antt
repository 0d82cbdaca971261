-- What the words of a plan, which callers in other languages keep, give is the regions that asking the plan gives.
use Rattle.std.specs.Prelude.{ℕ, ◌^◌, ◌≤◌, ◌<◌, ◌≡◌, List, [], ◌∷◌, ◌++◌, map, length, replicate}
use Rattle.plan_kinds.specs.declared.Plan.{Plan}
use Rattle.plan_kinds.specs.declared.Plan.TheVariants.{Buffers, BufferTexture, Textures}
use Rattle.plan_writer.specs.Writing.{slots_of}
use Rattle.c_words.specs.Words.{buffer_words, buffer_texture_words, texture_words}
use Rattle.c_plans.specs.PlanWords.{buffers_from, buffer_texture_from, textures_from}
use Rattle.c_regions.specs.Regions.{if_left, next_number, buffer_region, buffer_behind, buffer_texture_region, buffer_texture_behind, texture_region, texture_behind, written_number, written_words}
use Rattle.claim_region_output.specs.Asking.{Region, Gives}
use Rattle.claim_region_output.specs.Numbers.{Number, given, optional, base_numbers, sides, row, slots, written, Below}

-- ---- the next region

-- what one of `copy_planner_next_*` answers for words w: 1, a region and the words after it; or 0, zeros and w. Asking with w, then with
-- the words after in turn, until the answer is 0, gives the rows, in order
module _ (fields : ℕ) (next behind : List ℕ → List ℕ) where
  pub data WordsGive : List ℕ → List (List ℕ) → Type 0 where
    stop : {w : List ℕ} → next_number w ≡ 0 → if_left w (next w) (replicate fields 0) ≡ replicate fields 0 → if_left w (behind w) w ≡ w → WordsGive w []
    step :
        {w r : List ℕ} {rows : List (List ℕ)} → next_number w ≡ 1 → if_left w (next w) (replicate fields 0) ≡ r
        → WordsGive (if_left w (behind w) w) rows → WordsGive w (r ∷ rows)

-- by the plan's kind
abbrev pub GiveAs : Plan → List ℕ → List (List ℕ) → Type 0
GiveAs (Buffers p) = WordsGive 3 buffer_region buffer_behind
GiveAs (BufferTexture p) = WordsGive 12 buffer_texture_region buffer_texture_behind
GiveAs (Textures p) = WordsGive 15 texture_region texture_behind

unfoldable pub words : Plan → List ℕ
words (Buffers p) = buffer_words p
words (BufferTexture p) = buffer_texture_words p
words (Textures p) = texture_words p

-- a plan counts its regions in 32 bits
abbrev pub EveryPlanSteps : Type 0
EveryPlanSteps = (p : Plan) (rs : List Region) → Gives p rs → length rs < 2 ^ 32 → GiveAs p (words p) (map row rs)

-- ---- all regions

-- the plan that `copy_planner_write_*` reads from words
unfoldable pub plan_from : Plan → Plan
plan_from (Buffers p) = Buffers (buffers_from (buffer_words p))
plan_from (BufferTexture p) = BufferTexture (buffer_texture_from (buffer_texture_words p))
plan_from (Textures p) = Textures (textures_from (texture_words p))

-- its numbers of 32 bits
unfoldable pub narrow : Plan → List Number
narrow (Buffers p) = given p.left ∷ []
narrow (BufferTexture p) = given p.left ∷ optional p.region.bytes_per_row ∷ optional p.region.rows_per_image ∷ (base_numbers p.region.base ++ sides p.region.size)
narrow (Textures p) = given p.left ∷ given p.part ∷ (base_numbers p.src ++ (base_numbers p.dst ++ sides p.size))

-- where there is room, 0, the regions' numbers in the slice, and words that have none left; else 38, and nothing changes
pub record WordsWrite (p : Plan) (rs : List Region) (slice : List ℕ) : Type 0 where
  pub room : length (slots rs) ≤ length slice → (slots_of (plan_from p) slice ≡ written rs slice) × (written_number (plan_from p) (length slice) ≡ 0) × GiveAs p (written_words (words p) (plan_from p) (length slice)) []
  pub short : length slice < length (slots rs) → (slots_of (plan_from p) slice ≡ slice) × (written_number (plan_from p) (length slice) ≡ 38) × (written_words (words p) (plan_from p) (length slice) ≡ words p)

abbrev pub EveryPlanWritesByWords : Type 0
EveryPlanWritesByWords = (p : Plan) (rs : List Region) → Gives p rs → Below (2 ^ 32) (narrow p) → (slice : List ℕ) → WordsWrite p rs slice
