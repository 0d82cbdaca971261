-- The regions that asking a plan gives: all of them, in order. 01: a plan asked for its next region hands back that region beside the
-- advanced plan; past the end the plan is unchanged.
use Rattle.std.specs.Prelude.{◌≡◌, List, [], ◌∷◌, Option, Some, None}
use Rattle.plan_buffers.specs.declared.BufferCopy.{BufferCopy}
use Rattle.plan_buffers.specs.Asking.{next_of as nextBuffers}
use Rattle.plan_buffer_texture.specs.declared.BufferTextureCopy.{BufferTextureCopy}
use Rattle.plan_buffer_texture.specs.Asking.{next_of as nextBufferTexture}
use Rattle.plan_textures.specs.declared.TextureCopy.{TextureCopy}
use Rattle.plan_textures.specs.Asking.{next_of as nextTextures}
use Rattle.plan_kinds.specs.declared.Plan.{Plan}
use Rattle.plan_kinds.specs.declared.Plan.TheVariants.{Buffers, BufferTexture, Textures}

-- a region of any kind
pub data Region : Type 0 where
  buffers : BufferCopy → Region
  buffer_texture : BufferTextureCopy → Region
  textures : TextureCopy → Region

-- what a plan answers that is asked for its next region
pub data Answer : Type 0 where
  region : Region → Answer
  none_left : Answer

unfoldable pub buffers_answer : Option BufferCopy → Answer
buffers_answer (Some r) = region (buffers r)
buffers_answer None = none_left

unfoldable pub buffer_texture_answer : Option BufferTextureCopy → Answer
buffer_texture_answer (Some r) = region (buffer_texture r)
buffer_texture_answer None = none_left

unfoldable pub textures_answer : Option TextureCopy → Answer
textures_answer (Some r) = region (textures r)
textures_answer None = none_left

unfoldable pub answer : Plan → Answer
answer (Buffers p) = buffers_answer (nextBuffers p).answer
answer (BufferTexture p) = buffer_texture_answer (nextBufferTexture p).answer
answer (Textures p) = textures_answer (nextTextures p).answer

unfoldable pub handed_back : Plan → Plan
handed_back (Buffers p) = Buffers (nextBuffers p).plan
handed_back (BufferTexture p) = BufferTexture (nextBufferTexture p).plan
handed_back (Textures p) = Textures (nextTextures p).plan

-- asking p, then each plan handed back in turn, until none is left, gives the regions rs, in order
pub data Gives : Plan → List Region → Type 0 where
  ended : {p : Plan} → answer p ≡ none_left → handed_back p ≡ p → Gives p []
  gave : {p : Plan} {r : Region} {rs : List Region} → answer p ≡ region r → Gives (handed_back p) rs → Gives p (r ∷ rs)

-- asking ends, whatever the plan, and gives one list of regions
pub record Ends (p : Plan) : Type 0 where
  pub regions : List Region
  pub gives : Gives p regions
  pub only : (rs : List Region) → Gives p rs → rs ≡ regions

abbrev pub EveryPlanEnds : Type 0
EveryPlanEnds = (p : Plan) → Ends p
