-- Asking a plan of one kind is asking a plan of any kind.
-- Assumes nothing.
use mathlib.Core.Path.{refl, ap}
use mathlib.Core.List.{List, map}
use Prim.Native.Nat.{◌^◌, ◌<◌}
use Rattle.plan_buffers.specs.declared.BufferCopy.{BufferCopy}
use Rattle.plan_buffers.specs.declared.BufferPlan.{BufferPlan}
use Rattle.plan_buffer_texture.specs.declared.BufferTextureCopy.{BufferTextureCopy}
use Rattle.plan_buffer_texture.specs.declared.BufferTexturePlan.{BufferTexturePlan}
use Rattle.plan_textures.specs.declared.TextureCopy.{TextureCopy}
use Rattle.plan_textures.specs.declared.TexturePlan.{TexturePlan}
use Rattle.plan_kinds.specs.declared.Plan.{Plan}
use Rattle.plan_kinds.specs.Regions.{left_of}
use Rattle.plan_kinds.specs.declared.Plan.TheVariants.{Buffers, BufferTexture, Textures}
use Rattle.claim_buffer_regions.specs.Claim as O
use Rattle.claim_buffer_regions.proofs.Claims.{every_buffer_copy}
use Rattle.claim_ownership.specs.Asking as B
use Rattle.claim_ownership.proofs.Claims.{every_copy}
use Rattle.claim_ownership.proofs.Empty.{every_empty_copy}
use Rattle.claim_texture_regions.specs.Claim as T
use Rattle.claim_texture_regions.proofs.Claims.{every_texture_copy}
use Rattle.claim_region_output.specs.Asking.{Region, buffers, buffer_texture, textures, buffers_answer, buffer_texture_answer, textures_answer, answer, handed_back, Gives, ended, gave}
use Rattle.claim_region_output.specs.Copies.{Reaches, BufferCopies, BufferTextureCopies, EmptyCopies, TextureCopies}
use Rattle.claim_region_output.proofs.Asks.{counted}
use Rattle.claim_region_output.proofs.ByWords.{every_plan_steps}
use Rattle.claim_region_output.proofs.Few.{buffers_few, copy_few, textures_few}

buffers_asked : {p : BufferPlan} {rs : List BufferCopy} → O.Gives p rs → Gives (Buffers p) (map buffers rs)
unfolding answer handed_back buffers_answer
buffers_asked (O.ended a same) = ended (ap buffers_answer a) (ap Buffers same)
buffers_asked (O.gave a rest) = gave (ap buffers_answer a) (buffers_asked rest)

buffer_texture_asked : {p : BufferTexturePlan} {rs : List BufferTextureCopy} → B.Gives p rs → Gives (BufferTexture p) (map buffer_texture rs)
unfolding answer handed_back buffer_texture_answer
buffer_texture_asked (B.ended a same) = ended (ap buffer_texture_answer a) (ap BufferTexture same)
buffer_texture_asked (B.gave a rest) = gave (ap buffer_texture_answer a) (buffer_texture_asked rest)

textures_asked : {p : TexturePlan} {rs : List TextureCopy} → T.Gives p rs → Gives (Textures p) (map textures rs)
unfolding answer handed_back textures_answer
textures_asked (T.ended a same) = ended (ap textures_answer a) (ap Textures same)
textures_asked (T.gave a rest) = gave (ap textures_answer a) (textures_asked rest)

-- the plan's regions, few as they are, are those of its words
reached : {p : Plan} {rs : List Region} → Gives p rs → left_of p < 2 ^ 32 → Reaches p rs
reached {p} {rs} g few = (g, every_plan_steps p rs g (rw (← counted g) few))

pub buffer_copies : BufferCopies
unfolding left_of
buffer_copies device i j c p e = reached (buffers_asked (((every_buffer_copy device i j c p e).asked _).1 refl)) (buffers_few device i j _ _ _ _ _ p e)

pub buffer_texture_copies : BufferTextureCopies
unfolding left_of
buffer_texture_copies c p fits e w h d = reached (buffer_texture_asked (((every_copy c p fits e w h d).asked _).1 refl)) (copy_few c p e)

pub empty_copies : EmptyCopies
unfolding left_of
empty_copies c p e none = reached (buffer_texture_asked (((every_empty_copy c p e none).asked _).1 refl)) (copy_few c p e)

pub texture_copies : TextureCopies
unfolding left_of
texture_copies i j c p e = reached (textures_asked ((every_texture_copy i j c p e _).1 refl)) (textures_few i _ j _ _ p e)
