-- The regions that asking an accepted copy's plan gives are those that document 01 gives for the copy, and so are those that asking with the
-- plan's words gives: so they are what is written, printed and handed to other languages.
use Rattle.std.specs.Prelude.{◌≡◌, List, [], map, ℕ, ◌<◌, Ok}
use Rattle.records.specs.declared.Device.{Device}
use Rattle.plan_buffers.specs.declared.BufferPlan.{BufferPlan}
use Rattle.copy_buffers.specs.Plan.{buffer_to_buffer}
use Rattle.plan_buffer_texture.specs.declared.BufferTexturePlan.{BufferTexturePlan}
use Rattle.plan_textures.specs.declared.TexturePlan.{TexturePlan}
use Rattle.copy_textures.specs.Plan.{texture_to_texture}
use Rattle.plan_kinds.specs.declared.Plan.{Plan}
use Rattle.plan_kinds.specs.declared.Plan.TheVariants.{Buffers, BufferTexture, Textures}
use Rattle.claim_buffer_regions.specs.Regions as O
use Rattle.copy_buffer_texture.specs.Copy.{Copy}
use Rattle.claim_ownership.specs.Copy as B
use Rattle.claim_ownership.specs.Empty.{NoSize}
use Rattle.claim_texture_regions.specs.Regions as T
use Rattle.claim_region_output.specs.Asking.{Region, buffers, buffer_texture, textures, Gives}
use Rattle.claim_region_output.specs.Numbers.{row}
use Rattle.claim_region_output.specs.Words.{GiveAs, words}

-- asking until none is left, the plan or its words, gives these regions and no others
abbrev pub Reaches : Plan → List Region → Type 0
Reaches p rs = Gives p rs × GiveAs p (words p) (map row rs)

abbrev pub BufferCopies : Type 0
BufferCopies =
    (device : Device) (i j : ℕ) (c : O.Copy) (p : BufferPlan)
    → buffer_to_buffer device i c.src.buffer c.src.offset j c.dst.buffer c.dst.offset c.size ≡ Ok p
    → Reaches (Buffers p) (map buffers (O.regions_of c))

-- with a buffer, or memory, and a texture, of no size of 0, and of one
abbrev pub BufferTextureCopies : Type 0
BufferTextureCopies =
    (c : Copy) (p : BufferTexturePlan) → B.LengthFits c.direction → B.planned c ≡ Ok p → 0 < c.size.width.0 → 0 < c.size.height.0 → 0 < B.depth c
    → Reaches (BufferTexture p) (map buffer_texture (B.regions_of c))

abbrev pub EmptyCopies : Type 0
EmptyCopies = (c : Copy) (p : BufferTexturePlan) → B.planned c ≡ Ok p → NoSize c → Reaches (BufferTexture p) []

abbrev pub TextureCopies : Type 0
TextureCopies =
    (i j : ℕ) (c : T.Copy) (p : TexturePlan) → texture_to_texture i c.src j c.dst c.size ≡ Ok p
    → Reaches (Textures p) (map textures (T.regions_of c))
