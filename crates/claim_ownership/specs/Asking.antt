-- Asking a plan of a copy between a buffer, or memory, and a texture for all its regions.
use Rattle.std.specs.Prelude.{◌≡◌, List, [], ◌∷◌, Some, None}
use Rattle.plan_buffer_texture.specs.declared.BufferTextureCopy.{BufferTextureCopy}
use Rattle.plan_buffer_texture.specs.declared.BufferTexturePlan.{BufferTexturePlan}
use Rattle.plan_buffer_texture.specs.Asking.{next_of}

-- asking p, then each plan handed back in turn, until none is left, gives the regions rs, in order
pub data Gives : BufferTexturePlan → List BufferTextureCopy → Type 0 where
  ended : {p : BufferTexturePlan} → (next_of p).answer ≡ None → (next_of p).plan ≡ p → Gives p []
  gave : {p : BufferTexturePlan} {r : BufferTextureCopy} {rs : List BufferTextureCopy} → (next_of p).answer ≡ Some r → Gives (next_of p).plan rs → Gives p (r ∷ rs)
