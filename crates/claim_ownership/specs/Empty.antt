-- What holds of every accepted copy between a buffer, or memory, and a texture with a size of 0, from document 01's order of checks.
use Rattle.std.specs.Prelude.{◌≡◌, List, [], ◌⊎◌, ◌↔◌, None, Ok}
use Rattle.plan_buffer_texture.specs.declared.BufferTextureCopy.{BufferTextureCopy}
use Rattle.plan_buffer_texture.specs.declared.BufferTexturePlan.{BufferTexturePlan}
use Rattle.claim_ownership.specs.Asking.{Gives}
use Rattle.copy_buffer_texture.specs.Copy.{Copy}
use Rattle.claim_ownership.specs.Copy.{planned, depth, total}

-- zero width, height or depth
abbrev pub NoSize : Copy → Type 0
NoSize c = (c.size.width.0 ≡ 0) ⊎ ((c.size.height.0 ≡ 0) ⊎ (depth c ≡ 0))

-- it has no regions or ranges; the bytes checked are module 4's total all the same
pub record EmptyCopy (c : Copy) (p : BufferTexturePlan) : Type 0 where
  pub asked : (rs : List BufferTextureCopy) → Gives p rs ↔ (rs ≡ [])
  pub reported : p.ranges ≡ None
  pub required : p.bytes_checked ≡ total c

-- of every device, record and figure, and every accepted copy, from a buffer, from memory or into a buffer, whose width, height or depth is 0
abbrev pub EveryEmptyCopy : Type 0
EveryEmptyCopy = (c : Copy) (p : BufferTexturePlan) → planned c ≡ Ok p → NoSize c → EmptyCopy c p
