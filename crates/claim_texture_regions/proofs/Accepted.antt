-- What an acceptance says of a copy between textures.
-- Assumes nothing.
use Rattle.std.specs.Prelude.{Ok}
use mathlib.Core.Path.{◌≡◌}
use Prim.Native.Nat.{ℕ}
use Rattle.rule_selectors.specs.declared.TextureCopyBase.{TextureCopyBase}
use Rattle.rule_selectors.specs.Selector.{base_of}
use Rattle.records.specs.declared.TextureSide.{TextureSide}
use Rattle.plan_textures.specs.declared.TexturePlan.{TexturePlan}
use Rattle.copy_textures.specs.Copy as T
use Rattle.copy_textures.specs.Copy.{between}
use Rattle.copy_textures.specs.Plan.{texture_to_texture}
use Rattle.copy_textures.specs.Laws as L
use Rattle.copy_textures.proofs.Accepted.{every_copy_law}
use Rattle.claim_texture_regions.specs.Regions.{Copy}

-- the aspects that the rules choose, and where a side starts
abbrev pub bits : TextureSide → ℕ
bits s = T.chosen s

abbrev pub base_for : TextureSide → TextureCopyBase
base_for s = base_of s.view s.texture (bits s)

-- the plan of an accepted copy, whichever textures they are
abbrev pub plan_for : Copy → TexturePlan
plan_for c = T.plan_for (between 0 c.src 0 c.dst c.size)

abbrev pub Accepted : ℕ → ℕ → Copy → Type 0
Accepted i j c = L.Accepted (between i c.src j c.dst c.size)

pub accepted : (i j : ℕ) (c : Copy) (p : TexturePlan) → texture_to_texture i c.src j c.dst c.size ≡ Ok p → Accepted i j c × (plan_for c ≡ p)
unfolding T.plan_for
accepted i j c p h = (every_copy_law (between i c.src j c.dst c.size)).is_accepted p h
