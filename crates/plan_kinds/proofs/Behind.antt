-- A plan that is asked has one region fewer.
-- Assumes nothing.
use mathlib.Core.Path.{◌≡◌, refl}
use mathlib.Core.Bool.{Bool, true, false}
use Prim.Native.Nat.{ℕ, ◌-◌, ◌<◌}
use native.Mathlib.Omega.{arith}
use borrow.Author.Tests.{ne_eqb}
use lib.Dec.{eqb}
use Rattle.conditions.specs.Conditions.{pick, stop_if}
use Rattle.plan_buffers.specs.Asking as K
use Rattle.plan_buffer_texture.specs.Asking as L
use Rattle.plan_textures.specs.Asking as X
use Rattle.plan_textures.specs.declared.CopyParts.{CopyParts}
use Rattle.plan_textures.specs.declared.CopyParts.TheVariants.{Whole, DepthStencil, Planes}
use Rattle.plan_textures.specs.declared.TexturePlan.{TexturePlan}
use Rattle.plan_kinds.specs.declared.Plan.{Plan}
use Rattle.plan_kinds.specs.declared.Plan.TheVariants.{Buffers, BufferTexture, Textures}
use Rattle.plan_kinds.specs.Regions.{left_of, behind_of}

some : {n : ℕ} → 0 < n → n ≡ 0 → ⊥
some h e = omega arith

one_less : (parts : CopyParts) (p : TexturePlan) → (X.advanced parts p).left ≡ p.left - 1
unfolding X.advanced X.other_part X.other_layer
one_less Whole p = refl
one_less DepthStencil p = by (eqb p.part 0)
  where
    by : (t : Bool) → (pick t (X.other_part p) (X.other_layer p)).left ≡ p.left - 1
    by true = refl
    by false = refl
one_less Planes p = by (eqb p.part 0)
  where
    by : (t : Bool) → (pick t (X.other_part p) (X.other_layer p)).left ≡ p.left - 1
    by true = refl
    by false = refl

pub behind_left : (p : Plan) → 0 < left_of p → left_of (behind_of p) ≡ left_of p - 1
unfolding left_of behind_of K.next_of L.next_of X.next_of K.advanced L.advanced stop_if
behind_left (Buffers p) h = rw (ne_eqb p.left 0 (some h))
behind_left (BufferTexture p) h = rw (ne_eqb p.left 0 (some h))
behind_left (Textures p) h = rw (ne_eqb p.left 0 (some h)) (one_less p.parts p)
