-- Asking a plan until none is left gives its regions and nothing else.
-- Assumes nothing.
use Rattle.std.specs.Prelude.{Some, None}
use mathlib.Core.Path.{◌≡◌, refl}
use mathlib.Core.List.{List, [], ◌∷◌}
use Prim.Native.Nat.{ℕ, zero, suc, ◌<◌}
use native.Mathlib.Omega.{arith}
use borrow.Author.Tests.{eq-eqb, ne_eqb}
use lib.Dec.{eqb}
use Rattle.conditions.specs.Conditions.{pick, stop_if}
use mathlib.Core.Bool.{Bool, true, false}
use Rattle.plan_textures.specs.declared.CopyParts.{CopyParts}
use Rattle.plan_textures.specs.declared.CopyParts.TheVariants.{Whole, DepthStencil, Planes}
use Rattle.plan_textures.specs.declared.TextureCopy.{TextureCopy}
use Rattle.plan_textures.specs.declared.TexturePlan.{TexturePlan}
use Rattle.plan_textures.specs.Asking.{region_of, other_part, other_layer, advanced, next_of}
use Rattle.claim_texture_regions.specs.Claim.{Gives, ended, gave}

abbrev pub next : TexturePlan → TexturePlan
next p = advanced p.parts p

-- the next n regions of a plan
abbrev pub next_regions : ℕ → TexturePlan → List TextureCopy
next_regions zero p = []
next_regions (suc n) p = region_of p.parts p ∷ next_regions n (next p)

at_end : (p : TexturePlan) → p.left ≡ 0 → next_of p ≡ record { answer = None; plan = p }
unfolding next_of stop_if
at_end p e = rw (eq-eqb p.left 0 e)

at_more : (p : TexturePlan) → 0 < p.left → next_of p ≡ record { answer = Some (region_of p.parts p); plan = next p }
unfolding next_of stop_if
at_more p h = rw (ne_eqb p.left 0 (λ e. omega arith))

by_part : (n : ℕ) (p : TexturePlan) → p.left ≡ suc n → (t : Bool) → (pick t (other_part p) (other_layer p)).left ≡ n
unfolding other_part other_layer
by_part n p e true = omega arith
by_part n p e false = omega arith

left_next : (n : ℕ) (p : TexturePlan) → p.left ≡ suc n → (v : CopyParts) → (advanced v p).left ≡ n
unfolding advanced other_layer
left_next n p e Whole = omega arith
left_next n p e DepthStencil = by_part n p e (eqb p.part 0)
left_next n p e Planes = by_part n p e (eqb p.part 0)

pub gives : (n : ℕ) (p : TexturePlan) → p.left ≡ n → Gives p (next_regions n p)
gives zero p e = let f = at_end p e in ended {p = p} (rw f) (rw f)
gives (suc n) p e =
    let f = at_more p (omega arith) in
    gave {p = p} {r = region_of p.parts p} {rs = next_regions n (next p)} (rw f) (rw f (gives n (next p) (left_next n p e p.parts)))

pub gives_only : (n : ℕ) {p : TexturePlan} {rs : List TextureCopy} → Gives p rs → p.left ≡ n → rs ≡ next_regions n p
gives_only zero (ended h q) e = refl
gives_only zero {p} (gave h g) e = let f = rw (at_end p e) at h in let z : ◌≡◌ {A = ℕ} 0 1 = cc in absurd (omega arith)
gives_only (suc n) {p} (ended h q) e = let f = rw (at_more p (omega arith)) at h in let z : ◌≡◌ {A = ℕ} 0 1 = cc in absurd (omega arith)
gives_only (suc n) {p} (gave {r = r} {rs = rs} h g) e =
    let m = at_more p (omega arith) in
    let f : Some (region_of p.parts p) ≡ Some r = rw m at h in
    let t : rs ≡ next_regions n (next p) = gives_only n (rw m at g) (left_next n p e p.parts) in
    cc
