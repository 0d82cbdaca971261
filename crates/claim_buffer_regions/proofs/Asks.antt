-- Asking a plan with no region left, and with one.
-- Assumes nothing.
use Rattle.std.specs.Prelude.{Some, None}
use mathlib.Core.Path.{◌≡◌, refl}
use mathlib.Core.List.{List, [], ◌∷◌}
use Prim.Native.Nat.{ℕ}
use native.Mathlib.Omega.{arith}
use borrow.Author.Tests.{eq-eqb, ne_eqb}
use Rattle.conditions.specs.Conditions.{stop_if}
use Rattle.plan_buffers.specs.declared.BufferCopy.{BufferCopy}
use Rattle.plan_buffers.specs.declared.BufferPlan.{BufferPlan}
use Rattle.plan_buffers.specs.Asking.{advanced, next_of}
use Rattle.claim_buffer_regions.specs.Claim.{Gives, ended, gave}

at_end : (p : BufferPlan) → p.left ≡ 0 → next_of p ≡ record { answer = None; plan = p }
unfolding next_of stop_if
at_end p e = rw (eq-eqb p.left 0 e)

at_last : (p : BufferPlan) → p.left ≡ 1 → next_of p ≡ record { answer = Some p.region; plan = advanced p }
unfolding next_of stop_if
at_last p e = rw (ne_eqb p.left 0 (λ z. omega arith))

left_next : (p : BufferPlan) → p.left ≡ 1 → (advanced p).left ≡ 0
unfolding advanced
left_next p e = omega arith

pub gives_none : (p : BufferPlan) → p.left ≡ 0 → Gives p []
gives_none p e = let f = at_end p e in ended {p = p} (rw f) (rw f)

pub gives_one : (p : BufferPlan) → p.left ≡ 1 → Gives p (p.region ∷ [])
gives_one p e = let f = at_last p e in gave {p = p} {r = p.region} {rs = []} (rw f) (rw f (gives_none (advanced p) (left_next p e)))

pub none_only : {p : BufferPlan} {rs : List BufferCopy} → Gives p rs → p.left ≡ 0 → rs ≡ []
none_only (ended h q) e = refl
none_only {p} (gave h g) e = let f = rw (at_end p e) at h in let z : ◌≡◌ {A = ℕ} 0 1 = cc in absurd (omega arith)

pub one_only : {p : BufferPlan} {rs : List BufferCopy} → Gives p rs → p.left ≡ 1 → rs ≡ p.region ∷ []
one_only {p} (ended h q) e = let f = rw (at_last p e) at h in let z : ◌≡◌ {A = ℕ} 0 1 = cc in absurd (omega arith)
one_only {p} (gave {r = r} {rs = rs} h g) e =
    let m = at_last p e in
    let f : Some p.region ≡ Some r = rw m at h in
    let t : rs ≡ [] = none_only (rw m at g) (left_next p e) in
    cc
