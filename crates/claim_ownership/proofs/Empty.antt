-- Of every accepted copy with a size of 0.
-- Assumes nothing.
use Rattle.std.specs.Prelude.{None}
use mathlib.Core.Path.{◌≡◌, refl}
use mathlib.Core.Bool.{Bool, true, false, ◌||◌}
use mathlib.Core.Logic.{inl, inr}
use lib.Dec.{eqb}
use borrow.Author.Tests.{eq-eqb}
use Rattle.measures.specs.Measure.{is_empty}
use Rattle.plan_buffer_texture.specs.declared.BufferTexturePlan.{BufferTexturePlan}
use Rattle.plan_buffer_texture.specs.Plan.{ranges_of, plan_of}
use Rattle.copy_buffer_texture.specs.Plan.{plan_for}
use Rattle.copy_buffer_texture.specs.Copy.{Copy}
use Rattle.claim_ownership.specs.Copy.{depth, total}
use Rattle.claim_ownership.specs.Empty.{NoSize, EveryEmptyCopy}
use Rattle.claim_ownership.proofs.Accepted.{Checks, checks_of_lem}
use Rattle.claim_ownership.proofs.Sound.{linear_is}
use Rattle.claim_ownership.proofs.Asks.{gives, gives_only}

or_true : (t : Bool) → (t || true) ≡ true
or_true true = refl
or_true false = refl

nothing : (c : Copy) → NoSize c → is_empty c.size ≡ true
unfolding is_empty
nothing c (inl e) = rw (eq-eqb c.size.width.0 0 e)
nothing c (inr (inl e)) = rw (eq-eqb c.size.height.0 0 e, or_true (eqb c.size.width.0 0))
nothing c (inr (inr e)) = rw (eq-eqb (depth c) 0 e, or_true (eqb c.size.height.0 0), or_true (eqb c.size.width.0 0))

emptied : (c : Copy) (p : BufferTexturePlan) → Checks c p → NoSize c → (p.left ≡ 0) × (p.ranges ≡ None) × (p.bytes_checked ≡ total c)
unfolding plan_for plan_of ranges_of
emptied c p k z = rw (← k.plan, linear_is c p k, nothing c z) (refl, refl, refl)

pub every_empty_copy : EveryEmptyCopy
every_empty_copy c p e z =
    let m = emptied c p (checks_of_lem c p e) z in
    record { asked = λ rs. (λ g. gives_only 0 g m.0, λ q. rw q (gives 0 p m.0)); reported = m.1; required = m.2 }
