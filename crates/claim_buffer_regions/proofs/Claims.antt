-- The plan of an accepted copy between buffers is the copy's.
-- Assumes nothing.
use Rattle.std.specs.Prelude.{Option, Some, None}
use mathlib.Core.Path.{◌≡◌, refl, sym, ap, ◌∙◌}
use mathlib.Core.Bool.{Bool, true, false, cond}
use mathlib.Core.List.{List, [], ◌∷◌}
use mathlib.Core.Logic.{◌↔◌}
use Prim.Native.Nat.{ℕ, ◌-◌}
use Rattle.conditions.specs.Conditions.{pick}
use Rattle.rule_init_ranges.specs.declared.BufferInitRange.{BufferInitRange}
use Rattle.rule_init_ranges.specs.Init.{unless}
use Rattle.plan_buffers.specs.declared.BufferCopy.{BufferCopy}
use Rattle.plan_buffers.specs.declared.BufferPlan.{BufferPlan}
use Rattle.plan_buffers.specs.Plan.{plan_of}
use Rattle.copy_buffers.specs.Plan as planner
use Rattle.claim_buffer_regions.specs.Regions.{Copy, size_or, bytes, is_empty}
use Rattle.claim_buffer_regions.specs.Claim.{Gives, Planned, EveryBufferCopy}
use Rattle.claim_buffer_regions.proofs.Accepted.{Checks, checks_of_lem}
use Rattle.claim_buffer_regions.proofs.Asks.{gives_none, gives_one, none_only, one_only}

same_size : (size : Option ℕ) (rest : ℕ) → planner.size_or size rest ≡ size_or size rest
unfolding planner.size_or
same_size (Some n) rest = refl
same_size None rest = refl

same_range : (t : Bool) (r : BufferInitRange) → unless t r ≡ cond t None (Some r)
same_range true r = refl
same_range false r = refl

-- as many regions as are left
by_left : (t : Bool) (p : BufferPlan) → p.left ≡ pick t 0 1 → (rs : List BufferCopy) → Gives p rs ↔ (rs ≡ cond t [] (p.region ∷ []))
by_left true p e rs = (λ g. none_only g e, λ q. rw q (gives_none p e))
by_left false p e rs = (λ g. one_only g e, λ q. rw q (gives_one p e))

planned : (c : Copy) (p : BufferPlan) → Checks c p → Planned c p
unfolding plan_of
planned c p k =
    let n = same_size c.size (c.src.buffer.size - c.src.offset) in
    let q : plan_of c.src.offset c.dst.offset (bytes c) ≡ p = ap (plan_of c.src.offset c.dst.offset) (sym n) ∙ k.plan in
    rw (← q)
    (record {
      asked = by_left (is_empty c) (plan_of c.src.offset c.dst.offset (bytes c)) refl;
      dst_reported = same_range (is_empty c) _;
      src_reported = same_range (is_empty c) _;
      checked = refl;
      dst_inside = rw (← n) k.dst_inside;
      src_inside = rw (← n) k.src_inside;
    })

pub every_buffer_copy : EveryBufferCopy
every_buffer_copy device i j c p e = planned c p (checks_of_lem device i j c p e)
