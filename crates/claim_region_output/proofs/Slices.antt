-- The writer leaves the regions that asking gives, and nothing else, in the slice.
-- Assumes nothing.
use mathlib.Core.Path.{◌≡◌, refl, ap, ◌∙◌}
use mathlib.Core.List.{List, []}
use Prim.Native.Nat.{ℕ, ◌+◌, ◌≤◌}
use native.Mathlib.Omega.{arith}
use borrow.Author.Tests.{le-leb, lt-leb}
use lib.ListN.{length}
use lib.Seq.{sets, sets-eq}
use Rattle.refusals.specs.Numbers.{numbers_of}
use Rattle.plan_kinds.specs.declared.Plan.{Plan}
use Rattle.plan_kinds.specs.Regions.{left_of}
use Rattle.plan_writer.specs.Writing.{numbers_from, numbers_left, behind_all, fits, slots_of, written_of}
use Rattle.claim_region_output.specs.Asking.{Region, Gives}
use Rattle.claim_region_output.specs.Numbers.{slots, written}
use Rattle.claim_region_output.specs.Written.{EveryPlanWrites}
use Rattle.claim_region_output.proofs.Asks.{counted, all_numbers, sized, all_behind}

module _ {p : Plan} {rs : List Region} (g : Gives p rs) where
  pub left_numbers : numbers_left p ≡ slots rs
  unfolding numbers_left
  left_numbers = ap (λ (n : ℕ). numbers_from n p) (counted g) ∙ all_numbers g

  pub left_behind : Gives (behind_all (left_of p) p) []
  left_behind = rw (counted g) (all_behind g)

module _ (rs : List Region) (slice : List ℕ) (room : length (slots rs) ≤ length slice) where
  stored : sets slice 0 (slots rs) ≡ written rs slice
  unfolding written
  stored = let z : 0 + length (slots rs) ≡ length (slots rs) = omega arith in rw (sets-eq (slots rs) slice 0 (omega (arith, room)), z)

pub every_plan_writes : EveryPlanWrites
unfolding slots_of written_of fits numbers_of
every_plan_writes p rs g slice =
    record {
      room = λ h. rw (sized g, le-leb (length (slots rs)) (length slice) h) (rw (left_numbers g) (stored rs slice h), left_behind g);
      short = λ h. rw (sized g, lt-leb (length (slots rs)) (length slice) h) (refl, refl, refl);
    }
