-- What an acceptance says of the copy.
-- Assumes nothing.
use Rattle.std.specs.Prelude.{Ok}
use mathlib.Core.Path.{◌≡◌, refl, sym, ◌∙◌}
use mathlib.Core.Bool.{true}
use borrow.Author.Tests.{not-false}
use Rattle.flags.specs.Flags.{is_one}
use Rattle.refusals.proofs.Order.{none_in, test_fails, checked_passes}
use Rattle.rule_formats.specs.Rules.{layout_checks}
use Rattle.plan_buffer_texture.specs.declared.BufferTexturePlan.{BufferTexturePlan}
use Rattle.copy_buffer_texture.specs.declared.UploadSource.TheVariants as S
use Rattle.copy_buffer_texture.specs.Copy.{Direction, Upload, Download, Copy}
use Rattle.copy_buffer_texture.specs.Plan.{aspects, plan_for}
use Rattle.copy_buffer_texture.specs.Plan as planner
use Rattle.copy_buffer_texture.specs.Laws.{aligned, Accepted}
use Rattle.copy_buffer_texture.proofs.Accepted.{every_copy_law, as_uploaded, as_written, as_downloaded}
use Rattle.claim_ownership.specs.Copy.{planned_by, planned}

pub record Checks (c : Copy) (p : BufferTexturePlan) : Type 0 where
  pub accepted : Accepted c
  pub one : is_one (aspects c) ≡ true
  pub plan : plan_for c ≡ p

one_aspect : (c : Copy) → Accepted c → is_one (aspects c) ≡ true
unfolding layout_checks
one_aspect c a =
    let rule = layout_checks c.view.aspect (aspects c) c.texture c.layout (aligned c.direction) in
    not-false (is_one (aspects c)) (test_fails _ _ (none_in rule (checked_passes rule a.layout) 1))

pub checks_of_lem : (c : Copy) (p : BufferTexturePlan) → planned c ≡ Ok p → Checks c p
checks_of_lem c p h =
    let a = (every_copy_law c).is_accepted p (sym (either_way c.direction refl) ∙ h) in
    record { accepted = a.0; one = one_aspect c a.0; plan = a.1 }
  where
    either_way : (d : Direction) → c.direction ≡ d → planned_by d c ≡ planner.planned c
    either_way (Upload (S.Buffer b)) way = as_uploaded c b way
    either_way (Upload (S.Memory length)) way = as_written c length way
    either_way (Download b) way = as_downloaded c b way
