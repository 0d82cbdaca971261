-- What the check does not find alone for `placed`.
use mathlib.Core.Path.{refl, sym, ◌∙◌}
use Rattle.conditions.specs.Conditions.{◌$◌}
use Rattle.refusals.proofs.Stages.{after_goes, after_hands}
use Rattle.copy_textures.specs.Stages.{placed_copy, within_plane, within_one}
use Rattle.copy_textures.proofs.Rules.{not_asked, asked}
use Rattle.copy_textures.proofs.Transfer.placed.Goals as goal
use Rattle.copy_textures.proofs.Transfer.placed.Goals.{then-self+in_ok-check_plane_extent, else-self, then-self-2+in_ok-check_within_one, else-self-2}

pub returns-in_err-check_plane_extent : goal.returns-in_err-check_plane_extent
unfolding placed_copy within_plane
returns-in_err-check_plane_extent c =
    after_hands _ (asked _ _ c.if-self.true c.check_plane_extent.ensures) c.in_err-check_plane_extent.was c.from_residual.ensures.1

pub returns-in_err-check_within_one : goal.returns-in_err-check_within_one
unfolding placed_copy within_plane within_one
returns-in_err-check_within_one c =
    after_goes _
    (elim c.if-self.branch [
      | then-self+in_ok-check_plane_extent w ↦ sym w.in_ok-check_plane_extent.was ∙ asked _ _ w.if-self.true w.check_plane_extent.ensures
      | else-self w ↦ not_asked _ _ w.if-self.false
    ])
    refl $
    after_hands _ (asked _ _ c.if-self-2.true c.check_within_one.ensures) c.in_err-check_within_one.was c.from_residual-in_err-check_within_one.ensures.1

pub returns : goal.returns
unfolding placed_copy within_plane within_one
returns c =
    after_goes _
    (elim c.if-self.branch [
      | then-self+in_ok-check_plane_extent w ↦ sym w.in_ok-check_plane_extent.was ∙ asked _ _ w.if-self.true w.check_plane_extent.ensures
      | else-self w ↦ not_asked _ _ w.if-self.false
    ])
    refl $
    after_goes _
    (elim c.if-self-2.branch [
      | then-self-2+in_ok-check_within_one w ↦ sym w.in_ok-check_within_one.was ∙ asked _ _ w.if-self-2.true w.check_within_one.ensures
      | else-self-2 w ↦ not_asked _ _ w.if-self-2.false
    ])
    refl c.selected.ensures
