-- What the check does not find alone for `copy_texture_to_texture`.
use mathlib.Core.Path.{ap}
use Rattle.conditions.specs.Conditions.{◌$◌}
use Rattle.conditions.proofs.Rules.{flag_lines, line_passes_flag}
use Rattle.records.specs.declared.TextureSide.{TextureSide}
use Rattle.refusals.proofs.Stages.{after_goes, after_hands, read_goes, read_hands}
use Rattle.copy_textures.specs.Stages.{texture_copy_staged}
use Rattle.copy_textures.proofs.Rules.{part_is, layers_few}
use Rattle.copy_textures.proofs.Staged.{by_law}
use Rattle.copy_textures.proofs.copy_texture_to_texture.Goals as goal

pub returns-in_err-from : goal.returns-in_err-from
unfolding texture_copy_staged
returns-in_err-from c =
    by_law _ _ _ _ _ _ $
    read_hands _ _ c.check_textures.ensures c.in_err-from.was c.from_residual.ensures.1

pub returns-then-is_incompatible : goal.returns-then-is_incompatible
unfolding texture_copy_staged
returns-then-is_incompatible c =
    by_law _ _ _ _ _ _ $
    read_goes _ _ c.check_textures.ensures c.in_ok-from.was (rw (← c.is_plane_split-split.ensures) (search flag_lines))

pub returns-in_err-check_range : goal.returns-in_err-check_range
unfolding texture_copy_staged
returns-in_err-check_range c =
    by_law _ _ _ _ _ _ $
    read_goes _ _ c.check_textures.ensures c.in_ok-from.was $
    line_passes_flag _ _ _ _ _ _ (rw (← c.is_plane_split-split.ensures) c.is_incompatible.ensures) c.if-is_incompatible.false $
    after_hands _ c.check_range.ensures c.in_err-check_range.was c.from_residual-in_err-check_range.ensures.1

pub returns-in_err-check_range-2 : goal.returns-in_err-check_range-2
unfolding texture_copy_staged
returns-in_err-check_range-2 c =
    by_law _ _ _ _ _ _ $
    read_goes _ _ c.check_textures.ensures c.in_ok-from.was $
    line_passes_flag _ _ _ _ _ _ (rw (← c.is_plane_split-split.ensures) c.is_incompatible.ensures) c.if-is_incompatible.false $
    after_goes _ c.check_range.ensures c.in_ok-check_range.was $
    after_hands _ c.check_range-2.ensures c.in_err-check_range-2.was c.from_residual-in_err-check_range-2.ensures.1

-- an accepted range goes over few layers
pub invariant_of-transfer : goal.invariant_of-transfer
invariant_of-transfer c =
    let same = part_is {A = TextureSide × TextureSide} _ _ _ c.check_textures.ensures c.in_ok-from.was in
    let few = layers_few _ _ _ _ c.in_ok-from.from.in_bounds c.check_range.ensures c.in_ok-check_range.was in
    record { few = rw (← ap (λ (t : TextureSide × TextureSide). t.0) same) few }

pub returns : goal.returns
unfolding texture_copy_staged
returns c =
    by_law _ _ _ _ _ _ $
    read_goes _ _ c.check_textures.ensures c.in_ok-from.was $
    line_passes_flag _ _ _ _ _ _ (rw (← c.is_plane_split-split.ensures) c.is_incompatible.ensures) c.if-is_incompatible.false $
    after_goes _ c.check_range.ensures c.in_ok-check_range.was $
    after_goes _ c.check_range-2.ensures c.in_ok-check_range-2.was (rw (← c.is_plane_split-split.ensures) c.placed.ensures)
