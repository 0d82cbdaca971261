-- What the check does not find alone for `copy_source_to_texture`.
use Rattle.refusals.proofs.Stages.{read_goes, read_hands}
use Rattle.copy_buffer_texture.specs.Stages.{upload_recorded}
use Rattle.copy_buffer_texture.proofs.copy_source_to_texture.Goals as goal

pub returns-in_err-t : goal.returns-in_err-t
unfolding upload_recorded
returns-in_err-t c = read_hands _ _ c.check_texture.ensures c.in_err-t.was c.from_residual.ensures.1

pub returns : goal.returns
unfolding upload_recorded
returns c =
    read_goes _ _ c.check_texture.ensures c.in_ok-t.was c.ranged.ensures
