-- What the check does not find alone for `copy_texture_to_buffer`.
use Rattle.conditions.specs.Conditions.{◌$◌}
use Rattle.refusals.proofs.Stages.{read_goes, read_hands}
use Rattle.copy_buffer_texture.specs.Stages.{download_staged}
use Rattle.copy_buffer_texture.proofs.Staged.{by_download_law}
use Rattle.copy_buffer_texture.proofs.copy_texture_to_buffer.Goals as goal

pub returns-in_err-t : goal.returns-in_err-t
unfolding download_staged
returns-in_err-t c =
    by_download_law _ _ _ $
    read_hands _ _ c.check_texture.ensures c.in_err-t.was c.from_residual.ensures.1

pub returns-in_err-b : goal.returns-in_err-b
unfolding download_staged
returns-in_err-b c =
    by_download_law _ _ _ $
    read_goes _ _ c.check_texture.ensures c.in_ok-t.was $
    read_hands _ _ c.check_buffer.ensures c.in_err-b.was c.from_residual-in_err-b.ensures.1

pub returns : goal.returns
unfolding download_staged
returns c =
    by_download_law _ _ _ $
    read_goes _ _ c.check_texture.ensures c.in_ok-t.was $
    read_goes _ _ c.check_buffer.ensures c.in_ok-b.was c.ranged.ensures
