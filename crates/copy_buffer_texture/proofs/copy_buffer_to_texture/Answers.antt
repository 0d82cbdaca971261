-- What the check does not find alone for `copy_buffer_to_texture`.
use Rattle.refusals.proofs.Stages.{read_goes, read_hands}
use Rattle.copy_buffer_texture.specs.Stages.{upload_staged}
use Rattle.copy_buffer_texture.proofs.Staged.{by_upload_law}
use Rattle.copy_buffer_texture.proofs.copy_buffer_to_texture.Goals as goal

pub returns-in_err-b : goal.returns-in_err-b
unfolding upload_staged
returns-in_err-b c = by_upload_law _ _ _ (read_hands _ _ c.check_buffer.ensures c.in_err-b.was c.from_residual.ensures.1)

pub returns : goal.returns
unfolding upload_staged
returns c = by_upload_law _ _ _ (read_goes _ _ c.check_buffer.ensures c.in_ok-b.was c.copy_source_to_texture.ensures)
