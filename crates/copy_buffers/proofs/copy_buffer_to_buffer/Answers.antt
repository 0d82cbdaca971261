-- What the check does not find alone for `copy_buffer_to_buffer`.
use Rattle.conditions.specs.Conditions.{◌$◌}
use Rattle.refusals.proofs.Stages.{read_goes, read_hands}
use Rattle.copy_buffers.specs.Stages.{buffer_copy_staged}
use Rattle.copy_buffers.proofs.Staged.{by_copy_law}
use Rattle.copy_buffers.proofs.copy_buffer_to_buffer.Goals as goal

pub returns-in_err-check_buffer : goal.returns-in_err-check_buffer
unfolding buffer_copy_staged
returns-in_err-check_buffer c =
    by_copy_law _ _ _ _ _ $
    read_hands _ _ c.check_buffer.ensures c.in_err-check_buffer.was c.from_residual.ensures.1

pub returns-in_err-check_buffer-2 : goal.returns-in_err-check_buffer-2
unfolding buffer_copy_staged
returns-in_err-check_buffer-2 c =
    by_copy_law _ _ _ _ _ $
    read_goes _ _ c.check_buffer.ensures c.in_ok-check_buffer.was $
    read_hands _ _ c.check_buffer-2.ensures c.in_err-check_buffer-2.was c.from_residual-in_err-check_buffer-2.ensures.1

pub returns : goal.returns
unfolding buffer_copy_staged
returns c =
    by_copy_law _ _ _ _ _ $
    read_goes _ _ c.check_buffer.ensures c.in_ok-check_buffer.was $
    read_goes _ _ c.check_buffer-2.ensures c.in_ok-check_buffer-2.was c.usable.ensures
