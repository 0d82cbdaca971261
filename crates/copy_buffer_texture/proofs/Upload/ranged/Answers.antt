-- What the check does not find alone for `ranged`.
use Rattle.refusals.proofs.Stages.{after_goes, after_hands}
use Rattle.copy_buffer_texture.specs.Stages.{upload_ranged}
use Rattle.copy_buffer_texture.proofs.Upload.ranged.Goals as goal

pub returns-in_err-part : goal.returns-in_err-part
unfolding upload_ranged
returns-in_err-part c = after_hands _ c.texture_part.ensures c.in_err-part.was c.from_residual.ensures.1

pub returns : goal.returns
unfolding upload_ranged
returns c = after_goes _ c.texture_part.ensures c.in_ok-part.was c.allowed.ensures
