-- What the check does not find alone for `placed`.
use Rattle.refusals.proofs.Stages.{copied, after_goes, after_hands}
use Rattle.copy_buffer_texture.specs.Stages.{upload_placed}
use Rattle.copy_buffer_texture.proofs.Rules.{source_end_fits}
use Rattle.copy_buffer_texture.proofs.Upload.placed.Goals as goal

pub source_ranges-buffer-requires : goal.source_ranges-buffer-requires
source_ranges-buffer-requires c =
    let u = c.args.self.now in
    let e = c.check_data.ensures in
    source_end_fits _ u.copy.layout u.copy.texture.texture.format u.copy.texture.view.aspect u.source u.copy.size _ u.source_checked (rw c.source_size.ensures at e) c.in_ok-info.was

pub returns-in_err-info : goal.returns-in_err-info
unfolding upload_placed
returns-in_err-info c = rw (← c.source_size.ensures) (after_hands _ c.check_data.ensures c.in_err-info.was c.from_residual.ensures.1)

pub returns-then-lacks_depth_fact : goal.returns-then-lacks_depth_fact
unfolding upload_placed
returns-then-lacks_depth_fact c = rw (← c.source_size.ensures) (after_goes _ c.check_data.ensures c.in_ok-info.was (search copied depth 10))

pub returns : goal.returns
unfolding upload_placed
returns c = rw (← c.source_size.ensures) (after_goes _ c.check_data.ensures c.in_ok-info.was (rw (← c.source_ranges-buffer.ensures) (search copied depth 10)))
