-- What the check does not find alone for `placed`.
use Rattle.refusals.specs.declared.CopySide.TheVariants.{Destination}
use Rattle.refusals.proofs.Stages.{copied, after_goes, after_hands}
use Rattle.copy_buffer_texture.specs.Stages.{download_placed}
use Rattle.copy_buffer_texture.proofs.Rules.{end_fits}
use Rattle.copy_buffer_texture.proofs.Download.placed.Goals as goal

pub invariant_of-span : goal.invariant_of-span
invariant_of-span c =
    let d = c.args.self.now in
    record { low = end_fits _ d.copy.layout d.copy.texture.texture.format d.copy.texture.view.aspect d.b.buffer Destination d.copy.size _ d.b.in_bounds c.check_data.ensures c.in_ok-info.was }

pub returns-in_err-info : goal.returns-in_err-info
unfolding download_placed
returns-in_err-info c = after_hands _ c.check_data.ensures c.in_err-info.was c.from_residual.ensures.1

pub returns-then-lacks_depth_fact : goal.returns-then-lacks_depth_fact
unfolding download_placed
returns-then-lacks_depth_fact c = after_goes _ c.check_data.ensures c.in_ok-info.was (search copied depth 10)

pub returns-then-not-contains : goal.returns-then-not-contains
unfolding download_placed
returns-then-not-contains c = after_goes _ c.check_data.ensures c.in_ok-info.was (search copied depth 10)

pub returns : goal.returns
unfolding download_placed
returns c = after_goes _ c.check_data.ensures c.in_ok-info.was (rw (← c.handle_buffer_init-buffer.ensures) (search copied depth 10))
