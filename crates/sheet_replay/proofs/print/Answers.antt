use Rattle.std.proofs.Common.{refl}
use Rattle.sheet_replay.proofs.Prints.{print_inside, print_front, message_few}
use Rattle.sheet_replay.proofs.print.Goals as goal

pub slice_bounds-out-end : goal.slice_bounds-out-end
slice_bounds-out-end g c = print_inside c.put-n.ensures (message_few _) refl

pub slice_bounds-write_all-end : goal.slice_bounds-write_all-end
slice_bounds-write_all-end g c = print_front c.put-n.ensures (message_few _) refl
