use Rattle.std.proofs.Common.{arith}
use Rattle.slices.proofs.Puts.{put_then}
use Rattle.sheet_replay.specs.Replay.{counts_text}
use Rattle.sheet_replay.proofs.Prints.{counts_room}
use Rattle.sheet_replay.proofs.put_counts.Goals as goal

pub put_counted-requires : goal.put_counted-requires
put_counted-requires c = counts_room _ _ c.put_counted-next.ensures (omega (arith, c.told-out)) (omega arith)

pub returns : goal.returns
unfolding counts_text
returns c = put_then c.put_counted-next.ensures c.put_counted.ensures
