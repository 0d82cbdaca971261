use Rattle.slices.proofs.Puts.{put_then}
use Rattle.sheet_replay.proofs.Prints.{counted_room}
use Rattle.sheet_replay.proofs.put_counted.Goals as goal

pub put_bytes-requires : goal.put_bytes-requires
put_bytes-requires c = counted_room _ c.args.word.now _ c.put_decimal-next.ensures c.requires

pub returns : goal.returns
returns c = put_then c.put_decimal-next.ensures c.put_bytes.ensures
