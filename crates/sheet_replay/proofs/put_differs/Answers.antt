use Rattle.slices.proofs.Puts.{put_then}
use Rattle.sheet_replay.specs.Replay.{differs_text}
use Rattle.sheet_replay.proofs.put_differs.Goals as goal

pub returns : goal.returns
unfolding differs_text
returns c = put_then c.put_bytes-next.ensures c.put_counted.ensures
