-- What the check does not find alone for `put_line`.
use Rattle.sheet_text.proofs.Puts.{line_put}
use Rattle.sheet_text.proofs.put_line.Goals as goal

pub returns : goal.returns
returns c = line_put _ _ _ c.put_bytes-a.ensures c.put_numbers-b.ensures
