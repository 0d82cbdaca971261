-- What the check does not find alone for `put_piece`.
use Rattle.sheet_listing.proofs.Parts.{step_in_chunk}
use Rattle.sheet_listing.proofs.put_piece.Goals as goal

pub returns : goal.returns
returns c = step_in_chunk c.in_ok-first_chunk_mut.ensures.cases _ _ _ _ _ _ _ c.step.ensures
