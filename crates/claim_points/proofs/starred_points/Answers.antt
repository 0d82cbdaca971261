-- What the check does not find alone for `starred_points`.
use Rattle.claim_points.proofs.Evaluated.{starred, refused_by_standard}
use Rattle.claim_points.proofs.starred_points.Goals as goal

pub returns : goal.returns
returns c = record { listings = starred; standard = refused_by_standard }
