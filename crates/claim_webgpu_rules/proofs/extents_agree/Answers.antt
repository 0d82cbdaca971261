-- What the check does not find alone for `extents_agree`.
use Rattle.claim_webgpu_rules.proofs.Sizes.{logical_extents, physical_extents, level_counts}
use Rattle.claim_webgpu_rules.proofs.extents_agree.Goals as goal

pub returns : goal.returns
returns c = record { logical = logical_extents; physical = physical_extents; counts = level_counts }
