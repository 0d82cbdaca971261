-- What the check does not find alone for `ranges_agree`.
use Rattle.claim_webgpu_rules.proofs.TextureRanges.{ranges, ranges_with_layers}
use Rattle.claim_webgpu_rules.proofs.ranges_agree.Goals as goal

pub returns : goal.returns
returns c = record { one_layer = ranges; layers = ranges_with_layers }
