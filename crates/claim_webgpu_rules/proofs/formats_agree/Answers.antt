-- What the check does not find alone for `formats_agree`.
use Rattle.claim_webgpu_rules.proofs.Compatible.{compatible_formats, all_aspects}
use Rattle.claim_webgpu_rules.proofs.formats_agree.Goals as goal

pub returns : goal.returns
returns c = record { compatible = compatible_formats; aspects = all_aspects }
