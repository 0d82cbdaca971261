-- What the check does not find alone for `same_texture_agrees`.
use Rattle.claim_webgpu_rules.proofs.Subresources.{same_texture, same_texture_parts}
use Rattle.claim_webgpu_rules.proofs.same_texture_agrees.Goals as goal

pub returns : goal.returns
returns c = record { agree = same_texture; part = same_texture_parts }
