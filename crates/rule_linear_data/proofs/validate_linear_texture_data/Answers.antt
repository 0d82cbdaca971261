-- What the check does not find alone for `validate_linear_texture_data`.
use Rattle.rule_linear_data.proofs.Staged.{by_law}
use Rattle.rule_linear_data.proofs.validate_linear_texture_data.Goals as goal

pub returns : goal.returns
returns c = by_law _ _ _ _ _ _ _ _ c.check.ensures c.dense_of.ensures
