-- What the check does not find alone for `tables_agree`.
use Rattle.claim_webgpu_rules.proofs.Rows.{format_table}
use Rattle.claim_webgpu_rules.proofs.tables_agree.Goals as goal

pub returns : goal.returns
returns c = format_table
