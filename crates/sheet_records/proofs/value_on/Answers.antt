-- What the check does not find alone for `value_on`.
use mathlib.Core.Path.{◌∙◌}
use borrow.Author.Rules.{rules}
use Rattle.sheet_records.proofs.Fields.{saturated}
use Rattle.sheet_records.proofs.value_on.Goals as goal

pub returns : goal.returns
returns c = c.value_of.ensures ∙ saturated _ _ _ _ (search rules) c.saturating_add.ensures
