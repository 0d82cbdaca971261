-- What the check does not find alone for `read_head`.
use mathlib.Core.Path.{sym, ◌∙◌}
use Rattle.sheet_replay.proofs.Items.{field_next}
use Rattle.sheet_replay.proofs.read_head.Goals as goal

pub fit_item-requires : goal.fit_item-requires
fit_item-requires c = (field_next _ _ _ _ _ (sym c.read_field-2.ensures ∙ c.in_ok-m.was)).1
