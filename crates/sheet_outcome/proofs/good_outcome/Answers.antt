-- What the check does not find alone for `good_outcome`.
use mathlib.Core.Path.{◌∙◌}
use Rattle.sheet_outcome.proofs.GoodLaws.{one_refused, none_refused}
use Rattle.sheet_outcome.proofs.good_outcome.Goals as goal

pub returns-then-any_refused : goal.returns-then-any_refused
returns-then-any_refused c =
    one_refused _ _ _ _ _ _ c.requires (c.as_slice.ensures ∙ c.find-textures.ensures) (c.as_slice-2.ensures ∙ c.find-buffers.ensures) c.device_at.ensures c.any_refused.ensures c.if-any_refused.true

pub returns : goal.returns
returns c =
    none_refused _ _ _ _ _ _ c.requires (c.as_slice.ensures ∙ c.find-textures.ensures) (c.as_slice-2.ensures ∙ c.find-buffers.ensures) c.device_at.ensures c.any_refused.ensures c.if-any_refused.false
