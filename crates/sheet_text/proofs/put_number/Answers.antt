-- What the check does not find alone for `put_number`.
use Rattle.sheet_text.proofs.Puts.{dash_put, number_put}
use Rattle.sheet_text.proofs.put_number.Goals as goal

pub returns-then-is_absent : goal.returns-then-is_absent
returns-then-is_absent c = dash_put _ _ _ c.is_absent.ensures _ _ c.if-is_absent.true

pub returns : goal.returns
returns c = number_put _ _ _ c.is_absent.ensures c.if-is_absent.false c.put_decimal.ensures
