-- What the check does not find alone for `next_row` of a plan without its ranges.
use Rattle.std.specs.Prelude.{None}
use Rattle.plan_writer.proofs.Writes.{answer_with, plan_with}
use Rattle.plan_writer.proofs.BarePlanRegions.next_row.Goals as goal

pub returns : goal.returns
returns c =
    let asked = c.next_row-asked.ensures in
    record { answer = answer_with None _ _ asked.answer; behind = plan_with None _ _ asked.behind }
