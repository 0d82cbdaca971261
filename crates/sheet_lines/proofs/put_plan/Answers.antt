-- What the check does not find alone for `put_plan`.
use Rattle.sheet_lines.proofs.LineLaws.{plan_put}
use Rattle.sheet_lines.proofs.put_plan.Goals as goal

pub returns : goal.returns
returns c =
    plan_put _ _ _ _ _ _ c.put_copy-a.ensures c.put_line-b.ensures c.put_ranges.ensures c.left.ensures c.count.ensures c.bytes_checked.ensures
