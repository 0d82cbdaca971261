-- What the check does not find alone for `put_ranges`.
use borrow.Author.Rules.{rules}
use Rattle.slices.proofs.Puts.{put_as}
use Rattle.sheet_lines.proofs.LineLaws.{underway_on, underway_end, texts_all}
use Rattle.sheet_lines.proofs.put_ranges.Goals as goal

pub loop-slot-preserved : goal.loop-slot-preserved
loop-slot-preserved c = underway_on _ _ _ _ _ _ _ _ c.loop-slot.invariant (search rules) c.loop-slot-test.true c.put_range-next.ensures

pub returns : goal.returns
returns c = put_as (underway_end _ _ _ _ _ _ c.loop-slot.invariant (search rules) c.loop-slot-test.false) (texts_all c.args.ranges (search rules))
