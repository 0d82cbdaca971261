-- Asking a plan of a copy between buffers for its next region.
use Rattle.std.specs.Prelude.{◌-◌, eqb, Some, None}
use Rattle.conditions.specs.Conditions.{stop_if, ◌$◌}
use Rattle.plan_buffers.specs.declared.BufferPlan.{BufferPlan}
use Rattle.plan_buffers.specs.declared.BufferCopy.{BufferCopy}
use Rattle.plan_asked.specs.declared.Asked.{Asked}

-- the plan with one region fewer
unfoldable pub advanced : BufferPlan → BufferPlan
advanced p =
    record {
      region = p.region;
      left = p.left - 1;
      dst_range = p.dst_range;
      src_range = p.src_range;
      bytes_checked = p.bytes_checked;
    }

-- none left, and the plan unchanged; else its region beside the advanced plan
unfoldable pub next_of : BufferPlan → Asked BufferCopy BufferPlan
next_of p =
    stop_if (eqb p.left 0) (record { answer = None; plan = p }) $
    record { answer = Some p.region; plan = advanced p }
