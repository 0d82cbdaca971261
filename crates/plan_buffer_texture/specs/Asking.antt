-- Asking a plan for its next region.
use Rattle.std.specs.Prelude.{ℕ, ◌+◌, ◌-◌, ◌%◌, ◌^◌, ◌==◌, Some, None}
use Rattle.conditions.specs.Conditions.{stop_if, ◌$◌}
use Rattle.rule_selectors.specs.Selector.{next_layer}
use Rattle.plan_buffer_texture.specs.declared.BufferTextureCopy.{BufferTextureCopy}
use Rattle.plan_buffer_texture.specs.declared.BufferTexturePlan.{BufferTexturePlan}
use Rattle.plan_asked.specs.declared.Asked.{Asked}

-- one stride and one layer on. The sums wrap; those of an accepted copy's regions never do.
unfoldable pub moved : BufferTextureCopy → ℕ → BufferTextureCopy
moved r stride =
    record {
      offset = (r.offset + stride) % 2 ^ 64;
      bytes_per_row = r.bytes_per_row;
      rows_per_image = r.rows_per_image;
      base = next_layer r.base;
      size = r.size;
    }

unfoldable pub advanced : BufferTexturePlan → BufferTexturePlan
advanced p =
    record {
      region = moved p.region p.stride;
      stride = p.stride;
      left = p.left - 1;
      ranges = p.ranges;
      bytes_checked = p.bytes_checked;
    }

-- none left, and the plan unchanged; else its region beside the advanced plan
unfoldable pub next_of : BufferTexturePlan → Asked BufferTextureCopy BufferTexturePlan
next_of p =
    stop_if (p.left == 0) (record { answer = None; plan = p }) $
    record { answer = Some p.region; plan = advanced p }
