-- The plan of a copy between buffers.
use Rattle.std.specs.Prelude.{ℕ, ◌+◌, eqb}
use Rattle.conditions.specs.Conditions.{pick}
use Rattle.rule_init_ranges.specs.declared.MemoryInitKind.TheVariants.{ImplicitlyInitialized, NeedsInitializedMemory}
use Rattle.rule_init_ranges.specs.Init.{buffer_range, unless}
use Rattle.plan_buffers.specs.declared.BufferPlan.{BufferPlan}

-- one region and two ranges, the destination's first; none of them where the size is 0
unfoldable pub plan_of : ℕ → ℕ → ℕ → BufferPlan
plan_of srcOffset dstOffset size =
    record {
      region = record { src_offset = srcOffset; dst_offset = dstOffset; size = size };
      left = pick (eqb size 0) 0 1;
      dst_range = unless (eqb size 0) (buffer_range dstOffset (dstOffset + size) ImplicitlyInitialized);
      src_range = unless (eqb size 0) (buffer_range srcOffset (srcOffset + size) NeedsInitializedMemory);
      bytes_checked = size;
    }
