-- What an acceptance says of a copy between buffers.
-- Assumes nothing.
use Rattle.std.specs.Prelude.{Ok}
use mathlib.Core.Path.{◌≡◌}
use Prim.Native.Nat.{ℕ, ◌+◌, ◌-◌, ◌≤◌}
use Rattle.records.specs.declared.Device.{Device}
use Rattle.plan_buffers.specs.declared.BufferPlan.{BufferPlan}
use Rattle.plan_buffers.specs.Plan.{plan_of}
use Rattle.copy_buffers.specs.Plan.{size_or, buffer_to_buffer}
use Rattle.copy_buffers.specs.Copy as planner
use Rattle.copy_buffers.proofs.Accepted.{every_copy_law}
use Rattle.claim_buffer_regions.specs.Regions.{Copy}

-- the size that the rules copy
abbrev pub size_for : Copy → ℕ
size_for c = size_or c.size (c.src.buffer.size - c.src.offset)

pub record Checks (c : Copy) (p : BufferPlan) : Type 0 where
  pub src_inside : c.src.offset + size_for c ≤ c.src.buffer.size
  pub dst_inside : c.dst.offset + size_for c ≤ c.dst.buffer.size
  pub plan : plan_of c.src.offset c.dst.offset (size_for c) ≡ p

abbrev copy_for : Device → ℕ → ℕ → Copy → planner.Copy
copy_for device i j c =
    record {
      device = device;
      src_index = i;
      src = c.src.buffer;
      src_offset = c.src.offset;
      dst_index = j;
      dst = c.dst.buffer;
      dst_offset = c.dst.offset;
      size = c.size;
    }

pub checks_of_lem :
    (device : Device) (i j : ℕ) (c : Copy) (p : BufferPlan)
    → buffer_to_buffer device i c.src.buffer c.src.offset j c.dst.buffer c.dst.offset c.size ≡ Ok p → Checks c p
unfolding buffer_to_buffer
checks_of_lem device i j c p h =
    let a = (every_copy_law (copy_for device i j c)).is_accepted p h in
    record { src_inside = a.0.src_inside; dst_inside = a.0.dst_inside; plan = a.1 }
