-- The plan of an accepted copy between buffers: asking it gives the copy's region and no other, it reports the copy's ranges and bytes, and
-- these lie inside the buffers.
use Rattle.std.specs.Prelude.{◌≡◌, List, [], ◌∷◌, ◌↔◌, ℕ, ◌+◌, ◌≤◌, Some, None, Ok}
use Rattle.records.specs.declared.Device.{Device}
use Rattle.plan_buffers.specs.declared.BufferCopy.{BufferCopy}
use Rattle.plan_buffers.specs.declared.BufferPlan.{BufferPlan}
use Rattle.plan_buffers.specs.Asking.{next_of}
use Rattle.copy_buffers.specs.Plan.{buffer_to_buffer}
use Rattle.claim_buffer_regions.specs.Regions.{Side, Copy, bytes, regions_of, dst_range_of, src_range_of}

-- asking p, then each plan handed back in turn, until none is left, gives the regions rs, in order
pub data Gives : BufferPlan → List BufferCopy → Type 0 where
  ended : {p : BufferPlan} → (next_of p).answer ≡ None → (next_of p).plan ≡ p → Gives p []
  gave : {p : BufferPlan} {r : BufferCopy} {rs : List BufferCopy} → (next_of p).answer ≡ Some r → Gives (next_of p).plan rs → Gives p (r ∷ rs)

abbrev pub Inside : Copy → Side → Type 0
Inside c s = s.offset + bytes c ≤ s.buffer.size

pub record Planned (c : Copy) (p : BufferPlan) : Type 0 where
  pub asked : (rs : List BufferCopy) → Gives p rs ↔ (rs ≡ regions_of c)
  pub dst_reported : p.dst_range ≡ dst_range_of c
  pub src_reported : p.src_range ≡ src_range_of c
  pub checked : p.bytes_checked ≡ bytes c
  pub dst_inside : Inside c c.dst
  pub src_inside : Inside c c.src

-- of every device, index, record and figure
abbrev pub EveryBufferCopy : Type 0
EveryBufferCopy =
    (device : Device) (i j : ℕ) (c : Copy) (p : BufferPlan)
    → buffer_to_buffer device i c.src.buffer c.src.offset j c.dst.buffer c.dst.offset c.size ≡ Ok p → Planned c p
