-- What callers use of an accepted copy between buffers.
use Rattle.std.specs.Prelude.{◌≡◌, true, false, ◌+◌, ◌%◌, ◌≤◌, eqb, Ok}
use Rattle.flags.specs.BufferUsages as BufferUsages
use Rattle.flags.specs.Flags.{contains}
use Rattle.records.specs.Bounds.{buffer_in_bounds}
use Rattle.plan_buffers.specs.declared.BufferPlan.{BufferPlan}
use Rattle.plan_buffers.specs.Plan.{plan_of}
use Rattle.copy_buffers.specs.Copy.{Copy}
use Rattle.copy_buffers.specs.Plan.{bytes, lacks_index_fact, planned}

pub record Accepted (c : Copy) : Type 0 where
  pub src_bounds : buffer_in_bounds c.src ≡ true
  pub dst_bounds : buffer_in_bounds c.dst ≡ true
  pub different : eqb c.src_index c.dst_index ≡ false
  pub src_usage : contains c.src.usage.0 BufferUsages.COPY_SRC ≡ true
  pub dst_usage : contains c.dst.usage.0 BufferUsages.COPY_DST ≡ true
  pub size_aligned : bytes c % 4 ≡ 0
  pub src_aligned : c.src_offset % 4 ≡ 0
  pub dst_aligned : c.dst_offset % 4 ≡ 0
  pub index_fact : lacks_index_fact c.device c.src.usage.0 c.dst.usage.0 ≡ false
  pub src_inside : c.src_offset + bytes c ≤ c.src.size
  pub dst_inside : c.dst_offset + bytes c ≤ c.dst.size

-- a copy is accepted exactly where these hold, and then this is its plan
pub record CopyLaw (c : Copy) : Type 0 where
  pub has_plan : Accepted c → planned c ≡ Ok (plan_of c.src_offset c.dst_offset (bytes c))
  pub is_accepted : (p : BufferPlan) → planned c ≡ Ok p → Accepted c × (plan_of c.src_offset c.dst_offset (bytes c) ≡ p)

abbrev pub EveryCopyLaw : Type 0
EveryCopyLaw = (c : Copy) → CopyLaw c
