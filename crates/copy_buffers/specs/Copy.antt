-- A copy between buffers.
use Rattle.std.specs.Prelude.{ℕ, Option}
use Rattle.records.specs.declared.Buffer.{Buffer}
use Rattle.records.specs.declared.Device.{Device}

-- a copy from one buffer into another; they are told apart by their indices
pub record Copy : Type 0 where
  pub device : Device
  pub src_index : ℕ
  pub src : Buffer
  pub src_offset : ℕ
  pub dst_index : ℕ
  pub dst : Buffer
  pub dst_offset : ℕ
  pub size : Option ℕ
