-- What a caller in another language is answered for a copy between buffers: the answer of `buffer_to_buffer`.
use Rattle.std.specs.Prelude.{ℕ, Bool, false, Result}
use Rattle.conditions.specs.Conditions.{pick}
use Rattle.records.specs.declared.Device.{Device}
use Rattle.copy_buffers.specs.Plan.{buffer_to_buffer}
use Rattle.c_records.specs.CRecords.{buffer_from, given}
use Rattle.plan_buffers.specs.declared.BufferPlan.{BufferPlan}
use Rattle.refusals.specs.declared.TransferError.{TransferError}

-- the fact that this kind of copy asks for
abbrev pub device_with : Bool → Device
device_with unrestricted = record { depth_texture_and_buffer_copies = false; unrestricted_index_buffer = unrestricted }

unfoldable pub answer : Bool → Bool → ℕ → ℕ → ℕ → ℕ → ℕ → ℕ → Bool → ℕ → Result BufferPlan TransferError
answer unrestricted same srcSize srcUsage srcOffset dstSize dstUsage dstOffset hasSize size =
    buffer_to_buffer (device_with unrestricted) 0 (buffer_from srcSize srcUsage) srcOffset (pick same 0 1) (buffer_from dstSize dstUsage) dstOffset (given hasSize size)
