-- Copies from buffer to buffer: the checks in their order, and the plan.
use Rattle.std.specs.Prelude.{ℕ, ◌-◌, Bool, ◌&&◌, ◌||◌, not, eqb, ltb, Option, Some, None, Result, Ok}
use mathlib.Core.List.{[], ◌∷◌, flatten}
use Rattle.measures.specs.Measure.{multiple}
use Rattle.flags.specs.BufferUsages as BufferUsages
use Rattle.flags.specs.Flags.{contains}
use Rattle.refusals.specs.declared.CopySide.TheVariants.{Source, Destination}
use Rattle.refusals.specs.declared.DownlevelFlags.TheVariants.{UnrestrictedIndexBuffer}
use Rattle.refusals.specs.declared.TransferError.TheVariants as E
use Rattle.refusals.specs.Order.{Checks, refuse_if, decided}
use Rattle.records.specs.declared.Buffer.{Buffer}
use Rattle.records.specs.declared.Device.{Device}
use Rattle.records.specs.Bounds.{buffer_checks}
use Rattle.plan_buffers.specs.Plan.{plan_of}
use Rattle.copy_buffers.specs.Copy.{Copy}
use Rattle.plan_buffers.specs.declared.BufferPlan.{BufferPlan}
use Rattle.refusals.specs.declared.TransferError.{TransferError}

-- an absent size is source size − offset
unfoldable pub size_or : Option ℕ → ℕ → ℕ
size_or (Some n) left = n
size_or None left = left

abbrev pub bytes : Copy → ℕ
bytes c = size_or c.size (c.src.size - c.src_offset)

-- VERTEX, UNIFORM, INDIRECT or STORAGE
unfoldable pub is_shared : ℕ → Bool
is_shared usage = contains usage BufferUsages.VERTEX || (contains usage BufferUsages.UNIFORM || (contains usage BufferUsages.INDIRECT || contains usage BufferUsages.STORAGE))

-- without the index fact, an INDEX buffer where either buffer has one of those
unfoldable pub lacks_index_fact : Device → ℕ → ℕ → Bool
lacks_index_fact device src dst =
    not device.unrestricted_index_buffer && ((contains src BufferUsages.INDEX || contains dst BufferUsages.INDEX) && (is_shared src || is_shared dst))

unfoldable pub buffer_copy_checks : Copy → Checks
buffer_copy_checks c =
    flatten (buffer_checks c.src Source)  -- 3
    ∷ flatten (buffer_checks c.dst Destination)  -- 3
    ∷ refuse_if (eqb c.src_index c.dst_index) E.SameSourceDestinationBuffer  -- 4
    ∷ refuse_if (not (contains c.src.usage.0 BufferUsages.COPY_SRC)) (E.MissingBufferUsage Source)  -- 5
    ∷ refuse_if (not (contains c.dst.usage.0 BufferUsages.COPY_DST)) (E.MissingBufferUsage Destination)  -- 5
    ∷ refuse_if (ltb c.src.size c.src_offset) (E.BufferStartOffsetOverrun c.src_offset c.src.size Source)  -- 7
    ∷ refuse_if (not (multiple (bytes c) 4)) (E.UnalignedCopySize (bytes c))  -- 15
    ∷ refuse_if (not (multiple c.src_offset 4)) (E.UnalignedBufferOffset c.src_offset)  -- 14
    ∷ refuse_if (not (multiple c.dst_offset 4)) (E.UnalignedBufferOffset c.dst_offset)  -- 14
    ∷ refuse_if (lacks_index_fact c.device c.src.usage.0 c.dst.usage.0) (E.MissingDownlevelFlags UnrestrictedIndexBuffer)  -- 34
    ∷ refuse_if (ltb (c.src.size - c.src_offset) (bytes c)) (E.BufferEndOffsetOverrun c.src_offset (bytes c) c.src.size Source)  -- 8
    ∷ refuse_if (ltb c.dst.size c.dst_offset) (E.BufferStartOffsetOverrun c.dst_offset c.dst.size Destination)  -- 7
    ∷ refuse_if (ltb (c.dst.size - c.dst_offset) (bytes c)) (E.BufferEndOffsetOverrun c.dst_offset (bytes c) c.dst.size Destination)  -- 8
    ∷ []

unfoldable pub planned : Copy → Result BufferPlan TransferError
planned c = decided (buffer_copy_checks c) (Ok (plan_of c.src_offset c.dst_offset (bytes c)))

unfoldable pub buffer_to_buffer : Device → ℕ → Buffer → ℕ → ℕ → Buffer → ℕ → Option ℕ → Result BufferPlan TransferError
buffer_to_buffer device i src srcOffset j dst dstOffset size =
    planned (record { device = device; src_index = i; src = src; src_offset = srcOffset; dst_index = j; dst = dst; dst_offset = dstOffset; size = size })
