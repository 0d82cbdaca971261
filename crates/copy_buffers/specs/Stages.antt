-- The same answer as the functions between the first check and the plan give it. Only the contracts of private functions cite this: no caller need
-- read it.
use Rattle.std.specs.Prelude.{ℕ, ◌-◌, not, eqb, ltb, Option, Result, Ok, Err}
use Rattle.conditions.specs.Conditions.{stop_if, ◌$◌}
use Rattle.measures.specs.Measure.{multiple}
use Rattle.flags.specs.BufferUsages as BufferUsages
use Rattle.flags.specs.Flags.{contains}
use Rattle.refusals.specs.declared.CopySide.TheVariants.{Source, Destination}
use Rattle.refusals.specs.declared.DownlevelFlags.TheVariants.{UnrestrictedIndexBuffer}
use Rattle.refusals.specs.declared.TransferError.TheVariants as E
use Rattle.refusals.specs.Order.{decided}
use Rattle.records.specs.declared.Device.{Device}
use Rattle.records.specs.Bounds.{buffer_checks}
use Rattle.refusals.specs.Stages.{after}
use Rattle.plan_buffers.specs.Plan.{plan_of}
use Rattle.copy_buffers.specs.Plan.{size_or, lacks_index_fact}
use Rattle.copy_buffers.specs.declared.BufferSide.{BufferSide}
use Rattle.plan_buffers.specs.declared.BufferPlan.{BufferPlan}
use Rattle.refusals.specs.declared.TransferError.{TransferError}

-- 8 source; 7, 8 destination
unfoldable pub fitting_copy : BufferSide → BufferSide → ℕ → Result BufferPlan TransferError
fitting_copy src dst size =
    stop_if (ltb (src.buffer.size - src.offset) size) (Err (E.BufferEndOffsetOverrun src.offset size src.buffer.size Source)) $
    stop_if (ltb dst.buffer.size dst.offset) (Err (E.BufferStartOffsetOverrun dst.offset dst.buffer.size Destination)) $
    stop_if (ltb (dst.buffer.size - dst.offset) size) (Err (E.BufferEndOffsetOverrun dst.offset size dst.buffer.size Destination)) $
    Ok (plan_of src.offset dst.offset size)

-- 15; 14 source; 14 destination; 34
unfoldable pub sized_copy : Device → BufferSide → BufferSide → ℕ → Result BufferPlan TransferError
sized_copy device src dst size =
    stop_if (not (multiple size 4)) (Err (E.UnalignedCopySize size)) $
    stop_if (not (multiple src.offset 4)) (Err (E.UnalignedBufferOffset src.offset)) $
    stop_if (not (multiple dst.offset 4)) (Err (E.UnalignedBufferOffset dst.offset)) $
    stop_if (lacks_index_fact device src.buffer.usage.0 dst.buffer.usage.0) (Err (E.MissingDownlevelFlags UnrestrictedIndexBuffer)) $
    fitting_copy src dst size

-- 4; 5 source; 5 destination; 7 source
abbrev pub usable_copy : Device → BufferSide → BufferSide → Option ℕ → Result BufferPlan TransferError
usable_copy device src dst size =
    stop_if (eqb src.index dst.index) (Err E.SameSourceDestinationBuffer) $
    stop_if (not (contains src.buffer.usage.0 BufferUsages.COPY_SRC)) (Err (E.MissingBufferUsage Source)) $
    stop_if (not (contains dst.buffer.usage.0 BufferUsages.COPY_DST)) (Err (E.MissingBufferUsage Destination)) $
    stop_if (ltb src.buffer.size src.offset) (Err (E.BufferStartOffsetOverrun src.offset src.buffer.size Source)) $
    sized_copy device src dst (size_or size (src.buffer.size - src.offset))

-- records (source, then destination): 3
unfoldable pub buffer_copy_staged : Device → BufferSide → BufferSide → Option ℕ → Result BufferPlan TransferError
buffer_copy_staged device src dst size =
    after (decided (buffer_checks src.buffer Source) (Ok src.buffer)) λ _.
    after (decided (buffer_checks dst.buffer Destination) (Ok dst.buffer)) λ _.
    usable_copy device src dst size
