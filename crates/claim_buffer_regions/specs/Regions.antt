-- The region and the ranges of a copy between buffers, from document 01: its copies and modules 7 and 8. Nothing here is the planner's but
-- the types.
use Rattle.std.specs.Prelude.{Bool, cond, List, [], ◌∷◌, ℕ, ◌+◌, ◌-◌, eqb, Option, Some, None}
use Rattle.records.specs.declared.Buffer.{Buffer}
use Rattle.rule_init_ranges.specs.declared.MemoryInitKind.{MemoryInitKind}
use Rattle.rule_init_ranges.specs.declared.MemoryInitKind.TheVariants.{ImplicitlyInitialized, NeedsInitializedMemory}
use Rattle.plan_buffers.specs.declared.BufferCopy.{BufferCopy}
use Rattle.rule_init_ranges.specs.declared.BufferInitRange.{BufferInitRange}

pub record Side : Type 0 where
  pub buffer : Buffer
  pub offset : ℕ

pub record Copy : Type 0 where
  pub src : Side
  pub dst : Side
  pub size : Option ℕ

-- an absent size is the source's minus its offset
abbrev pub size_or : Option ℕ → ℕ → ℕ
size_or (Some n) rest = n
size_or None rest = rest

abbrev pub bytes : Copy → ℕ
bytes c = size_or c.size (c.src.buffer.size - c.src.offset)

abbrev pub is_empty : Copy → Bool
is_empty c = eqb (bytes c) 0

-- one region: two offsets, size; none where the copy is empty
abbrev pub region_of : Copy → BufferCopy
region_of c = record { src_offset = c.src.offset; dst_offset = c.dst.offset; size = bytes c }

abbrev pub regions_of : Copy → List BufferCopy
regions_of c = cond (is_empty c) [] (region_of c ∷ [])

-- a side's range, end excluded; none where the copy is empty
abbrev pub range_of : Copy → Side → MemoryInitKind → Option BufferInitRange
range_of c s kind = cond (is_empty c) None (Some (record { start = s.offset; end = s.offset + bytes c; kind = kind }))

-- what is written whole is implicitly initialised; a source needs its memory
abbrev pub dst_range_of : Copy → Option BufferInitRange
dst_range_of c = range_of c c.dst ImplicitlyInitialized

abbrev pub src_range_of : Copy → Option BufferInitRange
src_range_of c = range_of c c.src NeedsInitializedMemory
