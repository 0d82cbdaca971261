-- The ranges of a copy between a buffer, or memory, and a texture, from document 01's module 7 and document 02's first request, and those
-- that a plan reports.
use Rattle.std.specs.Prelude.{Bool, cond, ◌&&◌, ◌||◌, not, List, [], ◌∷◌, ℕ, ◌+◌, ◌-◌, ◌/◌, ◌%◌, ◌^◌, max, eqb, leb, Option, Some, None}
use Rattle.measures.specs.declared.Range.{Range}
use Rattle.rule_init_ranges.specs.declared.MemoryInitKind.{MemoryInitKind}
use Rattle.rule_init_ranges.specs.declared.MemoryInitKind.TheVariants.{ImplicitlyInitialized, NeedsInitializedMemory}
use Rattle.rule_init_ranges.specs.declared.TextureInitRange.{TextureInitRange}
use Rattle.rule_init_ranges.specs.declared.BufferInitRange.{BufferInitRange}
use Rattle.rule_init_ranges.specs.declared.BufferInitRanges.{BufferInitRanges}
use Rattle.claim_ownership.specs.Formats.{is_all}
use Rattle.copy_buffer_texture.specs.declared.UploadSource.TheVariants as S
use Rattle.copy_buffer_texture.specs.Copy.{Direction, Upload, Download, Copy}
use Rattle.claim_ownership.specs.Copy.{texture_is_written, depth, high, dense, row, image, image_bytes_of, total}

-- ---- the texture's range

abbrev pub is_3d : Copy → Bool
is_3d c = eqb c.texture.dimension 3

-- layers: 3D 0 to 1, else z to z + depth, end excluded
abbrev pub layers : Copy → Range
layers c = cond (is_3d c) (record { start = 0; end = 1 }) (record { start = c.view.origin.z; end = c.view.origin.z + depth c })

-- a side of the copy's level (module 2): halved level times, at least 1
abbrev pub halved : Copy → ℕ → ℕ
halved c side = max 1 (side / 2 ^ c.view.mip_level)

-- width, height and (3D only) depth are the logical level's, and the aspect is All
unfoldable pub covers : Copy → Bool
covers c =
    eqb c.size.width.0 (halved c c.texture.size.width.0)
    && (eqb c.size.height.0 (halved c c.texture.size.height.0)
    && ((not (is_3d c) || eqb (depth c) (halved c c.texture.size.depth_or_array_layers))
    && is_all c.view.aspect))

-- a source needs its memory; a destination unless the copy covers the level
abbrev pub texture_range : Copy → TextureInitRange
texture_range c =
    record {
      mip_level = c.view.mip_level;
      layers = layers c;
      kind = cond (texture_is_written c.direction && covers c) ImplicitlyInitialized NeedsInitializedMemory;
    }

-- ---- the buffer's ranges, by words of four bytes, as the Rust has them

-- rows lie a dense row apart, or there is one in all; images lie their bytes apart, or there is one
unfoldable pub contiguous : Copy → Bool
contiguous c =
    (eqb (row c) (dense c) || (leb (high c) 1 && leb (depth c) 1))
    && (eqb (image c) (image_bytes_of c) || leb (depth c) 1)

abbrev pub down : ℕ → ℕ
down n = n - n % 4

abbrev pub up : ℕ → ℕ
up n = down (n + 3)

abbrev pub run : ℕ → ℕ → MemoryInitKind → Option BufferInitRange
run start end kind = Some (record { start = start; end = end; kind = kind })

-- read, or with padding between: the words that the span touches
unfoldable pub touched : ℕ → ℕ → BufferInitRanges
touched start end = record { head = None; whole = run (down start) (up end) NeedsInitializedMemory; tail = None }

-- written without: the word it starts within, the whole words, which may run backward, the word it ends within
unfoldable pub filled : ℕ → ℕ → BufferInitRanges
filled start end =
    record {
      head = cond (eqb (start % 4) 0) None (run (up start - 4) (up start) NeedsInitializedMemory);
      whole = cond (eqb (up start) (down end)) None (run (up start) (down end) ImplicitlyInitialized);
      tail = cond (eqb (end % 4) 0) None (run (down end) (down end + 4) NeedsInitializedMemory);
    }

-- of the buffer that is read, or written; memory has none
abbrev pub ranges_by : Direction → Copy → BufferInitRanges
ranges_by (Upload (S.Buffer b)) c = touched c.layout.offset (c.layout.offset + total c)
ranges_by (Upload (S.Memory length)) c = record { head = None; whole = None; tail = None }
ranges_by (Download b) c =
    cond (contiguous c) (filled c.layout.offset (c.layout.offset + total c)) (touched c.layout.offset (c.layout.offset + total c))

abbrev pub buffer_ranges : Copy → BufferInitRanges
buffer_ranges c = ranges_by c.direction c

-- ---- those that are there, in order

unfoldable pub joined : Option BufferInitRange → List BufferInitRange → List BufferInitRange
joined None rest = rest
joined (Some r) rest = r ∷ rest

abbrev pub listed : Option (TextureInitRange × BufferInitRanges) → List BufferInitRange
listed None = []
listed (Some (texture, buffer)) = joined buffer.head (joined buffer.whole (joined buffer.tail []))
