-- The initialisation ranges of a copy, as the Rust reports them to its trackers. The trackers themselves are outside.
use Rattle.std.specs.Prelude.{ℕ, ◌+◌, ◌*◌, ◌/◌, Bool, true, false, ◌||◌, not, List, [], ◌∷◌, eqb, Option, Some, None}
use Rattle.conditions.specs.Conditions.{pick, stop_if, ◌$◌}
use Rattle.measures.specs.declared.Extent3d.{Extent3d}
use Rattle.measures.specs.declared.Range.{Range}
use Rattle.mip_levels.specs.declared.TextureDimension.{TextureDimension}
use Rattle.mip_levels.specs.declared.TextureDimension.TheVariants.{D1, D2, D3}
use Rattle.mip_levels.specs.Level.{texture_dimension}
use Rattle.formats.specs.declared.TextureAspect.{TextureAspect}
use Rattle.formats.specs.declared.TextureAspect.TheVariants.{All, StencilOnly, DepthOnly, Plane0, Plane1, Plane2}
use Rattle.refusals.specs.declared.CopySide.{CopySide}
use Rattle.refusals.specs.declared.CopySide.TheVariants.{Source, Destination}
use Rattle.records.specs.declared.Texture.{Texture}
use Rattle.records.specs.declared.TexelCopyTextureInfo.{TexelCopyTextureInfo}
use Rattle.records.specs.Extents.{logical_extent}
use Rattle.rule_init_ranges.specs.declared.MemoryInitKind.{MemoryInitKind}
use Rattle.rule_init_ranges.specs.declared.MemoryInitKind.TheVariants.{ImplicitlyInitialized, NeedsInitializedMemory}
use Rattle.rule_init_ranges.specs.declared.TextureInitRange.{TextureInitRange}
use Rattle.rule_init_ranges.specs.declared.BufferInitRange.{BufferInitRange}
use Rattle.rule_init_ranges.specs.declared.BufferInitRanges.{BufferInitRanges}

-- 0 implicitly initialised, 1 needs memory
unfoldable pub kind_number : MemoryInitKind → ℕ
kind_number ImplicitlyInitialized = 0
kind_number NeedsInitializedMemory = 1

-- ---- textures

unfoldable pub is_all : TextureAspect → Bool
is_all All = true
is_all StencilOnly = false
is_all DepthOnly = false
is_all Plane0 = false
is_all Plane1 = false
is_all Plane2 = false

-- depth counts in 3D only
abbrev pub depth_differs : TextureDimension → ℕ → ℕ → Bool
depth_differs D1 depth level = false
depth_differs D2 depth level = false
depth_differs D3 depth level = not (eqb depth level)

-- width, height or (3D only) depth differs from the logical level size
unfoldable pub size_differs : TextureDimension → Extent3d → Extent3d → Bool
size_differs dimension size level =
    not (eqb size.width.0 level.width.0)
    || (not (eqb size.height.0 level.height.0)
    || depth_differs dimension size.depth_or_array_layers level.depth_or_array_layers)

-- or the aspect is not All
unfoldable pub is_partial_cover : Extent3d → TexelCopyTextureInfo → Texture → Bool
is_partial_cover size view t =
    size_differs (texture_dimension t.dimension) size (logical_extent t view.mip_level) || not (is_all view.aspect)

-- layers: 3D 0 to 1, else z to z + depth
abbrev pub init_layers : TextureDimension → ℕ → ℕ → Range
init_layers D1 z depth = record { start = z; end = z + depth }
init_layers D2 z depth = record { start = z; end = z + depth }
init_layers D3 z depth = record { start = 0; end = 1 }

unfoldable pub texture_range : TexelCopyTextureInfo → Texture → Extent3d → MemoryInitKind → TextureInitRange
texture_range view t size kind =
    record {
      mip_level = view.mip_level;
      layers = init_layers (texture_dimension t.dimension) view.origin.z size.depth_or_array_layers;
      kind = kind;
    }

-- a source needs its memory
unfoldable pub src_texture_range : TexelCopyTextureInfo → Texture → Extent3d → TextureInitRange
src_texture_range view t size = texture_range view t size NeedsInitializedMemory

-- a destination needs it where the cover is partial
unfoldable pub dst_texture_range : TexelCopyTextureInfo → Texture → Extent3d → TextureInitRange
dst_texture_range view t size = texture_range view t size (pick (is_partial_cover size view t) NeedsInitializedMemory ImplicitlyInitialized)

-- ---- buffers

-- the multiple of 4 at or below n, at or above n
unfoldable pub aligned_down : ℕ → ℕ
aligned_down n = n / 4 * 4

unfoldable pub aligned_up : ℕ → ℕ
aligned_up n = (n + 3) / 4 * 4

abbrev pub buffer_range : ℕ → ℕ → MemoryInitKind → BufferInitRange
buffer_range start end kind = record { start = start; end = end; kind = kind }

-- a range, unless a test holds
abbrev pub unless : Bool → BufferInitRange → Option BufferInitRange
unless true r = None
unless false r = Some r

-- read, or written with padding between: the whole run, rounded outwards
unfoldable pub outward : ℕ → ℕ → BufferInitRanges
outward start end =
    record {
      head = None;
      whole = Some (buffer_range (aligned_down start) (aligned_up end) NeedsInitializedMemory);
      tail = None;
    }

-- written without: the word that it starts within, the whole words, which may run backward, and the word that it ends within
unfoldable pub inward : ℕ → ℕ → BufferInitRanges
inward start end =
    record {
      head = unless (eqb (aligned_up start) start) (buffer_range (aligned_down start) (aligned_up start) NeedsInitializedMemory);
      whole = unless (eqb (aligned_up start) (aligned_down end)) (buffer_range (aligned_up start) (aligned_down end) ImplicitlyInitialized);
      tail = unless (eqb (aligned_down end) end) (buffer_range (aligned_down end) (aligned_down end + 4) NeedsInitializedMemory);
    }

unfoldable pub is_source : CopySide → Bool
is_source Source = true
is_source Destination = false

-- the ranges of a copy of `bytes` from `offset` on, where the buffer is its source or its destination
unfoldable pub buffer_init : ℕ → CopySide → ℕ → Bool → BufferInitRanges
buffer_init offset direction bytes contiguous =
    stop_if (not contiguous || is_source direction) (outward offset (offset + bytes)) $
    inward offset (offset + bytes)

-- the ranges that are there, in order
unfoldable pub joined : Option BufferInitRange → List BufferInitRange → List BufferInitRange
joined None rest = rest
joined (Some r) rest = r ∷ rest

abbrev pub listed : BufferInitRanges → List BufferInitRange
listed r = joined r.head (joined r.whole (joined r.tail []))
