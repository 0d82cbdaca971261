-- The ranges that the plan of a copy between textures reports, from document 01's module 7. Nothing here is the planner's but the types.
use Rattle.std.specs.Prelude.{Bool, true, false, cond, ◌&&◌, ◌||◌, not, ℕ, ◌+◌, ◌/◌, ◌^◌, max, eqb, Option, Some, None}
use Rattle.measures.specs.declared.Extent3d.{Extent3d}
use Rattle.measures.specs.declared.Range.{Range}
use Rattle.mip_levels.specs.declared.TextureDimension.{TextureDimension}
use Rattle.mip_levels.specs.declared.TextureDimension.TheVariants.{D1, D2, D3}
use Rattle.formats.specs.declared.TextureAspect.{TextureAspect}
use Rattle.formats.specs.declared.TextureAspect.TheVariants.{All, StencilOnly, DepthOnly, Plane0, Plane1, Plane2}
use Rattle.rule_init_ranges.specs.declared.MemoryInitKind.{MemoryInitKind}
use Rattle.rule_init_ranges.specs.declared.MemoryInitKind.TheVariants.{ImplicitlyInitialized, NeedsInitializedMemory}
use Rattle.rule_init_ranges.specs.declared.TextureInitRange.{TextureInitRange}
use Rattle.records.specs.declared.TextureSide.{TextureSide}
use Rattle.claim_texture_regions.specs.Regions.{Copy, dimension, is_empty}

abbrev pub is_3d : TextureDimension → Bool
is_3d D1 = false
is_3d D2 = false
is_3d D3 = true

abbrev pub is_all : TextureAspect → Bool
is_all All = true
is_all StencilOnly = false
is_all DepthOnly = false
is_all Plane0 = false
is_all Plane1 = false
is_all Plane2 = false

-- layers: 3D 0 to 1, else z to z + depth, end excluded
abbrev pub layers_from : TextureDimension → ℕ → ℕ → Range
layers_from v z depth = cond (is_3d v) (record { start = 0; end = 1 }) (record { start = z; end = z + depth })

-- a side of a level (module 2): halved level times, at least 1
abbrev pub halved : ℕ → ℕ → ℕ
halved side level = max 1 (side / 2 ^ level)

-- width, height and (3D only) depth are the logical level's
abbrev pub covers_level : TextureDimension → Extent3d → Extent3d → ℕ → Bool
covers_level v size texture level =
    eqb size.width.0 (halved texture.width.0 level)
    && (eqb size.height.0 (halved texture.height.0 level)
    && (not (is_3d v) || eqb size.depth_or_array_layers (halved texture.depth_or_array_layers level)))

-- and the aspect is All
abbrev pub covers : TextureSide → Extent3d → Bool
covers s size = covers_level (dimension s) size s.texture.size s.view.mip_level && is_all s.view.aspect

abbrev pub range_of : TextureSide → Extent3d → MemoryInitKind → TextureInitRange
range_of s size kind =
    record {
      mip_level = s.view.mip_level;
      layers = layers_from (dimension s) s.view.origin.z size.depth_or_array_layers;
      kind = kind;
    }

-- a source needs its memory; a destination, unless the copy covers the level
abbrev pub src_range_of : Copy → TextureInitRange
src_range_of c = range_of c.src c.size NeedsInitializedMemory

abbrev pub dst_range_of : Copy → TextureInitRange
dst_range_of c = range_of c.dst c.size (cond (covers c.dst c.size) ImplicitlyInitialized NeedsInitializedMemory)

-- the source's, then the destination's; none where the copy is empty
abbrev pub ranges_of : Copy → Option (TextureInitRange × TextureInitRange)
ranges_of c = cond (is_empty c.size) None (Some (src_range_of c, dst_range_of c))
