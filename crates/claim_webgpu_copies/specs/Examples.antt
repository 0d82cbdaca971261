-- Copies at which the planner and the standard differ, for each exception; docs/DIFFERENCES.md has them as sheets.
use Rattle.std.specs.Prelude.{Bool, true, false, ℕ, Option, Some, None}
use Rattle.measures.specs.declared.Extent3d.{Extent3d}
use Rattle.formats.specs.declared.TextureAspect.{TextureAspect}
use Rattle.formats.specs.declared.TextureAspect.TheVariants.{All, DepthOnly}
use Rattle.records.specs.declared.Buffer.{Buffer}
use Rattle.records.specs.declared.Device.{Device}
use Rattle.records.specs.declared.Texture.{Texture}
use Rattle.records.specs.declared.TexelCopyTextureInfo.{TexelCopyTextureInfo}
use Rattle.copy_buffer_texture.specs.declared.UploadSource.TheVariants as S
use Rattle.copy_buffer_texture.specs.Copy.{Direction, Upload, Download, Copy}
use Rattle.records.specs.declared.TextureSide.{TextureSide}
use Rattle.claim_webgpu_rules.specs.WebGpu as W
use Rattle.claim_webgpu_copies.specs.WholeCopies.{GivesPlan, planned, StandardCopy, PlansTextures, StandardTextures}
-- what is judged
use Rattle.copy_buffers.specs.Plan.{buffer_to_buffer}

-- ---- records as a sheet has them

abbrev pub device : Bool → Bool → Device
device depth index = record { depth_texture_and_buffer_copies = depth; unrestricted_index_buffer = index }

abbrev pub buffer : ℕ → ℕ → Buffer
buffer size usage = record { size = size; usage = record { 0 = usage } }

abbrev pub extent : ℕ → ℕ → ℕ → Extent3d
extent width height depth = record { width = record { 0 = width }; height = record { 0 = height }; depth_or_array_layers = depth }

-- of one level and one sample, to be copied from and to
abbrev pub texture : ℕ → ℕ → Extent3d → Texture
texture format dimension size = record { format = format; dimension = dimension; size = size; mip_level_count = 1; sample_count = 1; usage = record { 0 = 3 } }

-- at x 0, y 0 of the first level
abbrev pub view_at : ℕ → TextureAspect → TexelCopyTextureInfo
view_at z aspect = record { mip_level = 0; origin = record { x = record { 0 = 0 }; y = record { 0 = 0 }; z = z }; aspect = aspect }

-- ---- between buffers: 4 bytes from the start of one to the start of another

abbrev pub Buffers : Device → Buffer → Buffer → Type 0
Buffers d src dst = GivesPlan (buffer_to_buffer d 0 src 0 1 dst 0 (Some 4))

abbrev pub StandardBuffers : Buffer → Buffer → Type 0
StandardBuffers src dst = W.CopyBufferToBuffer false src dst 0 0 4

-- ---- between the start of a buffer, or of memory, and a texture

pub data Way : Type 0 where
  FromBuffer FromMemory IntoBuffer : Way

-- with as many bytes; a buffer of usage 12
abbrev pub direction : Way → ℕ → Direction
direction FromBuffer bytes = Upload (S.Buffer (buffer bytes 12))
direction FromMemory bytes = Upload (S.Memory bytes)
direction IntoBuffer bytes = Download (buffer bytes 12)

abbrev pub copy : Way → Device → ℕ → Option ℕ → Texture → TexelCopyTextureInfo → Extent3d → Copy
copy way d bytes row t view size =
    record { direction = direction way bytes; device = d; layout = record { offset = 0; bytes_per_row = row; rows_per_image = None }; texture = t; view = view; size = size }

-- one texel, or what is said, of a 2D texture
abbrev pub texel : Way → Device → ℕ → ℕ → Extent3d → ℕ → TextureAspect → Extent3d → Copy
texel way d bytes format size z aspect copied = copy way d bytes None (texture format 2 size) (view_at z aspect) copied

-- a texture that is wider than 8,192, and a buffer of more than 268,435,456 bytes
abbrev pub too_wide : Way → Copy
too_wide way = texel way (device true true) 1 0 (extent 8193 1 1) 0 All (extent 1 1 1)

abbrev pub too_large : Way → Copy
too_large way = texel way (device true true) 268435457 0 (extent 1 1 1) 0 All (extent 1 1 1)

-- depth16unorm, without the depth fact; the depth of r8unorm
abbrev pub depthless : Way → Copy
depthless way = texel way (device false true) 2 16 (extent 1 1 1) 0 All (extent 1 1 1)

abbrev pub color_depth : Way → Copy
color_depth way = texel way (device true true) 1 0 (extent 1 1 1) 0 DepthOnly (extent 1 1 1)

-- one layer of two of stencil8, and none of them
abbrev pub one_layer : Way → Copy
one_layer way = texel way (device true true) 1 15 (extent 1 1 2) 1 All (extent 1 1 1)

abbrev pub no_layer : Way → Copy
no_layer way = texel way (device true true) 0 15 (extent 1 1 2) 0 All (extent 1 1 0)

-- document 01's starred point, into a buffer: depth32float 8×8, layer 1 of 2, 256 bytes per row
abbrev pub starred : Way → Copy
starred way = copy way (device true true) 4096 (Some 256) (texture 19 2 (extent 8 8 2)) (view_at 1 All) (extent 8 8 1)

-- the standard accepts, however it is read, and the planner refuses
pub record OnlyStandard (c : Copy) : Type 0 where
  pub accepted : (reading : W.Reading) → StandardCopy reading c
  pub refused : GivesPlan (planned c) → ⊥

-- the planner accepts, and so does the standard where it is read without layers; with them it refuses
pub record OnlyWithoutLayers (c : Copy) : Type 0 where
  pub plans : GivesPlan (planned c)
  pub accepted : StandardCopy W.OneLayer c
  pub refused : StandardCopy W.WithLayers c → ⊥

-- ---- between textures, from z 0 to z 1

abbrev pub side : Texture → ℕ → TextureSide
side t z = record { texture = t; view = view_at z All }

-- one texture onto itself, or onto another like it
abbrev pub OntoZ1 : ℕ → Texture → Extent3d → Type 0
OntoZ1 other t size = PlansTextures 0 other (side t 0) (side t 1) size

abbrev pub StandardOntoZ1 : ℕ → Texture → Extent3d → W.Reading → Type 0
StandardOntoZ1 other t size reading = StandardTextures 0 other (side t 0) (side t 1) size reading

abbrev pub OnlyPlanned : Texture → Extent3d → Type 0
OnlyPlanned t size = OntoZ1 0 t size × ((reading : W.Reading) → StandardOntoZ1 0 t size reading → ⊥)

-- ---- that they differ

pub record Examples : Type 0 where
  -- the planner refuses: 3, 34; 2, 3, 34, 12; 2
  pub large : StandardBuffers (buffer 268435457 4) (buffer 4 8) × (Buffers (device true true) (buffer 268435457 4) (buffer 4 8) → ⊥)
  pub index : StandardBuffers (buffer 4 20) (buffer 4 40) × (Buffers (device true false) (buffer 4 20) (buffer 4 40) → ⊥)
  pub wide_texture : (way : Way) → OnlyStandard (too_wide way)
  pub large_buffer : OnlyStandard (too_large FromBuffer) × OnlyStandard (too_large IntoBuffer)
  -- as many bytes in memory are planned, and accepted by the standard
  pub large_memory : GivesPlan (planned (too_large FromMemory)) × ((reading : W.Reading) → StandardCopy reading (too_large FromMemory))
  pub depth : (way : Way) → OnlyStandard (depthless way)
  pub color : (way : Way) → OnlyStandard (color_depth way)
  pub wide_textures : ((reading : W.Reading) → StandardOntoZ1 1 (texture 0 2 (extent 8193 1 2)) (extent 1 1 1) reading) × (OntoZ1 1 (texture 0 2 (extent 8193 1 2)) (extent 1 1 1) → ⊥)
  -- the standard refuses, read with layers
  pub layer : (way : Way) → OnlyWithoutLayers (one_layer way)
  pub layers : (way : Way) → OnlyWithoutLayers (no_layer way)
  pub starred_layer : OnlyWithoutLayers (starred IntoBuffer)
  pub texture_layers : OntoZ1 1 (texture 15 2 (extent 1 1 2)) (extent 1 1 1) × StandardOntoZ1 1 (texture 15 2 (extent 1 1 2)) (extent 1 1 1) W.OneLayer × (StandardOntoZ1 1 (texture 15 2 (extent 1 1 2)) (extent 1 1 1) W.WithLayers → ⊥)
  -- the standard refuses, however it is read: a slice of a volume, document 01's two slices, and nothing of a 1D texture
  pub volume : OnlyPlanned (texture 0 3 (extent 1 1 2)) (extent 1 1 1)
  pub starred_volume : OnlyPlanned (texture 0 3 (extent 4 4 4)) (extent 4 4 2)
  pub line : OnlyPlanned (texture 0 1 (extent 1 1 1)) (extent 1 1 0)
