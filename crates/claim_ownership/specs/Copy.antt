-- A copy between a buffer, or memory, and a texture, its figures and its regions, from document 01's modules 4 and 8 and document 02's
-- first request.
use Rattle.std.specs.Prelude.{Bool, true, false, cond, List, [], ◌∷◌, ℕ, zero, suc, ◌+◌, ◌-◌, ◌*◌, ◌/◌, ◌^◌, ◌<◌, eqb, Result}
use Rattle.plan_buffer_texture.specs.declared.BufferTextureCopy.{BufferTextureCopy}
use Rattle.copy_buffer_texture.specs.declared.UploadSource.TheVariants as S
use Rattle.copy_buffer_texture.specs.Copy.{Direction, Upload, Download, Copy}
use Rattle.copy_buffer_texture.specs.Plan.{buffer_to_texture, memory_to_texture, texture_to_buffer}
use Rattle.claim_ownership.specs.Formats.{block_side, chosen_bits, bytes_per_block}
use Rattle.claim_ownership.specs.Regions.{or_dense}
use Rattle.plan_buffer_texture.specs.declared.BufferTexturePlan.{BufferTexturePlan}
use Rattle.refusals.specs.declared.TransferError.{TransferError}

-- what the three plan functions' contracts give
abbrev pub planned_by : Direction → Copy → Result BufferTexturePlan TransferError
planned_by (Upload (S.Buffer b)) c = buffer_to_texture c.device b c.layout c.texture c.view c.size
planned_by (Upload (S.Memory length)) c = memory_to_texture c.device length c.layout c.texture c.view c.size
planned_by (Download b) c = texture_to_buffer c.device c.texture c.view b c.layout c.size

abbrev pub planned : Copy → Result BufferTexturePlan TransferError
planned c = planned_by c.direction c

-- the texture is written: from a buffer or from memory
abbrev pub texture_is_written : Direction → Bool
texture_is_written (Upload source) = true
texture_is_written (Download b) = false

-- the bytes of the buffer, or of the block of memory
abbrev pub byte_size : Direction → ℕ
byte_size (Upload (S.Buffer b)) = b.size
byte_size (Upload (S.Memory length)) = length
byte_size (Download b) = b.size

-- the length of a block has 64 bits, as the field that holds it
abbrev pub LengthFits : Direction → Type 0
LengthFits (Upload (S.Buffer b)) = Unit {0}
LengthFits (Upload (S.Memory length)) = length < 2 ^ 64
LengthFits (Download b) = Unit {0}

-- ---- figures (module 4)

abbrev pub depth : Copy → ℕ
depth c = c.size.depth_or_array_layers

abbrev pub aspects : Copy → ℕ
aspects c = chosen_bits c.texture.format c.view.aspect

abbrev pub bytes : Copy → ℕ
bytes c = bytes_per_block c.texture.format c.view.aspect

abbrev pub block : Copy → ℕ
block c = block_side c.texture.format

-- width and height in blocks
abbrev pub wide : Copy → ℕ
wide c = c.size.width.0 / block c

abbrev pub high : Copy → ℕ
high c = c.size.height.0 / block c

abbrev pub dense : Copy → ℕ
dense c = wide c * bytes c

-- the strides
abbrev pub row : Copy → ℕ
row c = or_dense c.layout.bytes_per_row (dense c)

abbrev pub rows : Copy → ℕ
rows c = or_dense c.layout.rows_per_image (high c)

abbrev pub image : Copy → ℕ
image c = rows c * row c

-- 0 for no rows, else (rows − 1) × row stride + dense row
unfoldable pub image_bytes_of : Copy → ℕ
image_bytes_of c = cond (eqb (high c) 0) 0 ((high c - 1) * row c + dense c)

-- 0 for depth 0, else (depth − 1) × image stride + image bytes
unfoldable pub total : Copy → ℕ
total c = cond (eqb (depth c) 0) 0 ((depth c - 1) * image c + image_bytes_of c)

-- ---- regions (module 8)

abbrev pub is_2d : Copy → Bool
is_2d c = eqb c.texture.dimension 2

-- image k is layer z + k, at z 0, in 2D, else depth z + k of layer 0
abbrev pub layer_at : Copy → ℕ → ℕ
layer_at c k = cond (is_2d c) (c.view.origin.z + k) 0

abbrev pub depth_at : Copy → ℕ → ℕ
depth_at c k = cond (is_2d c) 0 (c.view.origin.z + k)

-- a region per layer, else one
abbrev pub count : Copy → ℕ
count c = cond (is_2d c) (depth c) 1

-- the region from image k on, one image deep in 2D, else as deep as the copy
abbrev pub region_at : Copy → ℕ → BufferTextureCopy
region_at c k =
    record {
      offset = c.layout.offset + k * image c;
      bytes_per_row = c.layout.bytes_per_row;
      rows_per_image = c.layout.rows_per_image;
      base =
          record {
            mip_level = c.view.mip_level;
            array_layer = layer_at c k;
            origin = record { x = c.view.origin.x; y = c.view.origin.y; z = depth_at c k };
            aspect = record { 0 = aspects c };
          };
      size = record { width = c.size.width; height = c.size.height; depth = cond (is_2d c) 1 (depth c) };
    }

abbrev pub regions_from : Copy → ℕ → ℕ → List BufferTextureCopy
regions_from c k zero = []
regions_from c k (suc n) = region_at c k ∷ regions_from c (suc k) n

abbrev pub regions_of : Copy → List BufferTextureCopy
regions_of c = regions_from c 0 (count c)
