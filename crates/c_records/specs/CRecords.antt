-- Records and figures from numbers, as callers in other languages hand them.
use Rattle.std.specs.Prelude.{ℕ, Bool, false, List, ltb, get_or, Option, Some, None}
use Rattle.conditions.specs.Conditions.{pick}
use Rattle.measures.specs.declared.Extent3d.{Extent3d}
use Rattle.measures.specs.Measure.{texels}
use Rattle.formats.specs.declared.TextureAspect.TheVariants.{Plane2}
use Rattle.formats.specs.Aspects.{last_aspect, aspect_of}
use Rattle.refusals.specs.declared.TransferError.{TransferError}
use Rattle.refusals.specs.declared.TransferError.TheVariants.{InvalidTextureAspect}
use Rattle.refusals.specs.Order.{refuse_if}
use Rattle.records.specs.declared.Buffer.{Buffer}
use Rattle.records.specs.declared.Device.{Device}
use Rattle.records.specs.declared.Texture.{Texture}
use Rattle.records.specs.declared.TexelCopyTextureInfo.{TexelCopyTextureInfo}
use Rattle.records.specs.declared.TextureSide.{TextureSide}
use Rattle.records.specs.declared.TexelCopyBufferLayout.{TexelCopyBufferLayout}

-- a value, where it is given
abbrev pub given : {A : Type 0} → Bool → A → Option A
given isGiven value = pick isGiven (Some value) None

abbrev pub buffer_from : ℕ → ℕ → Buffer
buffer_from size usage = record { size = size; usage = record { 0 = usage } }

-- offset, bytes per row, rows per image
abbrev pub layout_from : ℕ → Bool → ℕ → Bool → ℕ → TexelCopyBufferLayout
layout_from offset hasBytes bytes hasRows rows =
    record { offset = offset; bytes_per_row = given hasBytes bytes; rows_per_image = given hasRows rows }

-- format, dimension, width, height, depth or layers, levels, samples, usage
unfoldable pub texture_from : List ℕ → Texture
texture_from t =
    record {
      format = get_or t 0 0;
      dimension = get_or t 1 0;
      size = record { width = texels (get_or t 2 0); height = texels (get_or t 3 0); depth_or_array_layers = get_or t 4 0 };
      mip_level_count = get_or t 5 0;
      sample_count = get_or t 6 0;
      usage = record { 0 = get_or t 7 0 };
    }

-- level, x, y, z, aspect
unfoldable pub view_from : List ℕ → TexelCopyTextureInfo
view_from v =
    record {
      mip_level = get_or v 0 0;
      origin = record { x = texels (get_or v 1 0); y = texels (get_or v 2 0); z = get_or v 3 0 };
      aspect = aspect_of (get_or v 4 0);
    }

-- a texture and the part of it
unfoldable pub side_from : List ℕ → List ℕ → TextureSide
side_from t v = record { texture = texture_from t; view = view_from v }

-- width, height, depth or layers
unfoldable pub size_from : List ℕ → Extent3d
size_from s = record { width = texels (get_or s 0 0); height = texels (get_or s 1 0); depth_or_array_layers = get_or s 2 0 }

-- the device of a copy with a texture, by the fact that it asks for
abbrev pub device_with : Bool → Device
device_with depth = record { depth_texture_and_buffer_copies = depth; unrestricted_index_buffer = false }

-- a number past the aspects names none, of the texture t: 12
abbrev pub aspect_check : List ℕ → List ℕ → List TransferError
aspect_check t v = refuse_if (ltb last_aspect (get_or v 4 0)) (InvalidTextureAspect (get_or t 0 0) Plane2)
