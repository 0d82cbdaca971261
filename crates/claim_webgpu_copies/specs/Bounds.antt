-- Document 01's bounds of records, written apart from the planner's, and that the planner's are these.
use Rattle.std.specs.Prelude.{◌≡◌, true, ◌⊎◌, ◌↔◌, ℕ, ◌-◌, ◌/◌, ◌%◌, ◌^◌, ◌≤◌}
use Rattle.measures.specs.declared.Extent3d.{Extent3d}
use Rattle.mip_levels.specs.declared.TextureDimension.{TextureDimension}
use Rattle.mip_levels.specs.declared.TextureDimension.TheVariants.{D1, D2, D3}
use Rattle.records.specs.declared.Buffer.{Buffer}
use Rattle.records.specs.declared.Texture.{Texture}
use Rattle.claim_webgpu_rules.specs.Formats.{dimension_of}
use Rattle.claim_webgpu_rules.specs.WebGpu.{mip_side}
-- what is judged
use Rattle.records.specs.Bounds.{buffer_in_bounds, texture_in_bounds}

abbrev pub Between : ℕ → ℕ → ℕ → Type 0
Between least n most = (least ≤ n) × (n ≤ most)

pub record BufferInBounds (b : Buffer) : Type 0 where
  pub size : b.size ≤ 268435456
  pub usage : b.usage.0 ≤ 1023

abbrev pub SizeInBounds : TextureDimension → Extent3d → Type 0
SizeInBounds D1 e = Between 1 e.width.0 8192 × (e.height.0 ≡ 1) × (e.depth_or_array_layers ≡ 1)
SizeInBounds D2 e = Between 1 e.width.0 8192 × Between 1 e.height.0 8192 × Between 1 e.depth_or_array_layers 256
SizeInBounds D3 e = Between 1 e.width.0 2048 × Between 1 e.height.0 2048 × Between 1 e.depth_or_array_layers 2048

pub record FourSamples (t : Texture) : Type 0 where
  pub four : t.sample_count ≡ 4
  pub flat : t.dimension ≡ 2
  pub one_layer : t.size.depth_or_array_layers ≡ 1
  pub one_level : t.mip_level_count ≡ 1
  pub format : (t.format ≤ 10) ⊎ Between 15 t.format 20

pub record TextureInBounds (t : Texture) : Type 0 where
  pub format : t.format ≤ 21
  pub dimension : Between 1 t.dimension 3
  pub size : SizeInBounds (dimension_of t.dimension) t.size
  -- from 1 on; halved once for each level but the first, the largest side has not gone
  pub levels : 1 ≤ t.mip_level_count
  pub last_level : 1 ≤ mip_side (dimension_of t.dimension) t.size / 2 ^ (t.mip_level_count - 1)
  pub usage : t.usage.0 ≤ 31
  pub samples : (t.sample_count ≡ 1) ⊎ FourSamples t
  pub flat : 11 ≤ t.format → t.dimension ≡ 2
  pub blocks : Between 11 t.format 14 → (t.size.width.0 % 4 ≡ 0) × (t.size.height.0 % 4 ≡ 0)
  pub planes : t.format ≡ 21 → (t.size.width.0 % 2 ≡ 0) × (t.size.height.0 % 2 ≡ 0) × (t.mip_level_count ≡ 1)

pub record RecordBounds : Type 0 where
  pub buffers : (b : Buffer) → (buffer_in_bounds b ≡ true) ↔ BufferInBounds b
  pub textures : (t : Texture) → (texture_in_bounds t ≡ true) ↔ TextureInBounds t
