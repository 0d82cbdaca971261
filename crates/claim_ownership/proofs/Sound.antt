-- The figures of an accepted copy, in the claim's own words.
-- Assumes nothing.
use mathlib.Core.Path.{◌≡◌, refl, ap, ◌∙◌}
use mathlib.Core.Bool.{true}
use Prim.Native.Nat.{ℕ, ◌+◌, ◌*◌, ◌/◌, ◌%◌, ◌^◌, ◌≤◌, ◌<◌}
use native.Mathlib.Omega.{arith}
use native.Mathlib.Nat.{div-add-mod'}
use Rattle.measures.specs.Measure.{blocks_of, in_blocks, physical_size, round_up}
use Rattle.measures.proofs.Rounding.{block_laws}
use Rattle.mip_levels.specs.Level.{texture_dimension, mip_level_size}
use Rattle.formats.specs.Table.{block_width_of, block_height_of}
use Rattle.records.specs.Limits.{max_side3d}
use Rattle.records.specs.Extents.{logical_extent, physical_extent}
use Rattle.records.proofs.Bounded.{buffer_laws, texture_laws}
use Rattle.rule_linear_data.specs.declared.Dense.{Dense}
use Rattle.rule_linear_data.specs.declared.LinearData.{LinearData}
use Rattle.rule_linear_data.specs.Linear.{dense_of, total_bytes, data_of, linear_data, is_contiguous_copy, several_rows, several_images}
use Rattle.rule_linear_data.specs.Laws.{LinearLaws}
use Rattle.copy_buffer_texture.specs.Plan as planner
use Rattle.plan_buffer_texture.specs.declared.BufferTexturePlan.{BufferTexturePlan}
use Rattle.copy_buffer_texture.specs.declared.UploadSource.TheVariants as S
use Rattle.copy_buffer_texture.specs.Copy.{Direction, Upload, Download, Copy}
use Rattle.copy_buffer_texture.specs.Laws as laws
use Rattle.claim_ownership.specs.Copy.{byte_size, LengthFits, depth, bytes, block, wide, high, dense, row, rows, image, image_bytes_of, total}
use Rattle.claim_ownership.specs.Ranges.{contiguous}
use Rattle.claim_ownership.proofs.Formats.{Figures, figures}
use Rattle.claim_ownership.proofs.Accepted.{Checks}
use Rattle.claim_ownership.proofs.Bridges.{known, dense_is, stacked_is, single_is, neither_is}

pub record Sound (c : Copy) : Type 0 where
  pub small : byte_size c.direction < 2 ^ 64
  pub block_pos : 0 < block c
  pub bytes_pos : 0 < bytes c
  pub w_whole : wide c * block c ≡ c.size.width.0
  pub h_whole : high c * block c ≡ c.size.height.0
  pub fit : dense c ≤ row c
  pub tall : high c ≤ rows c
  pub end : c.layout.offset + total c ≤ byte_size c.direction
  pub deep : c.view.origin.z + depth c ≤ max_side3d

whole : (n side b : ℕ) → 0 < b → side ≡ b → n % side ≡ 0 → (blocks_of n side ≡ n / b) × (n / b * b ≡ n)
whole n side b pos e h =
    let m : n % b ≡ 0 = rw e at h in
    (ap (λ (s : ℕ). blocks_of n s) e ∙ (block_laws b pos).quotient n m, omega (arith, div-add-mod' n b))

-- the bytes that the planner's law goes by
pub size_is : (d : Direction) → laws.byte_size d ≡ byte_size d
size_is (Upload (S.Buffer b)) = refl
size_is (Upload (S.Memory length)) = refl
size_is (Download b) = refl

-- a buffer has far fewer than 2 ^ 64 bytes
size_small : (d : Direction) → laws.buffer_within d ≡ true → LengthFits d → byte_size d < 2 ^ 64
size_small (Upload (S.Buffer b)) h fits = omega (arith, buffer_laws b h)
size_small (Upload (S.Memory length)) h fits = fits
size_small (Download b) h fits = omega (arith, buffer_laws b h)

-- ---- what the planner's linear data is made of

abbrev measures : Copy → Dense
measures c = record { row_bytes = dense c; rows = record { 0 = high c }; images = depth c }

total_is : (c : Copy) → total_bytes c.layout (measures c) ≡ total c
unfolding total image_bytes_of
total_is c = simp (stacked_is, dense_is)

-- the required bytes, the image stride, and whether nothing pads
abbrev pub linear_of : Copy → LinearData
linear_of c = record { bytes_in_copy = total c; image_stride = image c; is_contiguous = contiguous c }

given_is : (c : Copy) → linear_data c.layout (measures c) ≡ linear_of c
unfolding data_of is_contiguous_copy several_rows several_images contiguous total image_bytes_of
given_is c = simp (stacked_is, dense_is, neither_is, single_is)

module _ (c : Copy) (p : BufferTexturePlan) (k : Checks c p) where
  pub figured : Figures c.texture.format c.view.aspect
  figured = figures c.direction c.texture.format c.view.aspect (known c.texture k.accepted.texture_bounds).0 k.accepted.format k.one

  across : (blocks_of c.size.width.0 (block_width_of c.texture.format) ≡ wide c) × (wide c * block c ≡ c.size.width.0)
  across = whole c.size.width.0 _ (block c) figured.side_some figured.width k.accepted.range.width_whole

  along : (blocks_of c.size.height.0 (block_height_of c.texture.format) ≡ high c) × (high c * block c ≡ c.size.height.0)
  along = whole c.size.height.0 _ (block c) figured.side_some figured.height k.accepted.range.height_whole

  measured : planner.dense c ≡ measures c
  unfolding dense_of in_blocks
  measured = rw (across.0, along.0, figured.bytes)

  linear : LinearLaws c.layout (byte_size c.direction) (measures c)
  linear = rw (measured, size_is c.direction) at k.accepted.linear

  pub linear_is : linear_data c.layout (planner.dense c) ≡ linear_of c
  linear_is = ap (λ (d : Dense). linear_data c.layout d) measured ∙ given_is c

  -- the copied images are the level's
  pub level_deep : c.view.origin.z + depth c ≤ (mip_level_size (texture_dimension c.texture.dimension) c.texture.size c.view.mip_level).depth_or_array_layers
  unfolding physical_extent round_up physical_size logical_extent
  level_deep = k.accepted.range.z_inside

  deep : c.view.origin.z + depth c ≤ max_side3d
  unfolding logical_extent
  deep =
      let few = ((texture_laws c.texture k.accepted.texture_bounds).level_sized c.view.mip_level).depth_few in
      omega (arith, level_deep)

  pub sound_of : LengthFits c.direction → Sound c
  sound_of fits =
      record {
        small = size_small c.direction k.accepted.buffer_bounds fits;
        block_pos = figured.side_some;
        bytes_pos = figured.bytes_some;
        w_whole = across.1;
        h_whole = along.1;
        fit = rw dense_is at linear.row_fits;
        tall = rw dense_is at linear.rows_fit;
        end = rw (total_is c) at linear.inside;
        deep = deep;
      }
