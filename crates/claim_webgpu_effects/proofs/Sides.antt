-- What an accepted range says of a texture's side, in the standard's words.
-- Assumes nothing.
use mathlib.Core.Path.{◌≡◌}
use mathlib.Core.Bool.{true}
use Prim.Native.Nat.{ℕ, ◌+◌, ◌%◌, ◌≤◌, ◌<◌}
use native.Mathlib.Omega.{arith}
use Rattle.measures.specs.declared.Extent3d.{Extent3d}
use Rattle.measures.specs.Measure.{physical_size, round_up}
use Rattle.mip_levels.specs.declared.TextureDimension.{TextureDimension}
use Rattle.mip_levels.specs.declared.TextureDimension.TheVariants.{D1, D2, D3}
use Rattle.mip_levels.specs.Level as L
use Rattle.mip_levels.specs.Level.{mip_level_size, texels_at}
use Rattle.formats.proofs.Rows.{every_format}
use Rattle.records.specs.declared.Texture.{Texture}
use Rattle.records.specs.declared.TexelCopyTextureInfo.{TexelCopyTextureInfo}
use Rattle.records.specs.Limits.{max_side3d}
use Rattle.records.specs.Bounds.{texture_in_bounds}
use Rattle.records.specs.Extents.{logical_extent, physical_extent}
use Rattle.records.proofs.Bounded.{texture_laws}
use Rattle.rule_copy_range.specs.Laws.{RangeLaws}
use Rattle.claim_webgpu_rules.specs.Formats.{Known, format_of, dimension_of}
use Rattle.claim_webgpu_rules.proofs.Rows.{row_of}
use Rattle.claim_webgpu_rules.proofs.Sizes.{dimension_is}
use Rattle.claim_webgpu_effects.proofs.Figures.{limit}

pub record Side (t : Texture) (view : TexelCopyTextureInfo) (size : Extent3d) : Type 0 where
  pub bw_pos : 0 < (format_of t.format).block_width_of
  pub bh_pos : 0 < (format_of t.format).block_height_of
  pub x_whole : view.origin.x.0 % (format_of t.format).block_width_of ≡ 0
  pub y_whole : view.origin.y.0 % (format_of t.format).block_height_of ≡ 0
  pub w_whole : size.width.0 % (format_of t.format).block_width_of ≡ 0
  pub h_whole : size.height.0 % (format_of t.format).block_height_of ≡ 0
  pub deep : view.origin.z + size.depth_or_array_layers ≤ limit (dimension_of t.dimension)

within_limit : (v : TextureDimension) (e : Extent3d) (level : ℕ) → (mip_level_size v e level).depth_or_array_layers ≤ max_side3d → (mip_level_size v e level).depth_or_array_layers ≤ limit v
unfolding texels_at mip_level_size
within_limit D1 e level h = omega arith
within_limit D2 e level h = h
within_limit D3 e level h = h

module _ (t : Texture) (view : TexelCopyTextureInfo) (size : Extent3d) (bounds : texture_in_bounds t ≡ true) (r : RangeLaws view t size) where
  deep : view.origin.z + size.depth_or_array_layers ≤ limit (dimension_of t.dimension)
  unfolding physical_extent round_up physical_size logical_extent
  deep =
      let few = ((texture_laws t bounds).level_sized view.mip_level).depth_few in
      let near = within_limit (L.texture_dimension t.dimension) t.size view.mip_level few in
      rw (← dimension_is t.dimension) (omega (arith, r.z_inside))

  pub side_of_lem : Known t.format → Side t view size
  side_of_lem known =
      let b = row_of t.format known in
      let laws = every_format t.format in
      record {
        bw_pos = rw b.width at laws.width_some;
        bh_pos = rw b.height at laws.height_some;
        x_whole = rw b.width at r.x_whole;
        y_whole = rw b.height at r.y_whole;
        w_whole = rw b.width at r.width_whole;
        h_whole = rw b.height at r.height_whole;
        deep = deep;
      }
