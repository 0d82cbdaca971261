-- The figures of a part that lies inside its texture: its row and its rows are within 32 bits.
-- Assumes nothing.
use Rattle.std.specs.Prelude.{Option, Some, None}
use mathlib.Core.Path.{◌≡◌, refl, ap}
use mathlib.Core.Bool.{true}
use Prim.Native.Nat.{ℕ, ◌+◌, ◌*◌, ◌/◌, ◌^◌, ◌≤◌, ◌<◌}
use native.Mathlib.Omega.{arith}
use native.Mathlib.Nat.{mul-le-mul, div-le_self}
use Rattle.measures.specs.declared.Extent3d.{Extent3d}
use Rattle.measures.specs.Measure.{physical_size, or_else, round_up}
use Rattle.measures.proofs.Rounding.{block_laws}
use Rattle.formats.specs.declared.TextureAspect.{TextureAspect}
use Rattle.formats.specs.Table.{block_width_of, block_height_of}
use Rattle.formats.specs.Aspects.{block_copy_size}
use Rattle.formats.specs.Laws.{max_block_side, max_block_bytes}
use Rattle.formats.proofs.Rows.{every_format}
use Rattle.records.specs.declared.Texture.{Texture}
use Rattle.records.specs.Limits.{max_side}
use Rattle.records.specs.Bounds.{texture_in_bounds}
use Rattle.records.specs.Extents.{logical_extent, physical_extent}
use Rattle.records.proofs.Bounded.{texture_laws}
use Rattle.rule_linear_data.specs.Linear as linear
use Rattle.claim_webgpu_rules.specs.Formats.{format_of}
use Rattle.claim_webgpu_rules.specs.WebGpu.{Reading, TexelCopyTexture, block_bytes}
use Rattle.claim_webgpu_rules.specs.Agreement.{InStandard, Figures}
use Rattle.claim_webgpu_rules.proofs.Rows.{bytes_are}
use Rattle.claim_webgpu_rules.proofs.Sizes.{physical_extents}
use Rattle.copy_buffer_texture.specs.Copy.{Copy}
use Rattle.copy_buffer_texture.specs.Laws.{byte_size}
use Rattle.claim_webgpu_copies.specs.WholeCopies.{Compared}

few_bytes : (format : ℕ) (aspect : TextureAspect) → linear.block_bytes format aspect ≤ max_block_bytes
unfolding linear.block_bytes or_else
few_bytes format aspect = go (block_copy_size format aspect) refl
  where
    go : (o : Option ℕ) → block_copy_size format aspect ≡ o → or_else o 0 ≤ max_block_bytes
    go (Some n) e = (every_format format).bytes_few aspect n e
    go None e = omega arith

abbrev max_rounded : ℕ
max_rounded = max_side + max_block_side

-- a level's sides, rounded up to blocks
rounded : (t : Texture) → texture_in_bounds t ≡ true → (level : ℕ) → ((physical_extent t level).width.0 ≤ max_rounded) × ((physical_extent t level).height.0 ≤ max_rounded)
unfolding physical_extent round_up physical_size
rounded t b level =
    let s = (texture_laws t b).level_sized level in
    let f = every_format t.format in
    let w = (block_laws (block_width_of t.format) f.width_some).tight (logical_extent t level).width.0 in
    let h = (block_laws (block_height_of t.format) f.height_some).tight (logical_extent t level).height.0 in
    (omega (arith, s.width_few, f.width_few), omega (arith, s.height_few, f.height_few))

pub figures_of :
    (reading : Reading) (c : Copy) → Compared c → InStandard c.texture.format c.view.aspect → byte_size c.direction < 2 ^ 64 → texture_in_bounds c.texture ≡ true
    → TexelCopyTexture reading c.texture c.view c.size → Figures c.layout c.texture.format c.view.aspect c.size (byte_size c.direction)
figures_of reading c r i small in_texture v =
    let format = c.texture.format in
    let level = c.view.mip_level in
    let f = format_of format in
    let few = rounded c.texture in_texture level in
    let same = physical_extents c.texture level r.known in
    let wide = ap (λ (e : Extent3d). e.width.0) same in
    let high = ap (λ (e : Extent3d). e.height.0) same in
    let columns = div-le_self c.size.width.0 f.block_width_of in
    let rows = div-le_self c.size.height.0 f.block_height_of in
    let narrow : c.size.width.0 / f.block_width_of ≤ max_rounded = omega (arith, v.range.x, few.0, wide, columns) in
    let bytes : block_bytes format c.view.aspect ≤ max_block_bytes = rw (← bytes_are format c.view.aspect i) (few_bytes format c.view.aspect) in
    let row : c.size.width.0 / f.block_width_of * block_bytes format c.view.aspect ≤ max_rounded * max_block_bytes = mul-le-mul narrow bytes in
    record {
      bytes_field = r.bytes_field;
      rows_field = r.rows_field;
      buffer_field = small;
      width_whole = v.range.width;
      height_whole = v.range.height;
      row_small = omega (arith, row);
      rows_small = omega (arith, v.range.y, few.1, high, rows);
    }
