-- An accepted copy has few regions: 32 bits count them.
-- Assumes nothing.
use Rattle.std.specs.Prelude.{Option, Ok}
use mathlib.Core.Path.{◌≡◌}
use mathlib.Core.Bool.{Bool, true, false}
use Prim.Native.Nat.{ℕ, ◌*◌, ◌^◌, ◌≤◌, ◌<◌}
use native.Mathlib.Omega.{arith}
use native.Mathlib.Nat.{mul-le-mul_right}
use lib.Dec.{eqb}
use Rattle.conditions.specs.Conditions.{pick}
use Rattle.measures.specs.declared.Extent3d.{Extent3d}
use Rattle.measures.specs.Measure.{is_empty, physical_size, round_up}
use Rattle.mip_levels.specs.declared.TextureDimension.{TextureDimension}
use Rattle.mip_levels.specs.declared.TextureDimension.TheVariants.{D1, D2, D3}
use Rattle.mip_levels.specs.Level.{texture_dimension}
use Rattle.records.specs.declared.Buffer.{Buffer}
use Rattle.records.specs.declared.Device.{Device}
use Rattle.records.specs.declared.Texture.{Texture}
use Rattle.records.specs.declared.TexelCopyTextureInfo.{TexelCopyTextureInfo}
use Rattle.records.specs.declared.TextureSide.{TextureSide}
use Rattle.records.specs.Limits.{max_side3d}
use Rattle.records.specs.Bounds.{texture_in_bounds}
use Rattle.records.specs.Extents.{physical_extent}
use Rattle.records.proofs.Bounded.{texture_laws}
use Rattle.rule_copy_range.specs.Range.{layers_of, layer_count_of}
use Rattle.rule_copy_range.specs.Laws.{RangeLaws}
use Rattle.plan_buffers.specs.declared.BufferPlan.{BufferPlan}
use Rattle.plan_buffers.specs.Plan as K
use Rattle.copy_buffers.specs.Copy as D
use Rattle.copy_buffers.specs.Plan.{bytes, buffer_to_buffer}
use Rattle.copy_buffers.proofs.Accepted.{every_copy_law as buffers-law}
use Rattle.plan_buffer_texture.specs.declared.BufferTexturePlan.{BufferTexturePlan}
use Rattle.plan_buffer_texture.specs.Plan as L
use Rattle.copy_buffer_texture.specs.Copy.{Copy}
use Rattle.copy_buffer_texture.specs.Plan as C
use Rattle.plan_textures.specs.declared.CopyParts.{CopyParts}
use Rattle.plan_textures.specs.declared.CopyParts.TheVariants.{Whole, DepthStencil, Planes}
use Rattle.plan_textures.specs.declared.TexturePlan.{TexturePlan}
use Rattle.plan_textures.specs.Plan as X
use Rattle.copy_textures.specs.Copy as Y
use Rattle.copy_textures.specs.Plan.{texture_to_texture}
use Rattle.copy_textures.proofs.Accepted.{every_copy_law as textures-law}
use Rattle.claim_ownership.specs.Copy.{planned}
use Rattle.claim_ownership.proofs.Accepted.{checks_of_lem}

few : (d : TextureDimension) (n : ℕ) → n ≤ max_side3d → layers_of d n ≤ max_side3d
few D1 n h = omega arith
few D2 n h = h
few D3 n h = omega arith

layers_few : (view : TexelCopyTextureInfo) (t : Texture) (size : Extent3d) → texture_in_bounds t ≡ true → RangeLaws view t size → layer_count_of t size ≤ max_side3d
unfolding layer_count_of physical_extent round_up physical_size
layers_few view t size bound r =
    let deep = ((texture_laws t bound).level_sized view.mip_level).depth_few in
    few (texture_dimension t.dimension) size.depth_or_array_layers (omega (arith, r.z_inside))

-- none, or so many
at_most : (none : Bool) (n most : ℕ) → n ≤ most → pick none 0 n ≤ most
at_most true n most h = omega arith
at_most false n most h = h

parts_few : (v : CopyParts) → X.part_count v ≤ 2
unfolding X.part_count
parts_few Whole = omega arith
parts_few DepthStencil = omega arith
parts_few Planes = omega arith

pub buffers_few : (device : Device) (i j : ℕ) (src dst : Buffer) (from to : ℕ) (size : Option ℕ) (p : BufferPlan) → buffer_to_buffer device i src from j dst to size ≡ Ok p → p.left < 2 ^ 32
unfolding buffer_to_buffer K.plan_of
buffers_few device i j src dst from to size p e =
    let c : D.Copy = record { device = device; src_index = i; src = src; src_offset = from; dst_index = j; dst = dst; dst_offset = to; size = size } in
    let a = (buffers-law c).is_accepted p e in
    rw (← a.1) (omega (arith, at_most (eqb (bytes c) 0) 1 1 (omega arith)))

pub copy_few : (c : Copy) (p : BufferTexturePlan) → planned c ≡ Ok p → p.left < 2 ^ 32
unfolding C.plan_for L.plan_of
copy_few c p e =
    let k = checks_of_lem c p e in
    let n = layers_few c.view c.texture c.size k.accepted.texture_bounds k.accepted.range in
    rw (← k.plan) (omega (arith, at_most (is_empty c.size) (layer_count_of c.texture c.size) max_side3d n))

pub textures_few : (i : ℕ) (src : TextureSide) (j : ℕ) (dst : TextureSide) (size : Extent3d) (p : TexturePlan) → texture_to_texture i src j dst size ≡ Ok p → p.left < 2 ^ 32
unfolding Y.plan_for X.plan_of
textures_few i src j dst size p e =
    let a = (textures-law (Y.between i src j dst size)).is_accepted p e in
    let n = layers_few src.view src.texture size a.0.src_bounds a.0.src_range in
    let parts = X.part_count (X.parts_of dst.texture.format) in
    let all : layer_count_of src.texture size * parts ≤ max_side3d * parts = mul-le-mul_right parts n in
    rw (← a.1) (omega (arith, at_most (is_empty size) (layer_count_of src.texture size * parts) (max_side3d * parts) all, parts_few (X.parts_of dst.texture.format)))
