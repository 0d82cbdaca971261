-- The plan of an accepted copy of each kind.
-- Assumes nothing.
use Rattle.std.specs.Prelude.{Option, Result, Ok, Err}
use Prim.{Unit, tt}
use mathlib.Core.Path.{◌≡◌, refl}
use mathlib.Core.Bool.{Bool, true, false, cond, ◌||◌}
use mathlib.Core.List.{[], ◌∷◌}
use Prim.Native.Nat.{ℕ, ◌+◌, ◌-◌, ◌*◌, ◌^◌, ◌<◌}
use native.Mathlib.Omega.{arith}
use native.Mathlib.Nat.{zero-mul, min-le_left}
use lib.Dec.{eqb}
use borrow.Author.Tests.{eqb-false}
use Rattle.conditions.specs.Conditions.{pick}
use Rattle.conditions.proofs.Rules.{neither}
use Rattle.measures.specs.declared.Extent3d.{Extent3d}
use Rattle.measures.specs.Measure.{lesser_of, is_empty}
use Rattle.records.specs.declared.Buffer.{Buffer}
use Rattle.records.specs.declared.Device.{Device}
use Rattle.records.specs.declared.Texture.{Texture}
use Rattle.records.specs.declared.TexelCopyTextureInfo.{TexelCopyTextureInfo}
use Rattle.records.specs.declared.TexelCopyBufferLayout.{TexelCopyBufferLayout}
use Rattle.records.proofs.Bounded.{buffer_laws}
use Rattle.rule_copy_range.specs.declared.CopyExtent.{CopyExtent}
use Rattle.rule_copy_range.specs.Range.{layer_count_of}
use Rattle.rule_linear_data.specs.Linear.{data_of}
use Rattle.plan_buffers.specs.declared.BufferPlan.{BufferPlan}
use Rattle.plan_buffers.specs.Plan as K
use Rattle.copy_buffers.specs.Copy as D
use Rattle.copy_buffers.specs.Plan.{buffer_to_buffer}
use Rattle.copy_buffers.proofs.Accepted.{every_copy_law as buffers-law}
use Rattle.plan_buffer_texture.specs.declared.BufferTexturePlan.{BufferTexturePlan}
use Rattle.plan_buffer_texture.specs.Plan.{first_region, plan_of}
use Rattle.copy_buffer_texture.specs.declared.UploadSource.TheVariants as S
use Rattle.copy_buffer_texture.specs.Copy.{Direction, Upload, Download, Copy}
use Rattle.copy_buffer_texture.specs.Plan.{plan_for, buffer_to_texture, memory_to_texture, texture_to_buffer}
use Rattle.claim_ownership.specs.Copy as O
use Rattle.claim_ownership.proofs.Accepted.{checks_of_lem}
use Rattle.claim_ownership.proofs.Claims.{every_copy}
use Rattle.claim_ownership.proofs.Planned.{plan_is}
use Rattle.records.specs.declared.TextureSide.{TextureSide}
use Rattle.plan_textures.specs.declared.TexturePlan.{TexturePlan}
use Rattle.plan_textures.specs.Plan as X
use Rattle.copy_textures.specs.Copy as Y
use Rattle.copy_textures.specs.Plan.{texture_to_texture}
use Rattle.copy_textures.proofs.Accepted.{every_copy_law as textures-law}
use Rattle.claim_region_output.specs.Asking.{buffers}
use Rattle.claim_region_output.specs.Numbers.{optional, sides, numbers}
use Rattle.claim_region_output.proofs.Kept.{Small, FitBufferTexture, FitTextures}
use Rattle.claim_region_output.proofs.Accepted.{Figures, base_small, extent_small}
use Rattle.refusals.specs.declared.TransferError.{TransferError}

-- ---- between buffers

unfoldable pub BuffersFit : Result BufferPlan TransferError → Type 0
BuffersFit (Ok p) = 0 < p.left → Small (numbers (buffers p.region))
BuffersFit (Err e) = Unit {0}

buffers_by : (r : Result BufferPlan TransferError) → ((p : BufferPlan) → r ≡ Ok p → 0 < p.left → Small (numbers (buffers p.region))) → BuffersFit r
unfolding BuffersFit
buffers_by (Ok p) h = h p refl
buffers_by (Err e) h = tt

pub buffers_fit :
    (device : Device) (i : ℕ) (src : Buffer) (from j : ℕ) (dst : Buffer) (to : ℕ) (size : Option ℕ) → BuffersFit (buffer_to_buffer device i src from j dst to size)
unfolding buffer_to_buffer K.plan_of numbers
buffers_fit device i src from j dst to size =
    let c : D.Copy = record { device = device; src_index = i; src = src; src_offset = from; dst_index = j; dst = dst; dst_offset = to; size = size } in
    buffers_by (buffer_to_buffer device i src from j dst to size) λ p e some.
    let a = (buffers-law c).is_accepted p e in
    let s = buffer_laws src a.0.src_bounds in
    let d = buffer_laws dst a.0.dst_bounds in
    rw (← a.1) (omega (arith, s, a.0.src_inside), (omega (arith, d, a.0.dst_inside), (omega (arith, s, a.0.src_inside), tt)))

-- ---- between a buffer, or memory, and a texture

unfoldable pub BufferTextureFit : Result BufferTexturePlan TransferError → Type 0
BufferTextureFit (Ok p) = 0 < p.left → FitBufferTexture p
BufferTextureFit (Err e) = Unit {0}

copy_by : (r : Result BufferTexturePlan TransferError) → ((p : BufferTexturePlan) → r ≡ Ok p → 0 < p.left → FitBufferTexture p) → BufferTextureFit r
unfolding BufferTextureFit
copy_by (Ok p) h = h p refl
copy_by (Err e) h = tt

-- a copy that is not empty has every size
sizes_some : (size : Extent3d) → is_empty size ≡ false → (0 < size.width.0) × (0 < size.height.0) × (0 < size.depth_or_array_layers)
unfolding is_empty
sizes_some size e =
    let w = neither (eqb size.width.0 0) (eqb size.height.0 0 || eqb size.depth_or_array_layers 0) e in
    let h = neither (eqb size.height.0 0) (eqb size.depth_or_array_layers 0) w.1 in
    let wide : size.width.0 ≡ 0 → ⊥ = eqb-false size.width.0 0 w.0 in
    let high : size.height.0 ≡ 0 → ⊥ = eqb-false size.height.0 0 h.0 in
    let deep : size.depth_or_array_layers ≡ 0 → ⊥ = eqb-false size.depth_or_array_layers 0 h.1 in
    (omega arith, omega arith, omega arith)

not_empty : (t : Bool) (n : ℕ) → 0 < pick t 0 n → t ≡ false
not_empty true n h = absurd (omega (arith, h))
not_empty false n h = refl

module _ (c : Copy) (fits : O.LengthFits c.direction) (f : Figures c.view c.size) (bytes : Small (optional c.layout.bytes_per_row ∷ [])) (rows : Small (optional c.layout.rows_per_image ∷ [])) where
  -- the last region's offset, by demand 3
  last_below : (p : BufferTexturePlan) → O.planned c ≡ Ok p → is_empty c.size ≡ false → p.region.offset + (p.left - 1) * p.stride < 2 ^ 64 - 1
  last_below p e full =
      let z = sizes_some c.size full in
      let below = (every_copy c p fits e z.0 z.1 z.2).offsets (O.count c - 1) (some (O.is_2d c) (O.depth c) z.2) in
      rw (plan_is c p (checks_of_lem c p e) z.0 z.1 z.2) (omega (arith, below, zero-mul (O.image c)))
    where
      some : (t : Bool) (n : ℕ) → 0 < n → cond t n 1 - 1 < cond t n 1
      some true n h = omega arith
      some false n h = omega arith

  plan_fits : (p : BufferTexturePlan) → O.planned c ≡ Ok p → 0 < p.left → FitBufferTexture p
  unfolding plan_for plan_of first_region layer_count_of data_of
  plan_fits p e left =
      let k = checks_of_lem c p e in
      let full = not_empty (is_empty c.size) _ (rw (← k.plan) at left) in
      record {
        last = last_below p e full;
        bytes = rw (← k.plan) bytes;
        rows = rw (← k.plan) rows;
        base = rw (← k.plan) (base_small c.view c.texture c.size f);
        size = rw (← k.plan) (extent_small c.view c.texture c.size f);
      }

  copy_fits : BufferTextureFit (O.planned c)
  copy_fits = copy_by (O.planned c) λ p e left. plan_fits p e left

module _ (device : Device) (layout : TexelCopyBufferLayout) (t : Texture) (view : TexelCopyTextureInfo) (size : Extent3d)
    (f : Figures view size) (bytes : Small (optional layout.bytes_per_row ∷ [])) (rows : Small (optional layout.rows_per_image ∷ [])) where
  abbrev copy_of : Direction → Copy
  copy_of way = record { direction = way; device = device; layout = layout; texture = t; view = view; size = size }

  pub upload_fits : (b : Buffer) → BufferTextureFit (buffer_to_texture device b layout t view size)
  upload_fits b = copy_fits (copy_of (Upload (S.Buffer b))) tt f bytes rows

  pub memory_fits : (length : ℕ) → length < 2 ^ 64 → BufferTextureFit (memory_to_texture device length layout t view size)
  memory_fits length small = copy_fits (copy_of (Upload (S.Memory length))) small f bytes rows

  pub download_fits : (b : Buffer) → BufferTextureFit (texture_to_buffer device t view b layout size)
  download_fits b = copy_fits (copy_of (Download b)) tt f bytes rows

-- ---- between textures

unfoldable pub TexturesFit : Result TexturePlan TransferError → Type 0
TexturesFit (Ok p) = FitTextures p
TexturesFit (Err e) = Unit {0}

textures_by : (r : Result TexturePlan TransferError) → ((p : TexturePlan) → r ≡ Ok p → FitTextures p) → TexturesFit r
unfolding TexturesFit
textures_by (Ok p) h = h p refl
textures_by (Err e) h = tt

lesser_small : (a b : CopyExtent) → Small (sides a) → Small (sides (X.lesser a b))
unfolding X.lesser lesser_of
lesser_small a b h =
    (omega (arith, min-le_left a.width.0 b.width.0, h.0), (omega (arith, min-le_left a.height.0 b.height.0, h.1.0), (omega (arith, min-le_left a.depth b.depth, h.1.1.0), tt)))

pub textures_fit : (i : ℕ) (src : TextureSide) (j : ℕ) (dst : TextureSide) (size : Extent3d) → Figures src.view size → Figures dst.view size → TexturesFit (texture_to_texture i src j dst size)
unfolding Y.plan_for X.plan_of
textures_fit i src j dst size f g =
    textures_by (texture_to_texture i src j dst size) λ p e.
    let a = (textures-law (Y.between i src j dst size)).is_accepted p e in
    rw (← a.1)
    (record {
      src = base_small src.view src.texture size f;
      dst = base_small dst.view dst.texture size g;
      size = lesser_small _ _ (extent_small src.view src.texture size f);
    })
