-- Between a buffer, or memory, and a texture: the regions put the blocks where the standard's copy has them, and no others.
-- Assumes nothing.
use Rattle.std.specs.Prelude.{Option, Some, None}
use Rattle.std.proofs.lemmas.Bool.{or_right}
use mathlib.Core.Path.{◌≡◌, refl, sym, ap, ◌∙◌}
use mathlib.Core.Bool.{Bool, true, false}
use mathlib.Core.List.{List}
use Prim.Native.Nat.{ℕ, ◌+◌, ◌-◌, ◌*◌, ◌/◌, ◌%◌, ◌^◌, ◌≤◌, ◌<◌}
use native.Mathlib.Omega.{arith}
use native.Mathlib.Nat.{mul-le-mul_right}
use lib.Dec.{ltb}
use borrow.Author.Tests.{ne_eqb, lt-ltb}
use Rattle.measures.specs.Measure.{blocks_of, in_blocks}
use Rattle.measures.proofs.Rounding.{block_laws}
use Rattle.mip_levels.specs.declared.TextureDimension.{TextureDimension}
use Rattle.mip_levels.specs.declared.TextureDimension.TheVariants.{D1, D2, D3}
use Rattle.mip_levels.specs.Level as L
use Rattle.formats.specs.Table as F
use Rattle.formats.proofs.Rows.{every_format}
use Rattle.rule_copy_range.specs.Range as R
use Rattle.rule_copy_range.specs.Range.{copy_extent, layer_count_of}
use Rattle.rule_linear_data.specs.declared.Dense.{Dense}
use Rattle.rule_linear_data.specs.Linear.{lacks, stacked, several_rows, several_images, image_stride_of, image_bytes_of, data_of, dense_of}
use Rattle.rule_selectors.specs.Selector as S
use Rattle.rule_selectors.specs.Selector.{base_of}
use Rattle.measures.specs.Measure.{is_empty}
use Rattle.plan_buffer_texture.specs.declared.BufferTextureCopy.{BufferTextureCopy}
use Rattle.plan_buffer_texture.specs.declared.BufferTexturePlan.{BufferTexturePlan}
use Rattle.plan_buffer_texture.specs.Plan.{first_region, plan_of}
use Rattle.claim_webgpu_rules.specs.Formats.{Part, Format, Known, format_of}
use Rattle.claim_webgpu_rules.specs.WebGpu.{or_zero, IsGiven}
use Rattle.claim_webgpu_rules.proofs.Rows.{row_of}
use Rattle.claim_webgpu_rules.proofs.Sizes.{dimension_is}
use Rattle.copy_buffer_texture.specs.Copy.{Copy}
use Rattle.copy_buffer_texture.specs.Plan.{plan_for}
use Rattle.claim_ownership.specs.Copy.{LengthFits}
use Rattle.claim_ownership.proofs.Accepted.{Checks, checks_of_lem}
use Rattle.claim_ownership.proofs.Sound.{size_is, sound_of}
use Rattle.claim_ownership.proofs.Asks.{next_regions, gives, gives_only}
use Rattle.claim_webgpu_effects.specs.Blocks.{TexelBlock, In}
use Rattle.claim_webgpu_effects.specs.Standard.{Stands}
use Rattle.claim_webgpu_effects.specs.Regions.{or_dense, Puts}
use Rattle.claim_webgpu_effects.specs.Effects.{BufferDoes, BufferEffects}
use Rattle.claim_webgpu_effects.proofs.Formats.{named_has, has_named}
use Rattle.claim_webgpu_effects.proofs.Figures.{no_zero, depth_some, limit, in_blocks_lem, in_texels, some_blocks, same_block, strides, image_of, layer_for, slice_for, region_of_lem}
use Rattle.claim_webgpu_effects.proofs.Sides.{Side, side_of_lem}
use Rattle.claim_webgpu_effects.proofs.Numbered.{numbered, Unwrapped, number_of, of_number}

-- a region's number is below the depth, and its layer far below 2 ^ 32
few : (v : TextureDimension) (z d m : ℕ) → z + d ≤ limit v → 0 < d → m < R.layers_of v d → (m < d) × (S.layer_of v z + m < 2 ^ 32)
few D1 z d m l pos h = (omega arith, omega arith)
few D2 z d m l pos h = (omega arith, omega arith)
few D3 z d m l pos h = (omega arith, omega arith)

stacked_some : (n stride last : ℕ) → 0 < n → stacked n stride last ≡ (n - 1) * stride + last
unfolding stacked
stacked_some n stride last h = rw (ne_eqb n 0 (λ e. omega arith))

is_given : (o : Option ℕ) (needed : Bool) → lacks o needed ≡ false → needed ≡ true → IsGiven o
unfolding lacks
is_given (Some n) needed e f = tt
is_given None needed e f = let z : ◌≡◌ {A = ℕ} 0 1 = cc in absurd (omega arith)

module _ (c : Copy) (p : BufferTexturePlan) (k : Checks c p) (fits : LengthFits c.direction) (known : Known c.texture.format) where
  abbrev plan : BufferTexturePlan
  plan = plan_for c

  abbrev f : Format
  f = format_of c.texture.format

  abbrev v : TextureDimension
  v = L.texture_dimension c.texture.dimension

  abbrev z : ℕ
  z = c.view.origin.z

  abbrev d : ℕ
  d = c.size.depth_or_array_layers

  abbrev dense : Dense
  dense = dense_of c.texture.format c.view.aspect c.size

  side : Side c.texture c.view c.size
  side = side_of_lem c.texture c.view c.size k.accepted.texture_bounds k.accepted.range known

  deep : z + d ≤ limit v
  deep = rw (dimension_is c.texture.dimension) side.deep

  -- ---- how many regions

  left_is : is_empty c.size ≡ false → plan.left ≡ R.layers_of v d
  unfolding plan_for plan_of layer_count_of
  left_is e = rw e

  none_left : is_empty c.size ≡ true → plan.left ≡ 0
  unfolding plan_for plan_of
  none_left e = rw e

  some_left : (m : ℕ) → m < plan.left → (0 < d) × (m < R.layers_of v d)
  unfolding is_empty
  some_left m h = go (is_empty c.size) refl
    where
      go : (t : Bool) → is_empty c.size ≡ t → (0 < d) × (m < R.layers_of v d)
      go true e = absurd (omega (arith, h, none_left e))
      go false e = (depth_some c.size.width.0 c.size.height.0 d e, rw (left_is e) at h)

  left_of_lem : (m : ℕ) → 0 < c.size.width.0 → 0 < c.size.height.0 → 0 < d → m < R.layers_of v d → m < plan.left
  unfolding is_empty
  left_of_lem m pw ph pd h = rw (left_is (no_zero _ _ _ pw ph pd)) h

  stride_is : plan.stride ≡ image_stride_of c.layout dense
  unfolding plan_for plan_of data_of
  stride_is = refl

  unwrapped : (m : ℕ) → m < plan.left → Unwrapped plan m
  unfolding plan_for plan_of first_region base_of data_of dense_of
  unwrapped m h =
      let s = some_left m h in
      let n = few v z d m deep s.0 s.1 in
      let small = (sound_of c p k fits).small in
      let inside = rw (size_is c.direction) at k.accepted.linear.inside in
      let rows : m * plan.stride ≤ (d - 1) * plan.stride = mul-le-mul_right plan.stride (omega (arith, n.0)) in
      let total = stacked_some d plan.stride (image_bytes_of c.layout dense) s.0 in
      (omega (arith, inside, total), n.1)

  -- ---- strides

  abbrev bytes_per_row_of : Option ℕ
  bytes_per_row_of = c.layout.bytes_per_row

  abbrev rows_per_image_of : Option ℕ
  rows_per_image_of = c.layout.rows_per_image

  abbrev high : ℕ
  high = c.size.height.0 / f.block_height_of

  abbrev row_for : Part → ℕ
  row_for part = or_dense bytes_per_row_of (c.size.width.0 / f.block_width_of * part.bytes)

  several_images_lem : (n : ℕ) → 0 < n → n < d → IsGiven bytes_per_row_of × IsGiven rows_per_image_of
  unfolding dense_of several_rows several_images
  several_images_lem n h l =
      let e : ltb 1 d ≡ true = lt-ltb 1 d (omega arith) in
      (is_given _ _ k.accepted.linear.bytes_given (rw e), is_given _ _ k.accepted.linear.rows_given e)

  rows_are : blocks_of c.size.height.0 (F.block_height_of c.texture.format) ≡ high
  rows_are =
      (block_laws _ (every_format c.texture.format).height_some).quotient c.size.height.0 k.accepted.range.height_whole
      ∙ ap (λ (n : ℕ). c.size.height.0 / n) (row_of c.texture.format known).height

  several_rows_lem : (n : ℕ) → 0 < n → n < high → IsGiven bytes_per_row_of
  unfolding dense_of in_blocks several_rows
  several_rows_lem n h l = is_given _ _ k.accepted.linear.bytes_given (or_right (ltb 1 d) _ (lt-ltb 1 (blocks_of c.size.height.0 (F.block_height_of c.texture.format)) (rw rows_are (omega arith))))

  at_byte :
      (m dz n i j : ℕ) (part : Part) → m + dz ≡ n → n < d → j < high
      → c.layout.offset + m * plan.stride + dz * (or_dense rows_per_image_of high * row_for part) + j * row_for part + i * part.bytes
      ≡ c.layout.offset + n * or_zero rows_per_image_of * or_zero bytes_per_row_of + j * or_zero bytes_per_row_of + i * part.bytes
  at_byte m dz n i j part s hn hj =
      let e = strides bytes_per_row_of rows_per_image_of dense.rows.0 dense.row_bytes high (c.size.width.0 / f.block_width_of * part.bytes) m dz n j s (λ h. several_images_lem n h hn) (λ h. several_rows_lem j h hj) in
      omega (arith, e, ap (λ (x : ℕ). m * x) stride_is)

  -- ---- a region's block is the standard's

  forward : (m : ℕ) (b : TexelBlock) (byte : ℕ) → m < plan.left → Puts f (numbered plan m) b byte → Stands c b byte
  unfolding plan_for plan_of first_region base_of copy_extent
  forward m b byte h q =
      let s = some_left m h in
      let im = image_of v z d m q.dz deep s.0 s.1 q.z in
      let x = in_blocks_lem f.block_width_of c.view.origin.x.0 q.dx c.size.width.0 side.x_whole (ap (λ (t : TexelBlock). t.x % f.block_width_of) (sym q.block) ∙ q.grid.0) side.w_whole q.x in
      let y = in_blocks_lem f.block_height_of c.view.origin.y.0 q.dy c.size.height.0 side.y_whole (ap (λ (t : TexelBlock). t.y % f.block_height_of) (sym q.block) ∙ q.grid.1) side.h_whole q.y in
      record {
        part = q.part;
        asked = has_named c.texture.format c.view.aspect known q.part q.known q.bits;
        i = q.dx / f.block_width_of;
        j = q.dy / f.block_height_of;
        k = m + q.dz;
        column = x.1;
        row = y.1;
        image = im.below;
        block = q.block ∙ rw (← dimension_is c.texture.dimension, x.0, y.0) (same_block im.layer im.slice refl refl);
        at = q.at ∙ at_byte m q.dz (m + q.dz) _ _ q.part refl im.below y.1;
      }

  backward : (b : TexelBlock) (byte : ℕ) → Stands c b byte → (m : ℕ) × (m < plan.left) × Puts f (numbered plan m) b byte
  unfolding plan_for plan_of first_region base_of copy_extent
  backward b byte q =
      let m = layer_for v q.k in
      let im = region_of_lem v z d q.k deep q.image in
      let x = in_texels f.block_width_of c.view.origin.x.0 q.i c.size.width.0 side.bw_pos side.x_whole side.w_whole q.column in
      let y = in_texels f.block_height_of c.view.origin.y.0 q.j c.size.height.0 side.bh_pos side.y_whole side.h_whole q.row in
      let named = named_has c.texture.format c.view.aspect known q.part q.asked in (
        m,
        left_of_lem m (some_blocks _ _ _ q.column) (some_blocks _ _ _ q.row) (omega (arith, q.image)) im.there,
        record {
          part = q.part;
          known = named.0;
          bits = named.1;
          dx = q.i * f.block_width_of;
          dy = q.j * f.block_height_of;
          dz = slice_for v q.k;
          x = x.0;
          y = y.0;
          z = im.deep;
          block = q.block ∙ rw (← dimension_is c.texture.dimension) (same_block (sym im.layer) (sym im.slice) refl refl);
          grid = (ap (λ (t : TexelBlock). t.x % f.block_width_of) q.block ∙ x.1, ap (λ (t : TexelBlock). t.y % f.block_height_of) q.block ∙ y.1);
          at = q.at ∙ rw (x.2, y.2) (sym (at_byte m (slice_for v q.k) q.k q.i q.j q.part im.sum q.image q.row));
        },
      )

  effects : (rs : List BufferTextureCopy) → rs ≡ next_regions plan.left plan → (b : TexelBlock) (byte : ℕ)
      → (((r : BufferTextureCopy) × In r rs × Puts f r b byte) → Stands c b byte) × (Stands c b byte → (r : BufferTextureCopy) × In r rs × Puts f r b byte)
  effects rs e b byte =
      rw e (
        λ (r, i, q). let n = number_of plan.left plan r unwrapped i in forward n.0 b byte n.1 (rw n.2 q),
        λ s. let t = backward b byte s in (numbered plan t.0, of_number plan.left plan t.0 unwrapped t.1, t.2),
      )

  all : BufferDoes c plan
  all =
      record {
        ends = (next_regions plan.left plan, gives plan.left plan refl);
        does = λ rs g. effects rs (gives_only plan.left g refl);
      }

pub every_buffer_copy : BufferEffects
every_buffer_copy c p fits e known = let k = checks_of_lem c p e in rw (← k.plan) (all c p k fits known)
