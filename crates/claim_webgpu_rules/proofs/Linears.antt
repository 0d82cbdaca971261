-- The rule of linear data against the standard's.
-- Assumes nothing.
use Rattle.std.specs.Prelude.{Option, Some, None, Ok}
use mathlib.Core.Path.{◌≡◌, refl, sym, ap, ◌∙◌}
use mathlib.Core.Bool.{Bool, true, false, ◌||◌, cond}
use mathlib.Core.Logic.{◌⊎◌, ⊎_elim}
use Prim.Native.Nat.{ℕ, ◌+◌, ◌-◌, ◌*◌, ◌/◌, ◌%◌, ◌^◌, ◌≤◌, ◌<◌}
use native.Mathlib.Omega.{arith}
use native.Mathlib.Nat.{mul_comm, mul-le-mul, zero-mul, mul-zero}
use lib.Dec.{eqb, ltb}
use borrow.Author.Tests.{lt-ltb, ltb-true, ltb-false}
use Rattle.conditions.specs.Conditions.{pick}
use Rattle.conditions.proofs.Rules.{either}
use Rattle.measures.specs.declared.Extent3d.{Extent3d}
use Rattle.measures.specs.Measure.{blocks_of, in_blocks, or_else}
use Rattle.measures.proofs.Rounding.{blocks_of_whole}
use Rattle.formats.specs.declared.TextureAspect.{TextureAspect}
use Rattle.formats.specs.Table.{block_width_of, block_height_of}
use Rattle.formats.proofs.Rows.{every_format}
use Rattle.refusals.specs.declared.CopySide.{CopySide}
use Rattle.records.specs.declared.TexelCopyBufferLayout.{TexelCopyBufferLayout}
use Rattle.rule_linear_data.specs.declared.Dense.{Dense}
use Rattle.rule_linear_data.specs.declared.LinearData.{LinearData}
use Rattle.rule_linear_data.specs.Linear as linear
use Rattle.rule_linear_data.specs.Linear.{lacks, stacked, several_rows, several_images, row_stride_of, image_rows_of, image_stride_of, image_bytes_of, total_bytes, data_of, linear_data, dense_of, linear_checked}
use Rattle.rule_linear_data.proofs.Accepted.{linear_goes, linear_went}
use Rattle.claim_webgpu_rules.specs.Formats.{format_of}
use Rattle.claim_webgpu_rules.specs.WebGpu.{block_bytes, or_zero, IsGiven, AtLeast, required_bytes_in_copy}
use Rattle.claim_webgpu_rules.specs.Agreement.{InStandard, Fits32, Figures, LinearRules, Standard, required_bytes}
use Rattle.claim_webgpu_rules.proofs.Rows.{row_of, bytes_are}

-- ---- given or absent

at_least : (o : Option ℕ) (n : ℕ) → n ≤ or_else o n → AtLeast o n
unfolding or_else
at_least (Some m) n h = h
at_least None n h = tt

or_else_lem : (o : Option ℕ) (n : ℕ) → AtLeast o n → n ≤ or_else o n
unfolding or_else
or_else_lem (Some m) n h = h
or_else_lem None n h = omega arith

is_given : (o : Option ℕ) (needed : Bool) → lacks o needed ≡ false → needed ≡ true → IsGiven o
unfolding lacks
is_given (Some m) needed h e = tt
is_given None needed h e = let z : ◌≡◌ {A = ℕ} 0 1 = cc in absurd (omega arith)

not_lacking : (o : Option ℕ) (needed : Bool) → (needed ≡ true → IsGiven o) → lacks o needed ≡ false
unfolding lacks
not_lacking (Some m) needed h = refl
not_lacking None true h = absurd (h refl)
not_lacking None false h = refl

-- a given value is itself under both readings
same_given : (o : Option ℕ) (n : ℕ) → IsGiven o → or_else o n ≡ or_zero o
unfolding or_else
same_given (Some m) n h = refl
same_given None n h = absurd h

fits32 : (o : Option ℕ) (n : ℕ) → Fits32 o → n < 2 ^ 32 → or_else o n < 2 ^ 32
unfolding or_else
fits32 (Some m) n f h = f
fits32 None n f h = h

-- ---- the bytes: both readings agree where what has to be given is given

picked : (t : Bool) (a b : ℕ) → pick t a b ≡ cond t a b
picked true a b = refl
picked false a b = refl

-- strides after the first matter only where there are more than one
strides : (n a b : ℕ) → (1 < n → a ≡ b) → (n - 1) * a ≡ b * (n - 1)
strides n a b h = go (ltb 1 n) refl
  where
    go : (t : Bool) → ltb 1 n ≡ t → (n - 1) * a ≡ b * (n - 1)
    go true e = ap (λ (k : ℕ). (n - 1) * k) (h (ltb-true 1 n e)) ∙ mul_comm (n - 1) b
    go false e =
        let few = ltb-false 1 n e in
        let none : n - 1 ≡ 0 = omega arith in
        rw none (zero-mul a ∙ sym (mul-zero b))

module _ (layout : TexelCopyBufferLayout) (d : Dense) where
  abbrev S : ℕ
  S = or_zero layout.bytes_per_row

  abbrev P : ℕ
  P = or_zero layout.rows_per_image

  abbrev image : ℕ
  image = cond (eqb d.rows.0 0) 0 (S * (d.rows.0 - 1) + d.row_bytes)

  image_is : (1 < d.rows.0 → IsGiven layout.bytes_per_row) → image_bytes_of layout d ≡ image
  unfolding stacked
  image_is g =
      ap (λ (n : ℕ). pick (eqb d.rows.0 0) 0 (n + d.row_bytes))
      (strides d.rows.0 (row_stride_of layout d) S (λ m. same_given layout.bytes_per_row d.row_bytes (g m)))
      ∙ picked (eqb d.rows.0 0) 0 _

  total_is :
      (1 < d.rows.0 → IsGiven layout.bytes_per_row) → (1 < d.images → IsGiven layout.bytes_per_row × IsGiven layout.rows_per_image)
      → total_bytes layout d ≡ cond (eqb d.images 0) 0 (S * P * (d.images - 1) + image)
  unfolding stacked
  total_is g h =
      ap (λ (n : ℕ). pick (eqb d.images 0) 0 (n + image_bytes_of layout d)) (strides d.images (image_stride_of layout d) (S * P) stride_is)
      ∙ ap (λ (n : ℕ). pick (eqb d.images 0) 0 (S * P * (d.images - 1) + n)) (image_is g)
      ∙ picked (eqb d.images 0) 0 _
    where
      stride_is : 1 < d.images → image_stride_of layout d ≡ S * P
      stride_is m =
          let both = h m in
          ap (λ (n : ℕ). n * row_stride_of layout d) (same_given layout.rows_per_image d.rows.0 both.1)
          ∙ ap (λ (n : ℕ). P * n) (same_given layout.bytes_per_row d.row_bytes both.0)
          ∙ mul_comm P S

-- what has to be given: rows by more than one row or image, images by more than one image
several_rows_lem : (d : Dense) → 1 < d.rows.0 → several_rows d ≡ true
unfolding several_rows
several_rows_lem d h = go (ltb 1 d.images)
  where
    go : (s : Bool) → (s || ltb 1 d.rows.0) ≡ true
    go true = refl
    go false = lt-ltb 1 d.rows.0 h

several_images_lem : (d : Dense) → 1 < d.images → (several_rows d ≡ true) × (several_images d ≡ true)
unfolding several_rows several_images
several_images_lem d h = (rw (lt-ltb 1 d.images h), lt-ltb 1 d.images h)

-- products of numbers within 32 bits
product : (a b : ℕ) → a < 2 ^ 32 → b < 2 ^ 32 → a * b ≤ (2 ^ 32 - 1) * (2 ^ 32 - 1)
product a b p q =
    let x : a ≤ 2 ^ 32 - 1 = omega arith in
    let y : b ≤ 2 ^ 32 - 1 = omega arith in
    mul-le-mul x y

stacked_fits : (items stride last : ℕ) → items < 2 ^ 32 → stride < 2 ^ 32 → last < 2 ^ 32 → stacked items stride last < 2 ^ 64
unfolding stacked
stacked_fits items stride last a b c = go (eqb items 0)
  where
    go : (t : Bool) → pick t 0 ((items - 1) * stride + last) < 2 ^ 64
    go true = omega arith
    go false = let p = product (items - 1) stride (omega arith) b in omega arith

-- ---- the rule, of a dense row and rows as the standard counts them

module _ (layout : TexelCopyBufferLayout) (format : ℕ) (aspect : TextureAspect) (size : Extent3d) (bufferSize : ℕ) (side : CopySide) (i : InStandard format aspect) (f : Figures layout format aspect size bufferSize) where
  abbrev d : Dense
  d = dense_of format aspect size

  -- whole blocks of the standard's size are counted by the planner's
  counted : (n ours theirs : ℕ) → ours ≡ theirs → 0 < ours → n % theirs ≡ 0 → blocks_of n ours ≡ n / theirs
  counted n ours theirs e pos h = blocks_of_whole ours pos n (rw e h) ∙ ap (λ (b : ℕ). n / b) e

  wide : d.row_bytes ≡ size.width.0 / (format_of format).block_width_of * block_bytes format aspect
  unfolding dense_of in_blocks
  wide =
      ap (λ (n : ℕ). n * linear.block_bytes format aspect) (counted size.width.0 _ _ (row_of format i.known).width (every_format format).width_some f.width_whole)
      ∙ ap (λ (n : ℕ). size.width.0 / (format_of format).block_width_of * n) (bytes_are format aspect i)

  high : d.rows.0 ≡ size.height.0 / (format_of format).block_height_of
  unfolding dense_of in_blocks
  high = counted size.height.0 _ _ (row_of format i.known).height (every_format format).height_some f.height_whole

  deep : d.images ≡ size.depth_or_array_layers
  unfolding dense_of
  deep = refl

  abbrev required : ℕ → ℕ → ℕ → ℕ
  required row rows images =
      cond (eqb images 0) 0
      (S layout d * P layout d * (images - 1) + cond (eqb rows 0) 0 (S layout d * (rows - 1) + row))

  required_is : required d.row_bytes d.rows.0 d.images ≡ required_bytes layout format aspect size bufferSize
  unfolding required_bytes_in_copy
  required_is = rw (wide, high, deep)

  holds : (m : LinearData) → linear_checked layout format aspect bufferSize side size ≡ Ok m → Standard layout format aspect size bufferSize × (m.bytes_in_copy ≡ required_bytes layout format aspect size bufferSize)
  unfolding data_of
  holds m e =
      let r = linear_went layout format aspect bufferSize side size m e in
      let l = r.0 in
      let rows : 1 < d.rows.0 → IsGiven layout.bytes_per_row = λ h. is_given layout.bytes_per_row (several_rows d) l.bytes_given (several_rows_lem d h) in
      let images : 1 < d.images → IsGiven layout.bytes_per_row × IsGiven layout.rows_per_image = λ h. (is_given layout.bytes_per_row (several_rows d) l.bytes_given (several_images_lem d h).0, is_given layout.rows_per_image (several_images d) l.rows_given (several_images_lem d h).1) in
      let t = total_is layout d rows images ∙ required_is in (
        record {
          rows_given = λ h. rows (rw high h);
          images_given = λ h. images (rw deep h);
          row_fits = rw (← wide) (at_least layout.bytes_per_row d.row_bytes l.row_fits);
          image_fits = rw (← high) (at_least layout.rows_per_image d.rows.0 l.rows_fit);
          inside = rw (← t) l.inside;
        },
        sym (ap (λ (n : LinearData). n.bytes_in_copy) r.1) ∙ t,
      )

  goes_on : Standard layout format aspect size bufferSize → (m : LinearData) × (linear_checked layout format aspect bufferSize side size ≡ Ok m)
  unfolding several_rows several_images
  goes_on v =
      let row_small : d.row_bytes < 2 ^ 32 = rw wide f.row_small in
      let rows_small : d.rows.0 < 2 ^ 32 = rw high f.rows_small in
      let rows : 1 < d.rows.0 → IsGiven layout.bytes_per_row = λ h. v.rows_given (rw high at h) in
      let images : 1 < d.images → IsGiven layout.bytes_per_row × IsGiven layout.rows_per_image = λ h. v.images_given (rw deep at h) in
      let t = total_is layout d rows images ∙ required_is in
      let row = fits32 layout.bytes_per_row d.row_bytes f.bytes_field row_small in
      let high-rows = fits32 layout.rows_per_image d.rows.0 f.rows_field rows_small in (
        linear_data layout d,
        linear_goes layout format aspect bufferSize side size
            (record {
              row_fits = or_else_lem layout.bytes_per_row d.row_bytes (rw wide v.row_fits);
              rows_fit = or_else_lem layout.rows_per_image d.rows.0 (rw high v.image_fits);
              bytes_given = not_lacking layout.bytes_per_row (several_rows d) (λ e. bytes_needed rows images e);
              rows_given = not_lacking layout.rows_per_image (several_images d) (λ e. (images (needed_images e)).1);
              inside = rw t v.inside;
              stride_fits = let p = product (image_rows_of layout d) (row_stride_of layout d) high-rows row in omega arith;
              image_fits = stacked_fits d.rows.0 (row_stride_of layout d) d.row_bytes rows_small row row_small;
              total_fits = let inside : layout.offset + total_bytes layout d ≤ bufferSize = rw t v.inside in omega (arith, f.buffer_field);
            }),
      )
    where
      needed_images : several_images d ≡ true → 1 < d.images
      needed_images e = ltb-true 1 d.images e

      bytes_needed :
          (1 < d.rows.0 → IsGiven layout.bytes_per_row) → (1 < d.images → IsGiven layout.bytes_per_row × IsGiven layout.rows_per_image)
          → several_rows d ≡ true → IsGiven layout.bytes_per_row
      bytes_needed rows images e = ⊎_elim (λ i. (images (ltb-true 1 d.images i)).0) (λ r. rows (ltb-true 1 d.rows.0 r)) (either (ltb 1 d.images) (ltb 1 d.rows.0) e)

pub linear_rules : LinearRules
linear_rules layout format aspect size bufferSize side i f = record { holds = holds layout format aspect size bufferSize side i f; goes_on = goes_on layout format aspect size bufferSize side i f }
