-- The examples: the standard's rules one by one, and the planner's answer by the claims on whole copies.
-- Assumes nothing.
use Rattle.std.specs.Prelude.{Some, None}
use Rattle.std.proofs.lemmas.Option.{none-some, same_Some}
use mathlib.Core.Path.{◌≡◌, refl, sym, ap, ◌∙◌}
use mathlib.Core.Bool.{Bool, true, false, cond}
use mathlib.Core.Logic.{◌⊎◌, inl, inr}
use Prim.Native.Nat.{ℕ, ◌+◌, ◌/◌, ◌%◌, ◌^◌, ◌≤◌, ◌<◌}
use native.Mathlib.Omega.{arith}
use native.Mathlib.Nat.{mod-one, zero-mod}
use Rattle.conditions.specs.Conditions.{stop_if}
use Rattle.measures.specs.declared.Extent3d.{Extent3d}
use Rattle.measures.specs.Measure.{multiple}
use Rattle.formats.specs.declared.TextureAspect.{TextureAspect}
use Rattle.formats.specs.declared.TextureAspect.TheVariants.{All, DepthOnly}
use Rattle.mip_levels.specs.declared.TextureDimension.TheVariants.{D2}
use Rattle.mip_levels.specs.Level as levels
use Rattle.formats.specs.Table as sheet
use Rattle.records.specs.declared.Device.{Device}
use Rattle.records.specs.declared.Texture.{Texture}
use Rattle.records.specs.Bounds as records
use Rattle.records.specs.Bounds.{buffer_in_bounds, texture_in_bounds}
use Rattle.copy_buffer_texture.specs.Copy.{Copy}
use Rattle.claim_webgpu_rules.specs.Formats.{Color, formats, format_of, any_depth_or_stencil, is_depth_or_stencil, named, dimension_of, copy_compatible}
use Rattle.claim_webgpu_rules.specs.WebGpu.{Has, logical_size, to_block, physical_subresource_size, CopiedWhole, Reading, WithLayers, OneLayer, IsWhole, TexelCopyTexture, required_bytes_in_copy, taken, valid_one, block_bytes, LinearBox, CopyTexels}
use Rattle.claim_webgpu_rules.specs.Agreement.{MovesWithin, SomeLayers}
use Rattle.claim_webgpu_copies.specs.Bounds.{BufferInBounds, TextureInBounds}
use Rattle.claim_webgpu_copies.specs.WholeCopies.{planned, GivesPlan, StandardCopy, LengthFits, Compared, BufferExcepted, CopyExcepted, Rules}
use Rattle.claim_webgpu_copies.specs.Examples.{device, buffer, extent, texture, view_at, StandardBuffers, Way, FromBuffer, FromMemory, IntoBuffer, direction, texel, too_wide, too_large, depthless, color_depth, one_layer, no_layer, starred, OnlyWithoutLayers, side, OnlyPlanned, Examples}
use Rattle.claim_webgpu_copies.proofs.Lines.{opposite}
use Rattle.claim_webgpu_copies.proofs.Records.{record_bounds}
use Rattle.claim_webgpu_copies.proofs.Buffers.{buffer_to_buffer_lem}
use Rattle.claim_webgpu_copies.proofs.Textures.{copies_agree, copies_agree_with_layers}
use Rattle.claim_webgpu_copies.proofs.TextureCopies.{textures_agree, textures_agree_with_layers, onto_itself_parts}

-- ---- between buffers

large : StandardBuffers (buffer 268435457 4) (buffer 4 8)
large = record { different = refl; src_usage = refl; dst_usage = refl; size_aligned = refl; src_aligned = refl; dst_aligned = refl; src_inside = omega arith; dst_inside = omega arith }

indexed : StandardBuffers (buffer 4 20) (buffer 4 40)
indexed = record { different = refl; src_usage = refl; dst_usage = refl; size_aligned = refl; src_aligned = refl; dst_aligned = refl; src_inside = omega arith; dst_inside = omega arith }

too_large_lem : (usage : ℕ) → BufferInBounds (buffer 268435457 usage) → ⊥
too_large_lem usage b = omega (arith, b.size)

-- ---- a view of the first level at x 0, y 0, of blocks of one texel

first_level :
    (reading : Reading) (format dimension z : ℕ) (size copied : Extent3d) (aspect : TextureAspect) → (format_of format).block_width_of ≡ 1 → (format_of format).block_height_of ≡ 1
    → let t = texture format dimension size in
    let level = physical_subresource_size t 0 in
    (CopiedWhole t → IsWhole reading level copied) → copied.width.0 ≤ level.width.0 → copied.height.0 ≤ level.height.0 → z + copied.depth_or_array_layers ≤ level.depth_or_array_layers
    → TexelCopyTexture reading t (view_at z aspect) copied
first_level reading format dimension z size copied aspect w h whole x y deep =
    record {
      level = omega arith;
      x_aligned = rw w;
      y_aligned = rw h;
      whole = whole;
      range = record { x = omega arith; y = omega arith; z = deep; width = rw w (mod-one _); height = rw h (mod-one _) };
    }

-- a color format of one sample is not copied whole
not_whole : {C : Type 0} (size : Extent3d) → CopiedWhole (texture 0 2 size) → C
unfolding formats format_of any_depth_or_stencil is_depth_or_stencil
not_whole size (inl e) = opposite false e refl
not_whole size (inr h) = absurd (omega arith)

one_texel : (reading : Reading) → IsWhole reading (extent 1 1 1) (extent 1 1 1)
one_texel WithLayers = refl
one_texel OneLayer = (refl, refl)

-- ---- between a buffer, or memory, and a texture

abbrev is_read : Way → Bool
is_read FromBuffer = false
is_read FromMemory = false
is_read IntoBuffer = true

usage : (reads : Bool) → Has 3 (cond reads 1 2)
usage true = refl
usage false = refl

-- with the flags, and no bytes per row, the rules of texels are those of the view, the aspect and the linear data
texels_hold :
    (reading : Reading) (reads aligned : Bool) (way : Way) (d : Device) (bytes format : ℕ) (size : Extent3d) (z : ℕ) (aspect : TextureAspect) (copied : Extent3d)
    → TexelCopyTexture reading (texture format 2 size) (view_at z aspect) copied → valid_one reads (taken format aspect) ≡ true
    → LinearBox (texture format 2 size) aspect (texel way d bytes format size z aspect copied).layout copied bytes
    → CopyTexels reading reads aligned bytes (texel way d bytes format size z aspect copied).layout (texture format 2 size) (view_at z aspect) copied
texels_hold reading reads aligned way d bytes format size z aspect copied v a l =
    record {
      texture_usage = usage reads;
      view_valid = v;
      suits = record { one_sample = refl; allowed = a; layout_aligned = λ e. record { depth_stencil = λ e. refl; other = λ e. zero-mod (block_bytes format aspect); row = λ n e. absurd (none-some n e) } };
      linear = l;
    }

texel_holds :
    (reading : Reading) (way : Way) (d : Device) (bytes format : ℕ) (size : Extent3d) (z : ℕ) (aspect : TextureAspect) (copied : Extent3d)
    → TexelCopyTexture reading (texture format 2 size) (view_at z aspect) copied → valid_one (is_read way) (taken format aspect) ≡ true
    → LinearBox (texture format 2 size) aspect (texel way d bytes format size z aspect copied).layout copied bytes
    → StandardCopy reading (texel way d bytes format size z aspect copied)
texel_holds reading FromBuffer d bytes format size z aspect copied v a l = record { buffer_usage = refl; texels = texels_hold reading false true FromBuffer d bytes format size z aspect copied v a l }
texel_holds reading FromMemory d bytes format size z aspect copied v a l = texels_hold reading false false FromMemory d bytes format size z aspect copied v a l
texel_holds reading IntoBuffer d bytes format size z aspect copied v a l = record { buffer_usage = refl; texels = texels_hold reading true true IntoBuffer d bytes format size z aspect copied v a l }

-- one row of one image needs no strides
one_row : (way : Way) (bytes format : ℕ) (size : Extent3d) (aspect : TextureAspect) (d : Device) (z : ℕ) (copied : Extent3d) → copied.height.0 ≡ 1 → copied.depth_or_array_layers ≤ 1 → (format_of format).block_height_of ≡ 1
    → 0 + required_bytes_in_copy (texel way d bytes format size z aspect copied).layout (copied.width.0 / (format_of format).block_width_of) (copied.height.0 / (format_of format).block_height_of) (block_bytes format aspect) copied.depth_or_array_layers ≤ bytes
    → LinearBox (texture format 2 size) aspect (texel way d bytes format size z aspect copied).layout copied bytes
one_row way bytes format size aspect d z copied h k e fits =
    let one : copied.height.0 / (format_of format).block_height_of ≡ 1 = rw (h, e) in
    record { rows_given = λ m. absurd (omega (arith, one)); images_given = λ m. absurd (omega arith); row_fits = tt; image_fits = tt; inside = fits }

allowed : (way : Way) → (valid_one (is_read way) (taken 0 All) ≡ true) × (valid_one (is_read way) (taken 16 All) ≡ true) × (valid_one (is_read way) (taken 0 DepthOnly) ≡ true) × (valid_one (is_read way) (taken 15 All) ≡ true)
unfolding formats format_of any_depth_or_stencil is_depth_or_stencil named taken
allowed FromBuffer = (refl, refl, refl, refl)
allowed FromMemory = (refl, refl, refl, refl)
allowed IntoBuffer = (refl, refl, refl, refl)

module _ (reading : Reading) (way : Way) where
  wide_holds : StandardCopy reading (too_wide way)
  unfolding formats format_of any_depth_or_stencil is_depth_or_stencil named dimension_of logical_size to_block physical_subresource_size taken block_bytes required_bytes_in_copy
  wide_holds =
      texel_holds reading way (device true true) 1 0 (extent 8193 1 1) 0 All (extent 1 1 1)
      (first_level reading 0 2 0 (extent 8193 1 1) (extent 1 1 1) All refl refl (not_whole (extent 8193 1 1)) (omega arith) (omega arith) (omega arith))
      (allowed way).0 (one_row way 1 0 (extent 8193 1 1) All (device true true) 0 (extent 1 1 1) refl (omega arith) refl (omega arith))

  large_holds : StandardCopy reading (too_large way)
  unfolding formats format_of any_depth_or_stencil is_depth_or_stencil named dimension_of logical_size to_block physical_subresource_size taken block_bytes required_bytes_in_copy
  large_holds =
      texel_holds reading way (device true true) 268435457 0 (extent 1 1 1) 0 All (extent 1 1 1)
      (first_level reading 0 2 0 (extent 1 1 1) (extent 1 1 1) All refl refl (not_whole (extent 1 1 1)) (omega arith) (omega arith) (omega arith))
      (allowed way).0 (one_row way 268435457 0 (extent 1 1 1) All (device true true) 0 (extent 1 1 1) refl (omega arith) refl (omega arith))

  depth_holds : StandardCopy reading (depthless way)
  unfolding formats format_of any_depth_or_stencil is_depth_or_stencil named dimension_of logical_size to_block physical_subresource_size taken block_bytes required_bytes_in_copy
  depth_holds =
      texel_holds reading way (device false true) 2 16 (extent 1 1 1) 0 All (extent 1 1 1)
      (first_level reading 16 2 0 (extent 1 1 1) (extent 1 1 1) All refl refl (λ w. one_texel reading) (omega arith) (omega arith) (omega arith))
      (allowed way).1 (one_row way 2 16 (extent 1 1 1) All (device false true) 0 (extent 1 1 1) refl (omega arith) refl (omega arith))

  color_holds : StandardCopy reading (color_depth way)
  unfolding formats format_of any_depth_or_stencil is_depth_or_stencil named dimension_of logical_size to_block physical_subresource_size taken block_bytes required_bytes_in_copy
  color_holds =
      texel_holds reading way (device true true) 1 0 (extent 1 1 1) 0 DepthOnly (extent 1 1 1)
      (first_level reading 0 2 0 (extent 1 1 1) (extent 1 1 1) DepthOnly refl refl (not_whole (extent 1 1 1)) (omega arith) (omega arith) (omega arith))
      (allowed way).2 (one_row way 1 0 (extent 1 1 1) DepthOnly (device true true) 0 (extent 1 1 1) refl (omega arith) refl (omega arith))

-- the planner's refusal, by what is excepted
refused_by : (c : Copy) → Compared c → CopyExcepted c → GivesPlan (planned c) → ⊥
refused_by c r x g = ((copies_agree c r).0 g).1 x

fits : (way : Way) (bytes : ℕ) → bytes < 2 ^ 64 → LengthFits (direction way bytes)
fits FromBuffer bytes h = tt
fits FromMemory bytes h = h
fits IntoBuffer bytes h = tt

compared : (c : Copy) → c.texture.format < 21 → c.layout.bytes_per_row ≡ None → c.layout.rows_per_image ≡ None → LengthFits c.direction → Compared c
unfolding formats
compared c k b r l = record { known = k; bytes_field = rw b tt; rows_field = rw r tt; length_field = l }

too_wide_lem : (layers : ℕ) → TextureInBounds (texture 0 2 (extent 8193 1 layers)) → ⊥
unfolding dimension_of
too_wide_lem layers b = omega (arith, b.size.0.1)

color_excepted : (way : Way) → CopyExcepted (color_depth way)
unfolding formats format_of any_depth_or_stencil is_depth_or_stencil
color_excepted way = inr (inr (inr (refl, λ e. let z : ◌≡◌ {A = ℕ} 0 1 = cc in omega arith)))

depth_excepted : (way : Way) → CopyExcepted (depthless way)
unfolding formats format_of any_depth_or_stencil is_depth_or_stencil
depth_excepted way = inr (inr (inl (refl, refl)))

-- ---- some layers

module _ (way : Way) where
  layer_holds : StandardCopy OneLayer (one_layer way)
  unfolding formats format_of any_depth_or_stencil is_depth_or_stencil named dimension_of logical_size to_block physical_subresource_size taken block_bytes required_bytes_in_copy
  layer_holds =
      texel_holds OneLayer way (device true true) 1 15 (extent 1 1 2) 1 All (extent 1 1 1)
      (first_level OneLayer 15 2 1 (extent 1 1 2) (extent 1 1 1) All refl refl (λ w. (refl, refl)) (omega arith) (omega arith) (omega arith))
      (allowed way).3 (one_row way 1 15 (extent 1 1 2) All (device true true) 1 (extent 1 1 1) refl (omega arith) refl (omega arith))

  none_holds : StandardCopy OneLayer (no_layer way)
  unfolding formats format_of any_depth_or_stencil is_depth_or_stencil named dimension_of logical_size to_block physical_subresource_size taken block_bytes required_bytes_in_copy
  none_holds =
      texel_holds OneLayer way (device true true) 0 15 (extent 1 1 2) 0 All (extent 1 1 0)
      (first_level OneLayer 15 2 0 (extent 1 1 2) (extent 1 1 0) All refl refl (λ w. (refl, refl)) (omega arith) (omega arith) (omega arith))
      (allowed way).3 (one_row way 0 15 (extent 1 1 2) All (device true true) 0 (extent 1 1 0) refl (omega arith) refl (omega arith))

whole_rows : (n : ℕ) → Some 256 ≡ Some n → n % 256 ≡ 0
whole_rows n e = rw (← same_Some 256 n e)

starred_holds : StandardCopy OneLayer (starred IntoBuffer)
unfolding formats format_of any_depth_or_stencil is_depth_or_stencil named dimension_of logical_size to_block physical_subresource_size taken block_bytes required_bytes_in_copy
starred_holds =
    record {
      buffer_usage = refl;
      texels =
          record {
            texture_usage = refl;
            view_valid = first_level OneLayer 19 2 1 (extent 8 8 2) (extent 8 8 1) All refl refl (λ w. (refl, refl)) (omega arith) (omega arith) (omega arith);
            suits = record { one_sample = refl; allowed = refl; layout_aligned = λ a. record { depth_stencil = λ e. refl; other = λ e. refl; row = whole_rows } };
            linear = record { rows_given = λ h. tt; images_given = λ h. absurd (omega arith); row_fits = omega arith; image_fits = tt; inside = omega arith };
          };
    }

-- nothing is excepted of a copy of document 01's bounds with both facts and all aspects
buffer_kept : (way : Way) (bytes : ℕ) → buffer_in_bounds (buffer bytes 12) ≡ true → BufferExcepted (direction way bytes) → ⊥
buffer_kept FromBuffer bytes h out = out ((record_bounds.buffers (buffer bytes 12)).0 h)
buffer_kept FromMemory bytes h out = out
buffer_kept IntoBuffer bytes h out = out ((record_bounds.buffers (buffer bytes 12)).0 h)

kept : (c : Copy) → (BufferExcepted c.direction → ⊥) → texture_in_bounds c.texture ≡ true → c.device ≡ device true true → c.view.aspect ≡ All → CopyExcepted c → ⊥
kept c b t d a (inl out) = b out
kept c b t d a (inr (inl out)) = out ((record_bounds.textures c.texture).0 t)
kept c b t d a (inr (inr (inl r))) = opposite true refl (sym (ap (λ (x : Device). x.depth_texture_and_buffer_copies) d) ∙ r.1)
kept c b t d a (inr (inr (inr r))) = r.1 a

only_without :
    (c : Copy) → Compared c → (CopyExcepted c → ⊥) → StandardCopy OneLayer c → SomeLayers c.texture c.view c.size → OnlyWithoutLayers c
only_without c r x v some =
    record { plans = (copies_agree c r).1 (v, x); accepted = v; refused = λ w. ((copies_agree_with_layers c r).1 (w, x)).1 some }

some_layers : (way : Way) → SomeLayers (one_layer way).texture (one_layer way).view (one_layer way).size × SomeLayers (no_layer way).texture (no_layer way).view (no_layer way).size × SomeLayers (starred way).texture (starred way).view (starred way).size
unfolding formats format_of any_depth_or_stencil is_depth_or_stencil dimension_of logical_size to_block physical_subresource_size
some_layers way = ((inl refl, λ e. omega arith), (inl refl, λ e. omega arith), (inl refl, λ e. omega arith))

-- ---- the records of the examples that are accepted

record Bounded : Type 0 where
  stencil : texture_in_bounds (texture 15 2 (extent 1 1 2)) ≡ true
  depth : texture_in_bounds (texture 19 2 (extent 8 8 2)) ≡ true
  volume : texture_in_bounds (texture 0 3 (extent 1 1 2)) ≡ true
  larger : texture_in_bounds (texture 0 3 (extent 4 4 4)) ≡ true
  line : texture_in_bounds (texture 0 1 (extent 1 1 1)) ≡ true
  texel : texture_in_bounds (texture 0 2 (extent 1 1 1)) ≡ true
  one : buffer_in_bounds (buffer 1 12) ≡ true
  none : buffer_in_bounds (buffer 0 12) ≡ true
  many : buffer_in_bounds (buffer 4096 12) ≡ true

bounded : Bounded
unfolding records.texture_in_bounds records.fields_in_bounds records.samples_in_bounds records.format_suits records.buffer_in_bounds records.within records.size_in_bounds records.levels_in_bounds records.mip_side records.may_be_multisampled records.dimension_suits records.sides_whole records.planes_suit levels.texture_dimension levels.max_mip_levels levels.halvings sheet.is_format sheet.formats sheet.format_row sheet.block_dimensions sheet.is_multi_planar multiple stop_if
bounded = record { stencil = refl; depth = refl; volume = refl; larger = refl; line = refl; texel = refl; one = refl; none = refl; many = refl }

-- ---- between textures

-- every rule but the last, of a copy from z 0 to z 1 of one texture or of two that are alike
rules_hold :
    (reading : Reading) (other format dimension : ℕ) (size copied : Extent3d) → (format_of format).block_width_of ≡ 1 → (format_of format).block_height_of ≡ 1 → copy_compatible format format ≡ true
    → named (format_of format) All ≡ (format_of format).parts
    → let level = physical_subresource_size (texture format dimension size) 0 in
    (CopiedWhole (texture format dimension size) → IsWhole reading level copied) → copied.width.0 ≤ level.width.0 → copied.height.0 ≤ level.height.0 → 1 + copied.depth_or_array_layers ≤ level.depth_or_array_layers
    → Rules 0 other (side (texture format dimension size) 0) (side (texture format dimension size) 1) copied reading
rules_hold reading other format dimension size copied w h compatible all whole x y deep =
    let valid : (z : ℕ) → z ≤ 1 → TexelCopyTexture reading (texture format dimension size) (view_at z All) copied = λ z l. first_level reading format dimension z size copied All w h whole x y (omega arith) in
    record { src_valid = valid 0 (omega arith); dst_valid = valid 1 (omega arith); src_usage = refl; dst_usage = refl; samples = refl; compatible = compatible; src_aspects = all; dst_aspects = all }

-- one level, at two z, of a texture without layers
moves : (t : Texture) → (dimension_of t.dimension ≡ D2 → ⊥) → t.format ≡ 0 → MovesWithin t (view_at 0 All) (view_at 1 All)
unfolding formats format_of named
moves t u f = record { unlayered = u; level = refl; moved = λ e. omega arith; shared = rw f (Color, inl refl, inl refl) }

in_both : (t : Texture) → texture_in_bounds t ≡ true → ((TextureInBounds t → ⊥) ⊎ (TextureInBounds t → ⊥)) → ⊥
in_both t e (inl out) = out ((record_bounds.textures t).0 e)
in_both t e (inr out) = out ((record_bounds.textures t).0 e)

only_planned : (t : Texture) (size : Extent3d) → t.format ≡ 0 → texture_in_bounds t ≡ true → (dimension_of t.dimension ≡ D2 → ⊥) → Rules 0 0 (side t 0) (side t 1) size OneLayer → OnlyPlanned t size
unfolding formats
only_planned t size f b u v =
    let known : t.format < 21 = omega arith in
    let m = moves t u f in (
      (textures_agree 0 0 (side t 0) (side t 1) size known known).1 (v, λ e. inr m, in_both t b),
      λ reading w. onto_itself_parts 0 0 (side t 0) (side t 1) size reading refl m w,
    )

not_layered : (dimension_of 3 ≡ D2 → ⊥) × (dimension_of 1 ≡ D2 → ⊥)
unfolding dimension_of
not_layered = (λ e. let z : ◌≡◌ {A = ℕ} 0 1 = cc in omega arith, λ e. let z : ◌≡◌ {A = ℕ} 0 1 = cc in omega arith)

volume_rules : Rules 0 0 (side (texture 0 3 (extent 1 1 2)) 0) (side (texture 0 3 (extent 1 1 2)) 1) (extent 1 1 1) OneLayer
unfolding formats format_of named dimension_of logical_size to_block physical_subresource_size copy_compatible
volume_rules = rules_hold OneLayer 0 0 3 (extent 1 1 2) (extent 1 1 1) refl refl refl refl (λ w. (refl, refl)) (omega arith) (omega arith) (omega arith)

starred_rules : Rules 0 0 (side (texture 0 3 (extent 4 4 4)) 0) (side (texture 0 3 (extent 4 4 4)) 1) (extent 4 4 2) OneLayer
unfolding formats format_of named dimension_of logical_size to_block physical_subresource_size copy_compatible
starred_rules = rules_hold OneLayer 0 0 3 (extent 4 4 4) (extent 4 4 2) refl refl refl refl (λ w. (refl, refl)) (omega arith) (omega arith) (omega arith)

line_rules : Rules 0 0 (side (texture 0 1 (extent 1 1 1)) 0) (side (texture 0 1 (extent 1 1 1)) 1) (extent 1 1 0) OneLayer
unfolding formats format_of named dimension_of logical_size to_block physical_subresource_size copy_compatible
line_rules = rules_hold OneLayer 0 0 1 (extent 1 1 1) (extent 1 1 0) refl refl refl refl (λ w. (refl, refl)) (omega arith) (omega arith) (omega arith)

wide_rules : (reading : Reading) → Rules 0 1 (side (texture 0 2 (extent 8193 1 2)) 0) (side (texture 0 2 (extent 8193 1 2)) 1) (extent 1 1 1) reading
unfolding formats format_of named dimension_of logical_size to_block physical_subresource_size copy_compatible
wide_rules reading = rules_hold reading 1 0 2 (extent 8193 1 2) (extent 1 1 1) refl refl refl refl (not_whole (extent 8193 1 2)) (omega arith) (omega arith) (omega arith)

layer_rules : Rules 0 1 (side (texture 15 2 (extent 1 1 2)) 0) (side (texture 15 2 (extent 1 1 2)) 1) (extent 1 1 1) OneLayer
unfolding formats format_of named dimension_of logical_size to_block physical_subresource_size copy_compatible
layer_rules = rules_hold OneLayer 1 15 2 (extent 1 1 2) (extent 1 1 1) refl refl refl refl (λ w. (refl, refl)) (omega arith) (omega arith) (omega arith)

-- two textures are not one
two : {C : Type 0} → ◌≡◌ {A = Bool} false true → C
two e = opposite false e refl

-- ---- all of them

below : (0 < 21) × (15 < 21) × (16 < 21) × (19 < 21)
below = (omega arith, omega arith, omega arith, omega arith)

pub examples : Examples
unfolding formats
examples =
    let stencil = bounded.stencil in
    let layered = below.1 in
    record {
      large = (large, λ g. ((buffer_to_buffer_lem (device true true) 0 1 (buffer 268435457 4) (buffer 4 8) 0 0 (Some 4)).0 g).1 (inl (too_large_lem 4)));
      index = (indexed, λ g. ((buffer_to_buffer_lem (device true false) 0 1 (buffer 4 20) (buffer 4 40) 0 0 (Some 4)).0 g).1 (inr (inr (record { fact = refl; index = inl refl; shared = inr (inl refl) }))));
      wide_texture = λ way. record { accepted = λ reading. wide_holds reading way; refused = refused_by (too_wide way) (compared (too_wide way) below.0 refl refl (fits way 1 (omega arith))) (inr (inl (too_wide_lem 1))) };
      large_buffer = (
        record { accepted = λ reading. large_holds reading FromBuffer; refused = refused_by (too_large FromBuffer) (compared (too_large FromBuffer) below.0 refl refl tt) (inl (too_large_lem 12)) },
        record { accepted = λ reading. large_holds reading IntoBuffer; refused = refused_by (too_large IntoBuffer) (compared (too_large IntoBuffer) below.0 refl refl tt) (inl (too_large_lem 12)) },
      );
      large_memory = (
        (copies_agree (too_large FromMemory) (compared (too_large FromMemory) below.0 refl refl (omega arith))).1 (large_holds OneLayer FromMemory, kept (too_large FromMemory) (λ out. out) bounded.texel refl refl),
        λ reading. large_holds reading FromMemory,
      );
      depth = λ way. record { accepted = λ reading. depth_holds reading way; refused = refused_by (depthless way) (compared (depthless way) below.2 refl refl (fits way 2 (omega arith))) (depth_excepted way) };
      color = λ way. record { accepted = λ reading. color_holds reading way; refused = refused_by (color_depth way) (compared (color_depth way) below.0 refl refl (fits way 1 (omega arith))) (color_excepted way) };
      wide_textures = (λ reading. record { rules = wide_rules reading; disjoint = two }, λ g. ((textures_agree 0 1 _ _ _ below.0 below.0).0 g).2 (inl (too_wide_lem 2)));
      layer = λ way. only_without (one_layer way) (compared (one_layer way) layered refl refl (fits way 1 (omega arith))) (kept (one_layer way) (buffer_kept way 1 bounded.one) stencil refl refl) (layer_holds way) (some_layers way).0;
      layers = λ way. only_without (no_layer way) (compared (no_layer way) layered refl refl (fits way 0 (omega arith))) (kept (no_layer way) (buffer_kept way 0 bounded.none) stencil refl refl) (none_holds way) (some_layers way).1;
      starred_layer = only_without (starred IntoBuffer) (record { known = below.3; bytes_field = omega arith; rows_field = tt; length_field = tt }) (kept (starred IntoBuffer) (buffer_kept IntoBuffer 4096 bounded.many) bounded.depth refl refl) starred_holds (some_layers IntoBuffer).2;
      texture_layers = (
        (textures_agree 0 1 _ _ _ layered layered).1 (layer_rules, two, in_both (texture 15 2 (extent 1 1 2)) stencil),
        record { rules = layer_rules; disjoint = two },
        λ v. ((textures_agree_with_layers 0 1 _ _ _ layered layered).1 (v.rules, two, in_both (texture 15 2 (extent 1 1 2)) stencil)).1 (inl (some_layers IntoBuffer).0),
      );
      volume = only_planned (texture 0 3 (extent 1 1 2)) (extent 1 1 1) refl bounded.volume not_layered.0 volume_rules;
      starred_volume = only_planned (texture 0 3 (extent 4 4 4)) (extent 4 4 2) refl bounded.larger not_layered.0 starred_rules;
      line = only_planned (texture 0 1 (extent 1 1 1)) (extent 1 1 0) refl bounded.line not_layered.1 line_rules;
    }
