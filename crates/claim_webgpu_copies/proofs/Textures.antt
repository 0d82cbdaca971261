-- Copies between a buffer, or memory, and a texture against the standard's.
-- Assumes nothing.
use Rattle.std.specs.Prelude.{Ok}
use Rattle.std.proofs.lemmas.Bool.{false_from_ne_true}
use mathlib.Core.Path.{◌≡◌, refl, sym, ◌∙◌}
use mathlib.Core.Bool.{Bool, true, false, ◌||◌, cond}
use mathlib.Core.Logic.{◌⊎◌, inl, inr, ⊎_elim, ◌↔◌}
use Prim.Native.Nat.{ℕ, ◌^◌, ◌<◌}
use native.Mathlib.Omega.{arith}
use lib.Dec.{eqb}
use borrow.Author.Tests.{eqb-true, not-false, not-true}
use Rattle.conditions.proofs.Rules.{not_yes, not_no, both_true}
use Rattle.conditions.proofs.Tables.{every_below, at_below}
use Rattle.flags.specs.Flags.{contains, is_one}
use Rattle.formats.specs.declared.TextureAspect.{TextureAspect}
use Rattle.formats.specs.declared.TextureAspect.TheVariants.{All, StencilOnly, DepthOnly, Plane0, Plane1, Plane2}
use Rattle.formats.specs.Table.{is_depth_stencil}
use Rattle.formats.specs.Aspects.{chosen_aspects}
use Rattle.refusals.specs.declared.CopySide.{CopySide}
use Rattle.refusals.specs.declared.CopySide.TheVariants.{Source, Destination}
use Rattle.refusals.specs.Order.{checked}
use Rattle.records.specs.declared.Texture.{Texture}
use Rattle.records.specs.Bounds.{texture_in_bounds}
use Rattle.records.proofs.Bounded.{buffer_laws}
use Rattle.rule_copy_range.specs.Range.{range_checked}
use Rattle.rule_copy_range.proofs.Accepted.{range_goes, range_went}
use Rattle.rule_linear_data.proofs.Accepted.{linear_goes, linear_went}
use Rattle.rule_formats.specs.Rules.{layout_checks}
use Rattle.copy_buffer_texture.specs.declared.UploadSource.TheVariants as S
use Rattle.copy_buffer_texture.specs.Copy.{Direction, Upload, Download, Copy}
use Rattle.copy_buffer_texture.specs.Plan.{lacks_depth_fact, plan_for}
use Rattle.copy_buffer_texture.specs.Plan as planner
use Rattle.copy_buffer_texture.specs.Laws.{texture_flag, format_checks, buffer_within, buffer_usable, aligned, byte_size, Accepted}
use Rattle.copy_buffer_texture.proofs.Accepted.{every_copy_law, as_uploaded, as_written, as_downloaded}
use Rattle.claim_webgpu_rules.specs.Formats.{Color, names, formats, Known, format_of, any_depth_or_stencil, is_depth_or_stencil, named}
use Rattle.claim_webgpu_rules.specs.WebGpu.{Has, TEXTURE_COPY_SRC, TEXTURE_COPY_DST, Reading, WithLayers, OneLayer, TexelCopyTexture, CopyTexels}
use Rattle.claim_webgpu_rules.specs.Agreement.{bits, GoesOn, InStandard, LinearAgreement, format_rule}
use Rattle.claim_webgpu_rules.proofs.Rows.{below, row_of}
use Rattle.claim_webgpu_rules.proofs.TextureRanges.{Excepted, ranges_by_lem, no_layers_left}
use Rattle.claim_webgpu_rules.proofs.Linears.{linear_rules}
use Rattle.claim_webgpu_rules.proofs.BufferCopies.{or_rest, one_aspect, buffer_copies}
use Rattle.claim_webgpu_copies.specs.Bounds.{TextureInBounds}
use Rattle.claim_webgpu_copies.specs.WholeCopies.{planned_by, planned, GivesPlan, StandardBy, StandardCopy, LengthFits, Compared, DepthRestricted, AspectLacking, BufferExcepted, CopyExcepted, BufferTexture, BufferTextureWithLayers}
use Rattle.claim_webgpu_copies.proofs.Lines.{has_of, has_by, opposite, tested}
use Rattle.claim_webgpu_copies.proofs.Records.{record_bounds}
use Rattle.claim_webgpu_copies.proofs.Buffers.{buffer_bounds}
use Rattle.claim_webgpu_copies.proofs.Small.{figures_of}

-- ---- exceptions, by their tests and by their words

pub texture_bounds : (t : Texture) → ((TextureInBounds t → ⊥) → ⊥) → texture_in_bounds t ≡ true
texture_bounds t kept = tested (texture_in_bounds t) (record_bounds.textures t).1 kept

depth_kept : (c : Copy) → Known c.texture.format → (DepthRestricted c → ⊥) → lacks_depth_fact c.device c.texture.format ≡ false
unfolding lacks_depth_fact
depth_kept c k kept =
    false_from_ne_true _ (λ e. let p = both_true (is_depth_stencil c.texture.format) _ e in kept (sym (row_of c.texture.format k).depth_or_stencil ∙ p.0, not-true _ p.1))

depth_lacks : (c : Copy) → Known c.texture.format → DepthRestricted c → lacks_depth_fact c.device c.texture.format ≡ true
unfolding lacks_depth_fact
depth_lacks c k r = rw ((row_of c.texture.format k).depth_or_stencil, r.0, r.1)

-- an aspect is all, or it is not
all_or : (a : TextureAspect) → (a ≡ All) ⊎ (a ≡ All → ⊥)
all_or All = inl refl
all_or StencilOnly = inr (λ e. let z : ◌≡◌ {A = ℕ} 0 1 = cc in omega arith)
all_or DepthOnly = inr (λ e. let z : ◌≡◌ {A = ℕ} 0 1 = cc in omega arith)
all_or Plane0 = inr (λ e. let z : ◌≡◌ {A = ℕ} 0 1 = cc in omega arith)
all_or Plane1 = inr (λ e. let z : ◌≡◌ {A = ℕ} 0 1 = cc in omega arith)
all_or Plane2 = inr (λ e. let z : ◌≡◌ {A = ℕ} 0 1 = cc in omega arith)

in_standard : (c : Copy) → Known c.texture.format → (AspectLacking c → ⊥) → InStandard c.texture.format c.view.aspect
in_standard c k kept = record { known = k; color = λ e. ⊎_elim (λ a. a) (λ n. absurd (kept (e, n))) (all_or c.view.aspect) }

-- of a color format any other aspect chooses nothing
chooses : TextureAspect → ℕ → Bool
chooses a f = names a Color || (is_depth_or_stencil f || eqb (bits (named (format_of f) a)) 0)

none_chosen : (a : TextureAspect) → every_below (chooses a) 21 ≡ true
unfolding chooses formats format_of any_depth_or_stencil is_depth_or_stencil named
none_chosen All = refl
none_chosen StencilOnly = refl
none_chosen DepthOnly = refl
none_chosen Plane0 = refl
none_chosen Plane1 = refl
none_chosen Plane2 = refl

no_color : (a : TextureAspect) → (a ≡ All → ⊥) → names a Color ≡ false
no_color All other = absurd (other refl)
no_color StencilOnly other = refl
no_color DepthOnly other = refl
no_color Plane0 other = refl
no_color Plane1 other = refl
no_color Plane2 other = refl

abbrev chosen_for : Copy → ℕ
chosen_for c = chosen_aspects c.texture.format c.view.aspect

lacks_aspect : (c : Copy) → Known c.texture.format → AspectLacking c → eqb (chosen_for c) 0 ≡ true
unfolding chooses
lacks_aspect c k (color, other) =
    let f = c.texture.format in
    let a = c.view.aspect in
    let test = at_below (chooses a) 21 (none_chosen a) f (below f k) in
    rw ((row_of f k).chosen a) (or_rest (is_depth_or_stencil f) _ (or_rest (names a Color) _ test (no_color a other)) color)

-- exactly one aspect is not none
one_not_none : (n : ℕ) → is_one n ≡ true → eqb n 0 ≡ false
unfolding is_one
one_not_none n e = false_from_ne_true (eqb n 0) (λ h. let z : n ≡ 0 = eqb-true n 0 h in opposite (is_one 0) (rw z at e) refl)

-- ---- either way

abbrev texture_side_of : Direction → CopySide
texture_side_of (Upload source) = Destination
texture_side_of (Download b) = Source

abbrev linear_side : Direction → CopySide
linear_side (Upload source) = Source
linear_side (Download b) = Destination

-- the texture is read: texture to buffer
abbrev texture_is_read : Direction → Bool
texture_is_read (Upload source) = false
texture_is_read (Download b) = true

-- the standard's words for the flag and the rule of formats
texture_has : (d : Direction) (word : ℕ) → contains word (texture_flag d) ≡ true → Has word (cond (texture_is_read d) TEXTURE_COPY_SRC TEXTURE_COPY_DST)
texture_has (Upload source) word h = has_of word 1 h
texture_has (Download b) word h = has_of word 0 h

texture_by : (d : Direction) (word : ℕ) → Has word (cond (texture_is_read d) TEXTURE_COPY_SRC TEXTURE_COPY_DST) → contains word (texture_flag d) ≡ true
texture_by (Upload source) word h = has_by word 1 h
texture_by (Download b) word h = has_by word 0 h

rule_is : (d : Direction) (format : ℕ) (aspect : TextureAspect) → format_rule (texture_is_read d) format aspect ≡ checked (format_checks d format aspect)
rule_is (Upload source) format aspect = refl
rule_is (Download b) format aspect = refl

-- a buffer within its bounds, and a block of memory, have fewer than 2 ^ 64 bytes
small : (d : Direction) → buffer_within d ≡ true → LengthFits d → byte_size d < 2 ^ 64
small (Upload (S.Buffer b)) h fits = omega (arith, buffer_laws b h)
small (Upload (S.Memory length)) h fits = fits
small (Download b) h fits = omega (arith, buffer_laws b h)

within_by : (d : Direction) → (BufferExcepted d → ⊥) → buffer_within d ≡ true
within_by (Upload (S.Buffer b)) kept = buffer_bounds b kept
within_by (Upload (S.Memory length)) kept = refl
within_by (Download b) kept = buffer_bounds b kept

-- ---- the standard's rules, by the way

module _ (reading : Reading) (c : Copy) where
  -- those that all three have
  abbrev Texels : Direction → Type 0
  Texels d = CopyTexels reading (texture_is_read d) (aligned d) (byte_size d) c.layout c.texture c.view c.size

  standard_by : (d : Direction) → buffer_usable d ≡ true → Texels d → StandardBy reading d c
  standard_by (Upload (S.Buffer b)) u v = record { buffer_usage = has_of b.usage.0 2 (not-false _ (not-true _ u)); texels = v }
  standard_by (Upload (S.Memory length)) u v = v
  standard_by (Download b) u v = record { buffer_usage = has_of b.usage.0 3 u; texels = v }

  texels_of : (d : Direction) → StandardBy reading d c → (buffer_usable d ≡ true) × Texels d
  texels_of (Upload (S.Buffer b)) v = (not_yes _ (not_no _ (has_by b.usage.0 2 v.buffer_usage)), v.texels)
  texels_of (Upload (S.Memory length)) v = (refl, v)
  texels_of (Download b) v = (has_by b.usage.0 3 v.buffer_usage, v.texels)

module _ (reading : Reading) (c : Copy) (r : Compared c) (kept : CopyExcepted c → ⊥) (whole : Excepted reading c.texture c.view c.size → ⊥) where
  abbrev f : ℕ
  f = c.texture.format

  abbrev a : TextureAspect
  a = c.view.aspect

  abbrev way : Direction
  way = c.direction

  in_buffer : buffer_within way ≡ true
  in_buffer = within_by way (λ x. kept (inl x))

  in_texture : texture_in_bounds c.texture ≡ true
  in_texture = texture_bounds c.texture (λ x. kept (inr (inl x)))

  suited : InStandard f a
  suited = in_standard c r.known (λ x. kept (inr (inr (inr x))))

  chosen_is : chosen_for c ≡ bits (named (format_of f) a)
  chosen_is = (row_of f r.known).chosen a

  abbrev rules : ℕ → Type 0
  rules chosen = checked (layout_checks a chosen c.texture c.layout (aligned way)) ≡ Ok tt

  ranges : GoesOn (range_checked c.view c.texture (texture_side_of way) c.size) ↔ TexelCopyTexture reading c.texture c.view c.size
  ranges = ranges_by_lem reading c.view c.texture (texture_side_of way) c.size r.known whole

  linear_rule : TexelCopyTexture reading c.texture c.view c.size → LinearAgreement c.layout f a c.size (byte_size way) (linear_side way)
  linear_rule view =
      linear_rules c.layout f a c.size (byte_size way) (linear_side way) suited (figures_of reading c r suited (small way in_buffer r.length_field) in_texture view)

  standard_of : Accepted c → StandardCopy reading c
  standard_of p =
      let view = ranges.0 (_, _, range_goes c.view c.texture (texture_side_of way) c.size p.range) in
      let suits : rules (bits (named (format_of f) a)) = rw (← chosen_is) p.layout in
      let format = rule_is way f a ∙ p.format in
      standard_by reading c way p.buffer_usage
      (record {
        texture_usage = texture_has way c.texture.usage.0 p.texture_usage;
        view_valid = view;
        suits = (buffer_copies (texture_is_read way) (aligned way) c.texture a c.layout suited).0 (format, suits);
        linear = ((linear_rule view).holds _ (linear_goes c.layout f a (byte_size way) (linear_side way) c.size p.linear)).0;
      })

  accepted_of : StandardCopy reading c → Accepted c
  accepted_of s =
      let u = texels_of reading c way s in
      let v = u.1 in
      let rules = (buffer_copies (texture_is_read way) (aligned way) c.texture a c.layout suited).1 v.suits in
      let one = one_aspect (texture_is_read way) (aligned way) c.texture a c.layout suited v.suits in
      let g = ranges.1 v.view_valid in
      let l = (linear_rule v.view_valid).goes_on v.linear in
      record {
        buffer_bounds = in_buffer;
        texture_bounds = in_texture;
        range = (range_went c.view c.texture (texture_side_of way) c.size g.0 g.1 g.2).0;
        chosen = rw chosen_is (one_not_none _ one);
        buffer_usage = u.0;
        texture_usage = texture_by way c.texture.usage.0 v.texture_usage;
        format = sym (rule_is way f a) ∙ rules.0;
        layout = rw chosen_is rules.1;
        linear = (linear_went c.layout f a (byte_size way) (linear_side way) c.size l.0 l.1).0;
        fact = depth_kept c r.known (λ x. kept (inr (inr (inl x))));
      }

-- ---- whole copies

-- nothing of an accepted copy is excepted
buffer_kept : (d : Direction) → buffer_within d ≡ true → BufferExcepted d → ⊥
buffer_kept (Upload (S.Buffer b)) h out = out ((record_bounds.buffers b).0 h)
buffer_kept (Upload (S.Memory length)) h out = out
buffer_kept (Download b) h out = out ((record_bounds.buffers b).0 h)

kept_by : (c : Copy) → Known c.texture.format → Accepted c → CopyExcepted c → ⊥
kept_by c k p (inl out) = buffer_kept c.direction p.buffer_bounds out
kept_by c k p (inr (inl out)) = out ((record_bounds.textures c.texture).0 p.texture_bounds)
kept_by c k p (inr (inr (inl d))) = opposite _ (depth_lacks c k d) p.fact
kept_by c k p (inr (inr (inr a))) = opposite _ (lacks_aspect c k a) p.chosen

planned_is : (c : Copy) → planned c ≡ planner.planned c
planned_is c = by c.direction refl
  where
    by : (d : Direction) → c.direction ≡ d → planned_by d c ≡ planner.planned c
    by (Upload (S.Buffer b)) way = as_uploaded c b way
    by (Upload (S.Memory length)) way = as_written c length way
    by (Download b) way = as_downloaded c b way

module _ (c : Copy) (r : Compared c) where
  to_standard : (reading : Reading) → (Excepted reading c.texture c.view c.size → ⊥) → GivesPlan (planned c) → StandardCopy reading c × (CopyExcepted c → ⊥)
  to_standard reading whole g =
      let p = ((every_copy_law c).is_accepted g.0 (sym (planned_is c) ∙ g.1)).0 in
      let kept = kept_by c r.known p in
      (standard_of reading c r kept whole p, kept)

  to_plan : (reading : Reading) → (Excepted reading c.texture c.view c.size → ⊥) → StandardCopy reading c → (CopyExcepted c → ⊥) → GivesPlan (planned c)
  to_plan reading whole v kept = (plan_for c, planned_is c ∙ (every_copy_law c).has_plan (accepted_of reading c r kept whole v))

pub copies_agree : BufferTexture
copies_agree c r = (to_standard c r OneLayer (λ x. x), λ v. to_plan c r OneLayer (λ x. x) v.0 v.1)

pub copies_agree_with_layers : BufferTextureWithLayers
copies_agree_with_layers c r = (
  λ g. to_standard c r WithLayers g.1 g.0,
  λ v. let whole = no_layers_left c.texture c.view c.size (texels_of WithLayers c c.direction v.0).1.view_valid in (to_plan c r WithLayers whole v.0 v.1, whole),
)
