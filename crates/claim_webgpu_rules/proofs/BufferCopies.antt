-- Formats, aspects and alignment of copies with a buffer against the standard's tables.
-- Assumes nothing.
use Rattle.std.specs.Prelude.{Option, Some, None, Result, Ok, Err}
use mathlib.Core.Path.{◌≡◌, refl, sym, ap, ◌∙◌}
use mathlib.Core.Bool.{Bool, true, false, not, ◌&&◌, ◌||◌, cond}
use Prim.Native.Nat.{ℕ, ◌%◌}
use native.Mathlib.Omega.{arith}
use lib.Dec.{eqb}
use borrow.Author.Tests.{eqb-true, eq-eqb, not-true, not-false}
use Rattle.conditions.proofs.Rules.{both_true, not_both}
use Rattle.conditions.proofs.Tables.{every_below, at_below}
use Rattle.measures.specs.Measure.{multiple, or_else}
use Rattle.flags.specs.Flags.{is_one}
use Rattle.formats.specs.declared.TextureAspect.{TextureAspect}
use Rattle.formats.specs.declared.TextureAspect.TheVariants.{All, StencilOnly, DepthOnly, Plane0, Plane1, Plane2}
use Rattle.formats.specs.Table.{is_depth_stencil}
use Rattle.formats.specs.Aspects.{block_copy_size}
use Rattle.refusals.specs.Order.{Checks, refuse_if, first, decided, checked}
use Rattle.refusals.proofs.Order.{all_pass, none_in, test_fails, test_off, checked_passes}
use Rattle.records.specs.declared.Texture.{Texture}
use Rattle.records.specs.declared.TexelCopyBufferLayout.{TexelCopyBufferLayout}
use Rattle.rule_formats.specs.Rules.{is_depth_only, src_format_checks, dst_format_checks, offset_alignment, is_unaligned_row, layout_checks}
use Rattle.claim_webgpu_rules.specs.Formats.{none, formats, format_of, any_depth_or_stencil, is_depth_or_stencil, named}
use Rattle.claim_webgpu_rules.specs.WebGpu.{taken, valid_one, bytes_of_one, block_bytes, AlignedLayout, TextureBufferCopy}
use Rattle.claim_webgpu_rules.specs.Agreement.{bits, format_rule, InStandard, BufferCopies}
use Rattle.claim_webgpu_rules.proofs.Rows.{same, same_is, below, row_of, taken_is}
use Rattle.refusals.specs.declared.TransferError.{TransferError}

-- ---- the tables, by one test that is computed of every format and aspect

goes_b : Result Unit TransferError → Bool
goes_b (Ok tt) = true
goes_b (Err e) = false

-- a color format, and another aspect than all
lacking : TextureAspect → ℕ → Bool
lacking All format = false
lacking StencilOnly format = not (is_depth_or_stencil format)
lacking DepthOnly format = not (is_depth_or_stencil format)
lacking Plane0 format = not (is_depth_or_stencil format)
lacking Plane1 format = not (is_depth_or_stencil format)
lacking Plane2 format = not (is_depth_or_stencil format)

-- the format's rule and one aspect are what the standard allows, and but for depth-or-stencil a block has bytes
agrees : Bool → TextureAspect → ℕ → Bool
agrees reads aspect format =
    lacking aspect format
    || (same (goes_b (format_rule reads format aspect) && is_one (bits (named (format_of format) aspect))) (valid_one reads (taken format aspect))
    && (is_depth_or_stencil format || not (eqb (bytes_of_one (named (format_of format) aspect)) none)))

all_agree : (reads : Bool) (aspect : TextureAspect) → every_below (agrees reads aspect) 21 ≡ true
unfolding agrees lacking goes_b is_one refuse_if first decided src_format_checks dst_format_checks is_depth_only formats format_of any_depth_or_stencil is_depth_or_stencil named taken
all_agree true All = refl
all_agree true StencilOnly = refl
all_agree true DepthOnly = refl
all_agree true Plane0 = refl
all_agree true Plane1 = refl
all_agree true Plane2 = refl
all_agree false All = refl
all_agree false StencilOnly = refl
all_agree false DepthOnly = refl
all_agree false Plane0 = refl
all_agree false Plane1 = refl
all_agree false Plane2 = refl

-- ---- what the test says of one format and aspect

pub or_rest : (s t : Bool) → (s || t) ≡ true → s ≡ false → t ≡ true
or_rest true t e f = let z : ◌≡◌ {A = ℕ} 0 1 = cc in absurd (omega arith)
or_rest false t e f = e

depth_stencil : (format : ℕ) (aspect : TextureAspect) → (is_depth_or_stencil format ≡ false → aspect ≡ All) → (aspect ≡ All → ⊥) → not (is_depth_or_stencil format) ≡ false
depth_stencil format aspect color other = go (is_depth_or_stencil format) refl
  where
    go : (t : Bool) → is_depth_or_stencil format ≡ t → not t ≡ false
    go true e = refl
    go false e = absurd (other (color e))

not_lacking : (format : ℕ) (aspect : TextureAspect) → InStandard format aspect → lacking aspect format ≡ false
unfolding lacking
not_lacking format All s = refl
not_lacking format StencilOnly s = depth_stencil format StencilOnly s.color (λ e. let z : ◌≡◌ {A = ℕ} 0 1 = cc in omega arith)
not_lacking format DepthOnly s = depth_stencil format DepthOnly s.color (λ e. let z : ◌≡◌ {A = ℕ} 0 1 = cc in omega arith)
not_lacking format Plane0 s = depth_stencil format Plane0 s.color (λ e. let z : ◌≡◌ {A = ℕ} 0 1 = cc in omega arith)
not_lacking format Plane1 s = depth_stencil format Plane1 s.color (λ e. let z : ◌≡◌ {A = ℕ} 0 1 = cc in omega arith)
not_lacking format Plane2 s = depth_stencil format Plane2 s.color (λ e. let z : ◌≡◌ {A = ℕ} 0 1 = cc in omega arith)

record Agrees (reads : Bool) (format : ℕ) (aspect : TextureAspect) : Type 0 where
  kind : is_depth_stencil format ≡ is_depth_or_stencil format
  allowed : (goes_b (format_rule reads format aspect) && is_one (bits (named (format_of format) aspect))) ≡ valid_one reads (taken format aspect)
  bytes : is_depth_or_stencil format ≡ false → or_else (block_copy_size format aspect) 1 ≡ block_bytes format aspect

some_bytes : (n : ℕ) → not (eqb n none) ≡ true → or_else (cond (eqb n none) None (Some n)) 1 ≡ n
unfolding or_else
some_bytes n e = rw (not-true (eqb n none) e)

agreed : (reads : Bool) (format : ℕ) (aspect : TextureAspect) → InStandard format aspect → Agrees reads format aspect
unfolding agrees block_bytes
agreed reads format aspect s =
    let test = at_below (agrees reads aspect) 21 (all_agree reads aspect) format (below format s.known) in
    let parts = both_true (same (goes_b (format_rule reads format aspect) && is_one (bits (named (format_of format) aspect))) (valid_one reads (taken format aspect))) (is_depth_or_stencil format || not (eqb (bytes_of_one (named (format_of format) aspect)) none)) (or_rest (lacking aspect format) _ test (not_lacking format aspect s)) in
    let row = row_of format s.known in
    record {
      kind = row.depth_or_stencil;
      allowed = same_is _ _ parts.0;
      bytes = λ e.
          ap (λ o. or_else o 1) (row.bytes aspect)
          ∙ some_bytes (bytes_of_one (named (format_of format) aspect)) (or_rest (is_depth_or_stencil format) _ parts.1 e)
          ∙ ap bytes_of_one (sym (taken_is format aspect s));
    }

goes_of : (c : Result Unit TransferError) → goes_b c ≡ true → c ≡ (Ok tt)
unfolding goes_b
goes_of (Ok tt) e = refl
goes_of (Err why) e = let z : ◌≡◌ {A = ℕ} 0 1 = cc in absurd (omega arith)

goes_by : (c : Result Unit TransferError) → c ≡ (Ok tt) → goes_b c ≡ true
unfolding goes_b
goes_by c e = rw e

-- ---- alignment

rest_of : (n m : ℕ) → multiple n m ≡ true → n % m ≡ 0
unfolding multiple
rest_of n m e = eqb-true (n % m) 0 e

no_rest : (n m : ℕ) → n % m ≡ 0 → multiple n m ≡ true
unfolding multiple
no_rest n m e = eq-eqb (n % m) 0 e

row_whole : (o : Option ℕ) → is_unaligned_row o ≡ false → (n : ℕ) → o ≡ Some n → n % 256 ≡ 0
unfolding is_unaligned_row
row_whole (Some m) e n q = let s : m ≡ n = cc in rw (← s) (rest_of m 256 (not-false (multiple m 256) e))
row_whole None e n q = let z : ◌≡◌ {A = ℕ} 0 1 = cc in absurd (omega arith)

row_by : (o : Option ℕ) → ((n : ℕ) → o ≡ Some n → n % 256 ≡ 0) → is_unaligned_row o ≡ false
unfolding is_unaligned_row
row_by (Some m) h = rw (no_rest m 256 (h m refl))
row_by None h = refl

module _ (reads : Bool) (format : ℕ) (aspect : TextureAspect) (layout : TexelCopyBufferLayout) (g : Agrees reads format aspect) where
  abbrev alignment : ℕ
  alignment = offset_alignment format aspect

  at_four : is_depth_or_stencil format ≡ true → alignment ≡ 4
  unfolding offset_alignment
  at_four e = rw (g.kind, e)

  at_bytes : is_depth_or_stencil format ≡ false → alignment ≡ block_bytes format aspect
  unfolding offset_alignment
  at_bytes e = rw (g.kind, e) (g.bytes e)

  aligned_of : multiple layout.offset alignment ≡ true → is_unaligned_row layout.bytes_per_row ≡ false → AlignedLayout format aspect layout
  aligned_of o r =
      record {
        depth_stencil = λ e. rw (← at_four e) (rest_of layout.offset alignment o);
        other = λ e. rw (← at_bytes e) (rest_of layout.offset alignment o);
        row = row_whole layout.bytes_per_row r;
      }

  offset-by : AlignedLayout format aspect layout → (s : Bool) → is_depth_or_stencil format ≡ s → multiple layout.offset alignment ≡ true
  offset-by l true e = no_rest layout.offset alignment (rw (at_four e) (l.depth_stencil e))
  offset-by l false e = no_rest layout.offset alignment (rw (at_bytes e) (l.other e))

-- ---- the rule

off : (s t : Bool) → (s ≡ true → t ≡ false) → (s && t) ≡ false
off true t h = h refl
off false t h = refl

module _ (reads aligned : Bool) (t : Texture) (aspect : TextureAspect) (layout : TexelCopyBufferLayout) (s : InStandard t.format aspect) where
  abbrev chosen : ℕ
  chosen = bits (named (format_of t.format) aspect)

  abbrev A : ℕ
  A = offset_alignment t.format aspect

  abbrev rule : Checks
  rule = layout_checks aspect chosen t layout aligned

  g : Agrees reads t.format aspect
  g = agreed reads t.format aspect s

  standard : format_rule reads t.format aspect ≡ (Ok tt) → checked rule ≡ (Ok tt) → TextureBufferCopy reads aligned t aspect layout
  unfolding layout_checks
  standard f e =
      let n = none_in rule (checked_passes rule e) in
      let one = not-false (is_one chosen) (test_fails _ _ (n 1)) in
      record {
        one_sample = eqb-true t.sample_count 1 (not-false _ (test_fails _ _ (n 0)));
        allowed = sym g.allowed ∙ rw (goes_by (format_rule reads t.format aspect) f, one);
        layout_aligned = λ a. aligned_of reads t.format aspect layout g (not-false (multiple layout.offset A) (not_both aligned _ (test_fails _ _ (n 2)) a)) (not_both aligned _ (test_fails _ _ (n 3)) a);
      }

  both : TextureBufferCopy reads aligned t aspect layout → (goes_b (format_rule reads t.format aspect) ≡ true) × (is_one chosen ≡ true)
  both v = both_true (goes_b (format_rule reads t.format aspect)) (is_one chosen) (g.allowed ∙ v.allowed)

  ours : TextureBufferCopy reads aligned t aspect layout → checked rule ≡ (Ok tt)
  unfolding layout_checks
  ours v =
      all_pass Unit tt rule (
        test_off _ _ (rw (eq-eqb t.sample_count 1 v.one_sample)),
        (
          test_off _ _ (rw (both v).1),
          (
            test_off _ _ (off aligned _ (λ a. rw (offset-by reads t.format aspect layout g (v.layout_aligned a) (is_depth_or_stencil t.format) refl))),
            (
              test_off _ _ (off aligned _ (λ a. row_by layout.bytes_per_row (v.layout_aligned a).row)),
              tt,
            ),
          ),
        ),
      )

pub buffer_copies : BufferCopies
buffer_copies reads aligned t aspect layout s = (
  λ e. standard reads aligned t aspect layout s e.0 e.1,
  λ v. (goes_of (format_rule reads t.format aspect) (both reads aligned t aspect layout s v).0, ours reads aligned t aspect layout s v),
)

-- so exactly one aspect is chosen
pub one_aspect :
    (reads aligned : Bool) (t : Texture) (aspect : TextureAspect) (layout : TexelCopyBufferLayout) → InStandard t.format aspect
    → TextureBufferCopy reads aligned t aspect layout → is_one (bits (named (format_of t.format) aspect)) ≡ true
one_aspect reads aligned t aspect layout s v = (both reads aligned t aspect layout s v).1
