-- The planner's sheet of formats has the claim's figures, by one test that is computed of every format and aspect.
-- Assumes nothing.
use Rattle.std.specs.Prelude.{Result, Ok, Err}
use mathlib.Core.Path.{◌≡◌, refl}
use mathlib.Core.Bool.{Bool, true, false, not, ◌&&◌, ◌||◌}
use Prim.Native.Nat.{ℕ, ◌<◌}
use lib.Dec.{eqb, ltb}
use borrow.Author.Tests.{ltb-true, eqb-true}
use Rattle.conditions.specs.Conditions.{stop_if}
use Rattle.conditions.proofs.Rules.{both_true}
use Rattle.conditions.proofs.Tables.{every_below, at_below}
use Rattle.measures.specs.Measure.{or_else}
use Rattle.flags.specs.Flags.{meet, is_one}
use Rattle.formats.specs.declared.TextureAspect.{TextureAspect}
use Rattle.formats.specs.declared.TextureAspect.TheVariants.{All, StencilOnly, DepthOnly, Plane0, Plane1, Plane2}
use Rattle.formats.specs.Table.{format_row, aspects_of, block_width_of, block_height_of, is_format, block_dimensions}
use Rattle.formats.specs.Table as sheet
use Rattle.formats.specs.Aspects.{asked_of, chosen_aspects, bytes_of, block_copy_size}
use Rattle.rule_linear_data.specs.Linear.{block_bytes}
use Rattle.refusals.specs.Order.{refuse_if, first, decided, checked}
use Rattle.rule_formats.specs.Rules.{is_depth_only, src_format_checks, dst_format_checks}
use Rattle.copy_buffer_texture.specs.Copy.{Direction, Upload, Download}
use Rattle.copy_buffer_texture.specs.Laws.{format_checks}
use Rattle.claim_ownership.specs.Formats.{formats, block_side, is_all, chosen_bits, bytes_per_block}
use Rattle.refusals.specs.declared.TransferError.{TransferError}

goes_b : Result Unit TransferError → Bool
goes_b (Ok tt) = true
goes_b (Err e) = false

abbrev format_rule : Direction → ℕ → TextureAspect → Result Unit TransferError
format_rule d format aspect = checked (format_checks d format aspect)

-- a buffer copy may read or write it
copyable : Direction → TextureAspect → ℕ → Bool
copyable d aspect format = goes_b (format_rule d format aspect) && is_one (chosen_aspects format aspect)

-- the blocks' sides and the chosen aspects are the claim's, and where it may be copied the bytes too, and some
alike : Direction → TextureAspect → ℕ → Bool
alike d aspect format =
    eqb (block_width_of format) (block_side format)
    && (eqb (block_height_of format) (block_side format)
    && (ltb 0 (block_side format)
    && (eqb (chosen_aspects format aspect) (chosen_bits format aspect)
    && (not (copyable d aspect format) || (eqb (block_bytes format aspect) (bytes_per_block format aspect) && ltb 0 (bytes_per_block format aspect))))))

all_alike : (d : Direction) (aspect : TextureAspect) → every_below (alike d aspect) 22 ≡ true
unfolding alike copyable goes_b sheet.formats format_row aspects_of block_dimensions asked_of chosen_aspects bytes_of block_copy_size block_bytes or_else meet is_one stop_if refuse_if first decided src_format_checks dst_format_checks is_depth_only formats block_side is_all chosen_bits bytes_per_block
all_alike (Upload source) All = refl
all_alike (Upload source) StencilOnly = refl
all_alike (Upload source) DepthOnly = refl
all_alike (Upload source) Plane0 = refl
all_alike (Upload source) Plane1 = refl
all_alike (Upload source) Plane2 = refl
all_alike (Download b) All = refl
all_alike (Download b) StencilOnly = refl
all_alike (Download b) DepthOnly = refl
all_alike (Download b) Plane0 = refl
all_alike (Download b) Plane1 = refl
all_alike (Download b) Plane2 = refl

pub record Figures (format : ℕ) (aspect : TextureAspect) : Type 0 where
  pub width : block_width_of format ≡ block_side format
  pub height : block_height_of format ≡ block_side format
  pub side_some : 0 < block_side format
  pub chosen : chosen_aspects format aspect ≡ chosen_bits format aspect
  pub bytes : block_bytes format aspect ≡ bytes_per_block format aspect
  pub bytes_some : 0 < bytes_per_block format aspect

may_copy : (m : Result Unit TransferError) (o t : Bool) → (not (goes_b m && o) || t) ≡ true → m ≡ (Ok tt) → o ≡ true → t ≡ true
unfolding goes_b
may_copy m o t e p q = rw (p, q) at e

pub figures :
    (d : Direction) (format : ℕ) (aspect : TextureAspect) → is_format format ≡ true → format_rule d format aspect ≡ (Ok tt)
    → is_one (chosen_aspects format aspect) ≡ true → Figures format aspect
unfolding is_format sheet.formats alike copyable
figures d format aspect known goes one =
    let w = both_true _ _ (at_below (alike d aspect) 22 (all_alike d aspect) format (ltb-true format 22 known)) in
    let h = both_true _ _ w.1 in
    let s = both_true _ _ h.1 in
    let a = both_true _ _ s.1 in
    let b = both_true _ _ (may_copy (format_rule d format aspect) (is_one (chosen_aspects format aspect)) _ a.1 goes one) in
    record {
      width = eqb-true _ _ w.0;
      height = eqb-true _ _ h.0;
      side_some = ltb-true _ _ s.0;
      chosen = eqb-true _ _ a.0;
      bytes = eqb-true _ _ b.0;
      bytes_some = ltb-true _ _ b.1;
    }
