-- The listing of a sheet prints, of each accepted copy, the regions that asking its plan gives.
-- Assumes nothing.
use Prim.{Unit, tt}
use mathlib.Core.Path.{◌≡◌, refl}
use mathlib.Core.Bool.{Bool, true, false}
use borrow.Author.Tests.{leb-true, leb-false}
use Rattle.std.proofs.lemmas.List.{get_or_default}
use mathlib.Core.List.{List, [], ◌∷◌, ◌++◌, append-nil}
use Prim.Native.Nat.{ℕ, zero, suc, ◌+◌, ◌-◌, ◌^◌, ◌≤◌, ◌<◌, ◌%◌}
use native.Mathlib.Omega.{arith}
use native.Mathlib.Nat.{mod-lt}
use lib.Dec.{eqb, leb}
use lib.ListN.{length, get_or, get_or-eq_default}
use Rattle.std.specs.Prelude.{option_map, Option, Some, None, unwrap_or, Result, Ok, Err}
use Rattle.refusals.specs.Order.{Checks, first, decided}
use Rattle.refusals.specs.declared.TransferError.{TransferError}
use Rattle.records.specs.declared.Device.{Device}
use Rattle.plan_rows.specs.Rows.{refusal_numbers}
use Rattle.sheet_text.specs.Text.{line_text}
use Rattle.plan_kinds.specs.Regions.{left_of}
use Rattle.copy_kinds.specs.Planned.{of_buffers, of_buffer_texture, of_memory, of_textures}
use Rattle.sheet_fields.specs.declared.Line.{Line}
use Rattle.sheet_fields.specs.declared.Rule.{Rule}
use Rattle.sheet_fields.specs.declared.FieldKind.{FieldKind}
use Rattle.sheet_fields.specs.declared.FieldKind.TheVariants.{Word, Long}
use Rattle.sheet_fields.specs.Codes.{rule_of}
use Rattle.sheet_fields.specs.Line.{line_values, no_line, line_of}
use Rattle.sheet_fields.specs.Laws.{Allowed}
use Rattle.sheet_fields.proofs.Fits.{field_laws}
use Rattle.sheet_sections.specs.declared.Parts.{Parts}
use Rattle.sheet_sections.specs.Rows.{copies, buffer_copy_kinds, linear_kind, buffer_texture_kinds, texture_copy_kinds, copy_kinds, kind_at, kinds_of, row_of, section_line}
use Rattle.sheet_sections.specs.Sheet.{line_number}
use Rattle.sheet_records.specs.Records.{value_of, word_of, word_or_absent, extent_of, origin_of, view_of, layout_of}
use Rattle.sheet_copies.specs.CopyLines.{texture_side_at, named_buffers, buffers_planned, named_copy, copy_planned, named_memory, memory_planned, named_textures, textures_planned, line_planned}
use Rattle.sheet_lines.specs.Lines.{sheet_text, copy_text, refusal_text, answer_text}
use Rattle.sheet_copies.specs.Answers.{texture_places, buffer_places, device_at, answer_at}
use Rattle.sheet_listing.specs.Listing.{plan_answered, regions_left, copy_answer, copies_text, listing_from, listing_of}
use Rattle.claim_region_output.specs.Numbers.{optional}
use Rattle.claim_region_output.specs.Text.{text, line, refused}
use Rattle.claim_region_output.specs.Printed.{Prints, none, plan, refusal, answers, EverySheetLists}
use Rattle.claim_region_output.proofs.Asks.{every_plan_ends}
use Rattle.claim_region_output.proofs.Prints.{plain, every_plan_prints}
use Rattle.claim_region_output.proofs.Kept.{Small, Fit, all_told}
use Rattle.claim_region_output.proofs.Accepted.{Figures, either_way}
use Rattle.claim_region_output.proofs.Copies.{BuffersFit, buffers_fit, BufferTextureFit, upload_fits, memory_fits, download_fits, TexturesFit, textures_fit}
use Rattle.plan_buffer_texture.specs.declared.BufferTexturePlan.{BufferTexturePlan}
use Rattle.plan_buffers.specs.declared.BufferPlan.{BufferPlan}
use Rattle.plan_textures.specs.declared.TexturePlan.{TexturePlan}
use Rattle.copy_kinds.specs.declared.Ranges.{Ranges}
use Rattle.plan_kinds.specs.declared.Plan.{Plan}

-- ---- the plan of an accepted copy line

unfoldable PlannedFit : Result (Plan × Ranges) TransferError → Type 0
PlannedFit (Ok (p, r)) = 0 < left_of p → Fit p
PlannedFit (Err e) = Unit {0}

no_plan_lem : (e : TransferError) → PlannedFit (Err e)
unfolding PlannedFit
no_plan_lem e = tt

of_buffers_lem : (i j : ℕ) (a : Result BufferPlan TransferError) → BuffersFit a → PlannedFit (of_buffers i j a)
unfolding PlannedFit of_buffers BuffersFit left_of
of_buffers_lem i j (Ok p) h = h
of_buffers_lem i j (Err e) h = tt

of_copy : (i j : ℕ) (a : Result BufferTexturePlan TransferError) → BufferTextureFit a → PlannedFit (of_buffer_texture i j a)
unfolding PlannedFit of_buffer_texture BufferTextureFit left_of
of_copy i j (Ok p) h = h
of_copy i j (Err e) h = tt

of_memory_lem : (i : ℕ) (a : Result BufferTexturePlan TransferError) → BufferTextureFit a → PlannedFit (of_memory i a)
unfolding PlannedFit of_memory BufferTextureFit left_of
of_memory_lem i (Ok p) h = h
of_memory_lem i (Err e) h = tt

of_textures_lem : (i j : ℕ) (a : Result TexturePlan TransferError) → TexturesFit a → PlannedFit (of_textures i j a)
unfolding PlannedFit of_textures TexturesFit left_of
of_textures_lem i j (Ok p) h = λ some. h
of_textures_lem i j (Err e) h = tt

-- a line's figures have 32 bits
module _ (l : Line) where
  word_few : (i : ℕ) → word_of l i < 2 ^ 32
  unfolding word_of
  word_few i = mod-lt (value_of l i) {m = 2 ^ 32} (omega arith)

  figures : (i j : ℕ) → Figures (view_of l i) (extent_of l j)
  unfolding view_of origin_of extent_of
  figures i j =
      record {
        level = word_few i;
        x = word_few (i + 1);
        y = word_few (i + 1 + 1);
        z = word_few (i + 1 + 2);
        width = word_few j;
        height = word_few (j + 1);
        depth = word_few (j + 2);
      }

  option_small : (i : ℕ) → Small (optional (word_or_absent l i) ∷ [])
  unfolding word_or_absent optional
  option_small i = go (get_or l.values i None)
    where
      go : (o : Option ℕ) → Small (optional (option_map (λ value. value % 2 ^ 32) o) ∷ [])
      go (Some value) = (let few = mod-lt value {m = 2 ^ 32} (omega arith) in omega arith, tt)
      go None = tt

-- a length, the second value of a copy line, has 64 bits
abbrev LengthKind : List FieldKind → Type 0
LengthKind kinds = (1 < length kinds) × (length kinds ≤ line_values) × ((rule_of (get_or kinds 1 Word)).most < 2 ^ 64)

length_kind : (kind : ℕ) → LengthKind (copy_kinds kind)
unfolding copy_kinds buffer_copy_kinds texture_copy_kinds buffer_texture_kinds linear_kind rule_of
length_kind kind =
    either_way LengthKind (eqb kind 1) _ _ (omega arith, omega arith, omega arith)
    (either_way LengthKind (eqb kind 4) _ _ (omega arith, omega arith, omega arith)
    (either_way (λ (k : FieldKind). LengthKind (buffer_texture_kinds k)) (eqb kind 5) Long Word (omega arith, omega arith, omega arith) (omega arith, omega arith, omega arith)))

value_few : (r : Rule) (o : Option ℕ) → r.most < 2 ^ 64 → Allowed r o → unwrap_or o (2 ^ 64 - 1) < 2 ^ 64
value_few r (Some v) h a = omega (arith, h, a.1)
value_few r None h a = omega arith

length_few : (s : List ℕ) (at : ℕ) → value_of (section_line s copies at) 1 < 2 ^ 64
unfolding value_of section_line row_of kinds_of no_line
length_few s at = go (line_of s (copy_kinds (kind_at s at)) at) refl
  where
    -- where a line has no second value, 0 is read
    here : (l : Line) (short : Bool) → leb (length l.values) 1 ≡ short → unwrap_or (get_or l.values 1 None) (2 ^ 64 - 1) < 2 ^ 64 → unwrap_or (get_or l.values 1 (Some 0)) (2 ^ 64 - 1) < 2 ^ 64
    here l true e h = rw (get_or-eq_default l.values (Some 0) (leb-true _ _ e)) (omega arith)
    here l false e h = rw (get_or_default l.values 1 (Some 0) None (leb-false _ _ e)) h

    go : (o : Option Line) → line_of s (copy_kinds (kind_at s at)) at ≡ o → unwrap_or (get_or (unwrap_or o no_line).values 1 (Some 0)) (2 ^ 64 - 1) < 2 ^ 64
    go (Some l) e = let c = length_kind (kind_at s at) in here l _ refl (value_few _ _ c.2 (field_laws.value s (copy_kinds (kind_at s at)) at 1 l c.1 e c.0))
    go None e = omega arith

module _ (s ts bs : List ℕ) (device : Device) (l : Line) (few : value_of l 1 < 2 ^ 64) where
  -- whatever checks come before it
  decided_fits : (checks : Checks) (rest : Result (Plan × Ranges) TransferError) → PlannedFit rest → PlannedFit (decided checks rest)
  unfolding decided first
  decided_fits [] rest h = h
  decided_fits ([] ∷ checks) rest h = decided_fits checks rest h
  decided_fits ((e ∷ es) ∷ checks) rest h = no_plan_lem e

  buffers_line : PlannedFit (buffers_planned s bs device l)
  unfolding buffers_planned named_buffers
  buffers_line = decided_fits _ _ (of_buffers_lem _ _ _ (buffers_fit device _ _ _ _ _ _ _))

  copy_line : PlannedFit (copy_planned s ts bs device l)
  unfolding copy_planned named_copy layout_of
  copy_line =
      decided_fits _ _
      (either_way PlannedFit (eqb (value_of l 0) 2) _ _
      (of_copy _ _ _ (upload_fits device _ _ _ _ (figures l 6 11) (option_small l 3) (option_small l 4) _))
      (of_copy _ _ _ (download_fits device _ _ _ _ (figures l 6 11) (option_small l 3) (option_small l 4) _)))

  memory_line : PlannedFit (memory_planned s ts device l)
  unfolding memory_planned named_memory layout_of
  memory_line = decided_fits _ _ (of_memory_lem _ _ (memory_fits device _ _ _ _ (figures l 6 11) (option_small l 3) (option_small l 4) _ few))

  textures_line : PlannedFit (textures_planned s ts l)
  unfolding textures_planned named_textures texture_side_at
  textures_line = decided_fits _ _ (of_textures_lem _ _ _ (textures_fit _ _ _ _ _ (figures l 2 13) (figures l 8 13)))

  line_fits : PlannedFit (line_planned s ts bs device l)
  unfolding line_planned
  line_fits = either_way PlannedFit (eqb (value_of l 0) 1) _ _ buffers_line (either_way PlannedFit (eqb (value_of l 0) 4) _ _ textures_line (either_way PlannedFit (eqb (value_of l 0) 5) _ _ memory_line copy_line))

-- ---- a copy's text

refused_text : (k : ℕ) (e : TransferError) → copy_answer k (Err e) ≡ refused k e
unfolding copy_answer answer_text refusal_text copy_text plan_answered regions_left refused line line_text text refusal_numbers
refused_text k e = rw (append-nil, plain (k ∷ []), plain (refusal_numbers e))

one_copy : (k : ℕ) (a : Result (Plan × Ranges) TransferError) (more : List (Result (Plan × Ranges) TransferError)) (rest : List ℕ) → PlannedFit a → Prints (suc k) more rest → Prints k (a ∷ more) (copy_answer k a ++ rest)
unfolding PlannedFit
one_copy k (Ok (p, r)) more rest fit g =
    let e = every_plan_ends p in
    rw (every_plan_prints p e.regions e.gives (all_told e.gives fit) k r) (plan {ranges = r} e.gives g)
one_copy k (Err e) more rest fit g = rw (refused_text k e) (refusal g)

module _ (s : List ℕ) (p : Parts) where
  copies_text_lem :
      (total n k at : ℕ) → k + n ≡ total
      → Prints k (answers s p n at) (copies_text s (texture_places s p) (buffer_places s p) (device_at s p) total n at)
  unfolding answers copies_text answer_at texture_places buffer_places device_at
  copies_text_lem total zero k at e = none
  copies_text_lem total (suc n) k at e =
      let is : total - suc n ≡ k = omega (arith, e) in
      rw is (one_copy k _ _ _ (line_fits s _ _ _ (section_line s copies at) (length_few s at)) (copies_text_lem total n (suc k) (section_line s copies at).next (omega (arith, e))))

pub every_sheet_lists : EverySheetLists
unfolding listing_of listing_from line_number sheet_text line_text line text
every_sheet_lists s =
    record {
      good = λ p e. rw e (copies_text_lem s p p.copies.count p.copies.count 0 p.copies.first (omega arith));
      ill = λ n e. rw (e, plain);
      too_long = λ e. rw (e, plain);
    }
