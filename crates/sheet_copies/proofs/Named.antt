-- A copy's records by its line, one step after another.
-- Assumes nothing.
use mathlib.Core.Path.{◌≡◌, sym, ap, ◌∙◌}
use mathlib.Core.Bool.{Bool, true, false}
use mathlib.Core.List.{List, [], ◌∷◌}
use Prim.Native.Nat.{ℕ}
use borrow.Author.Tests.{ne_eqb}
use Rattle.std.specs.Prelude.{Result, Ok, Err, IsErrAnd}
use Rattle.refusals.specs.declared.TransferError.{TransferError}
use Rattle.refusals.specs.declared.TransferError.TheVariants.{InvalidSheetIndex}
use Rattle.refusals.specs.Order.{refuse_if, first, decided}
use Rattle.refusals.proofs.Order.{handed_up, no_refusal, same_refusal, same_value}
use Rattle.records.specs.declared.Device.{Device}
use Rattle.plan_kinds.specs.declared.Plan.{Plan}
use Rattle.copy_kinds.specs.declared.Ranges.{Ranges}
use Rattle.sheet_fields.specs.declared.Line.{Line}
use Rattle.sheet_sections.specs.declared.CopyKind.TheVariants.{Buffers, Upload, Download, Textures, Memory}
use Rattle.sheet_sections.specs.declared.UnknownKind.{UnknownKind}
use Rattle.sheet_sections.specs.Kinds.{kind_number, kind_of}
use Rattle.sheet_sections.proofs.KindLaws.{named, unnamed}
use Rattle.sheet_records.specs.Records.{value_of}
use Rattle.sheet_copies.specs.CopyLines.{named_copy, buffers_planned, copy_planned, upload_planned, download_planned, memory_planned, textures_planned, line_planned}

-- ---- an index was looked at

module _ {R V : Type 0} {x : Result R TransferError} {r : Result V TransferError} (rest : Result R TransferError) (t : Bool) (n : V) where
  pub index_hands : {e : TransferError} → r ≡ decided (refuse_if t InvalidSheetIndex ∷ []) (Ok n) → r ≡ Err e → IsErrAnd x (λ d. d ≡ e) → x ≡ first (refuse_if t InvalidSheetIndex) rest
  unfolding decided first refuse_if
  index_hands {e} is h k = found t (sym is ∙ h)
    where
      found : (t : Bool) → decided (refuse_if t InvalidSheetIndex ∷ []) (Ok n) ≡ Err e → x ≡ first (refuse_if t InvalidSheetIndex) rest
      found true q = handed_up x e k ∙ ap Err (sym (same_refusal q))
      found false q = absurd (no_refusal (sym q))

  -- else it is what the field names
  pub index_passes : {k : V} → r ≡ decided (refuse_if t InvalidSheetIndex ∷ []) (Ok n) → r ≡ Ok k → (k ≡ n → x ≡ rest) → x ≡ first (refuse_if t InvalidSheetIndex) rest
  unfolding decided first refuse_if
  index_passes {k} is h go = found t (sym is ∙ h)
    where
      found : (t : Bool) → decided (refuse_if t InvalidSheetIndex ∷ []) (Ok n) ≡ Ok k → x ≡ first (refuse_if t InvalidSheetIndex) rest
      found true q = absurd (no_refusal q)
      found false q = go (sym (same_value q))

-- the same of a record with its index
module _ {R V : Type 0} {x : Result R TransferError} {r : Result (ℕ × V) TransferError} (rest : Result R TransferError) (t : Bool) (n : ℕ) (m : V) where
  pub named_passes : {k : ℕ} {v : V} → r ≡ decided (refuse_if t InvalidSheetIndex ∷ []) (Ok (n, m)) → r ≡ Ok (k, v) → (k ≡ n → v ≡ m → x ≡ rest) → x ≡ first (refuse_if t InvalidSheetIndex) rest
  named_passes is h go = index_passes _ _ _ is h λ e. go (ap (λ (p : ℕ × V). p.0) e) (ap (λ (p : ℕ × V). p.1) e)

-- ---- by the line's kind

module _ (s ts bs : List ℕ) (device : Device) (l : Line) (r : Result (Plan × Ranges) TransferError) where
  pub of_buffers : kind_of (value_of l 0) ≡ Ok Buffers → r ≡ buffers_planned s bs device l → r ≡ line_planned s ts bs device l
  unfolding line_planned kind_number
  of_buffers k h = let is : 1 ≡ value_of l 0 = named _ _ k in rw (← is) h

  pub of_upload : kind_of (value_of l 0) ≡ Ok Upload → r ≡ upload_planned s ts bs device l → r ≡ line_planned s ts bs device l
  unfolding line_planned copy_planned named_copy kind_number
  of_upload k h = let is : 2 ≡ value_of l 0 = named _ _ k in rw (← is) h

  pub of_download : kind_of (value_of l 0) ≡ Ok Download → r ≡ download_planned s ts bs device l → r ≡ line_planned s ts bs device l
  unfolding line_planned copy_planned named_copy kind_number
  of_download k h = let is : 3 ≡ value_of l 0 = named _ _ k in rw (← is) h

  pub of_textures : kind_of (value_of l 0) ≡ Ok Textures → r ≡ textures_planned s ts l → r ≡ line_planned s ts bs device l
  unfolding line_planned kind_number
  of_textures k h = let is : 4 ≡ value_of l 0 = named _ _ k in rw (← is) h

  pub of_memory : kind_of (value_of l 0) ≡ Ok Memory → r ≡ memory_planned s ts device l → r ≡ line_planned s ts bs device l
  unfolding line_planned kind_number
  of_memory k h = let is : 5 ≡ value_of l 0 = named _ _ k in rw (← is) h

  -- a number that is no kind's counts as a download's
  pub of_none : (u : UnknownKind) → kind_of (value_of l 0) ≡ Err u → r ≡ download_planned s ts bs device l → r ≡ line_planned s ts bs device l
  unfolding line_planned copy_planned named_copy
  of_none u k h =
      let un = unnamed _ u k in
      rw (ne_eqb (value_of l 0) 1 un.one, ne_eqb (value_of l 0) 4 un.four, ne_eqb (value_of l 0) 5 un.five, ne_eqb (value_of l 0) 2 un.two) h

pub ruleset by_kind = (of_buffers, of_upload, of_download, of_textures, of_memory, of_none)
