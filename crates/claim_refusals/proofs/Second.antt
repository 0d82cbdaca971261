-- A check for the level is never met after the check of the range.
-- Assumes nothing.
use Rattle.std.specs.Prelude.{Result, Ok}
use mathlib.Core.Path.{◌≡◌, refl, sym, ap, ◌∙◌}
use mathlib.Core.List.{List, [], ◌∷◌}
use Prim.Native.Nat.{ℕ, zero, suc, ◌<◌}
use native.Mathlib.Omega.{arith}
use lib.Dec.{leb}
use lib.ListN.{get_or}
use borrow.Author.Tests.{lt-leb}
use Rattle.refusals.specs.declared.TransferError.{TransferError}
use Rattle.refusals.specs.declared.TransferError.TheVariants as E
use Rattle.refusals.specs.Numbers.{numbers_of}
use Rattle.refusals.specs.declared.CopySide.TheVariants.{Source}
use Rattle.refusals.specs.Order.{Checks, refuse_if, first, decided}
use Rattle.refusals.proofs.Order.{test_off}
use Rattle.records.specs.declared.Buffer.{Buffer}
use Rattle.rule_copy_range.proofs.Accepted.{every_range}
use Rattle.plan_buffer_texture.specs.declared.BufferTexturePlan.{BufferTexturePlan}
use Rattle.copy_buffer_texture.specs.Copy.{Direction, Copy}
use Rattle.copy_buffer_texture.specs.Plan.{download_checks, checks_of, plan_for, planned}
use Rattle.claim_refusals.specs.Second.{also_asked, EverySecondLevelCheck, RetiredNumber}

-- ---- a check that finds nothing where an earlier one does not

module _ (answer : Result BufferTexturePlan TransferError) where
  abbrev answered : Checks → Result BufferTexturePlan TransferError
  answered checks = decided checks answer

  nothing_more : (n : ℕ) (checks : Checks) → answered (also_asked n [] checks) ≡ answered checks
  unfolding decided first
  nothing_more zero checks = refl
  nothing_more (suc n) [] = refl
  nothing_more (suc n) ([] ∷ checks) = nothing_more n checks
  nothing_more (suc n) ((e ∷ es) ∷ checks) = refl

  never_met : (k n : ℕ) (found : List TransferError) (checks : Checks) → k < n → (get_or checks k [] ≡ [] → found ≡ []) → answered (also_asked n found checks) ≡ answered checks
  unfolding decided first
  never_met k zero found checks l h = absurd (omega (arith, l))
  never_met k (suc n) found [] l h = rw (h refl)
  never_met zero (suc n) found ([] ∷ checks) l h = rw (h refl) (nothing_more n checks)
  never_met (suc k) (suc n) found ([] ∷ checks) l h = never_met k n found checks (omega (arith, l)) h
  never_met k (suc n) found ((e ∷ es) ∷ checks) l h = refl

-- ---- an accepted range has an existing level

no_level : (c : Copy) (b : Buffer) (e : TransferError) → get_or (download_checks b c) 2 [] ≡ [] → refuse_if (leb c.texture.mip_level_count c.view.mip_level) e ≡ []
unfolding download_checks
no_level c b e h = test_off _ e (lt-leb _ _ ((every_range c.view c.texture Source c.size).holds h).level)

pub every_second_level_check : EverySecondLevelCheck
unfolding planned
every_second_level_check c b e n way l =
    let plan = Ok (plan_for c) in
    never_met plan 2 n _ (download_checks b c) (omega (arith, l)) (no_level c b e) ∙ sym (ap (λ (d : Direction). decided (checks_of d c) plan) way)

-- ---- the number of such a check

pub retired_number : RetiredNumber
unfolding numbers_of
retired_number E.InvalidSheetIndex h = omega (arith, h)
retired_number (E.InvalidTextureRecord _) h = omega (arith, h)
retired_number (E.InvalidBufferRecord _) h = omega (arith, h)
retired_number E.SameSourceDestinationBuffer h = omega (arith, h)
retired_number (E.MissingBufferUsage _) h = omega (arith, h)
retired_number (E.MissingTextureUsage _) h = omega (arith, h)
retired_number (E.BufferStartOffsetOverrun _ _ _) h = omega (arith, h)
retired_number (E.BufferEndOffsetOverrun _ _ _ _) h = omega (arith, h)
retired_number (E.TextureOverrun _ _ _ _ _) h = omega (arith, h)
retired_number (E.UnsupportedPartialTransfer _ _ _ _ _ _ _) h = omega (arith, h)
retired_number (E.InvalidCopyWithinSameTexture _ _ _ _ _) h = omega (arith, h)
retired_number (E.InvalidTextureAspect _ _) h = omega (arith, h)
retired_number (E.InvalidTextureMipLevel _ _) h = omega (arith, h)
retired_number (E.UnalignedBufferOffset _) h = omega (arith, h)
retired_number (E.UnalignedCopySize _) h = omega (arith, h)
retired_number E.UnalignedCopyWidth h = omega (arith, h)
retired_number E.UnalignedCopyHeight h = omega (arith, h)
retired_number E.UnalignedCopyOriginX h = omega (arith, h)
retired_number E.UnalignedCopyOriginY h = omega (arith, h)
retired_number E.UnalignedBytesPerRow h = omega (arith, h)
retired_number E.UnspecifiedBytesPerRow h = omega (arith, h)
retired_number E.UnspecifiedRowsPerImage h = omega (arith, h)
retired_number E.InvalidBytesPerRow h = omega (arith, h)
retired_number E.InvalidRowsPerImage h = omega (arith, h)
retired_number E.SizeOverflow h = omega (arith, h)
retired_number E.CopySrcMissingAspects h = omega (arith, h)
retired_number E.CopyDstMissingAspects h = omega (arith, h)
retired_number E.CopyAspectNotOne h = omega (arith, h)
retired_number (E.CopyFromForbiddenTextureFormat _) h = omega (arith, h)
retired_number (E.CopyFromForbiddenTextureFormatAspect _ _) h = omega (arith, h)
retired_number (E.CopyToForbiddenTextureFormat _) h = omega (arith, h)
retired_number (E.CopyToForbiddenTextureFormatAspect _ _) h = omega (arith, h)
retired_number (E.TextureFormatsNotCopyCompatible _ _) h = omega (arith, h)
retired_number (E.MissingDownlevelFlags _) h = omega (arith, h)
retired_number (E.InvalidSampleCount _) h = omega (arith, h)
retired_number (E.SampleCountNotEqual _ _) h = omega (arith, h)
retired_number E.RegionSliceTooShort h = omega (arith, h)
