-- The stages answer the first refusal of the list, or the plan.
-- Assumes nothing.
use Rattle.std.specs.Prelude.{Result, Ok, Err}
use Rattle.plan_buffer_texture.specs.declared.TexturePart.{TexturePart}
use mathlib.Core.Path.{◌≡◌, refl, ◌∙◌}
use mathlib.Core.Bool.{Bool}
use mathlib.Core.List.{[], flatten}
use Prim.Native.Nat.{ℕ}
use Rattle.conditions.specs.Conditions.{stop_if}
use Rattle.refusals.specs.declared.TransferError.{TransferError}
use Rattle.refusals.specs.Order.{refuse_if, first, decided}
use Rattle.refusals.proofs.Order.{line}
use Rattle.records.specs.declared.Buffer.{Buffer}
use Rattle.rule_copy_range.specs.Range.{range_checked}
use Rattle.rule_linear_data.specs.Linear.{linear_checked}
use Rattle.rule_selectors.specs.Selector.{base_of, selector_checked}
use Rattle.refusals.specs.Stages.{after}
use Rattle.refusals.proofs.Stages.{past_rule, past_found}
use Rattle.copy_buffer_texture.specs.declared.LinearTextureCopy.{LinearTextureCopy}
use Rattle.copy_buffer_texture.specs.declared.UploadSource.TheVariants as S
use Rattle.copy_buffer_texture.specs.Plan.{upload_checks, download_checks, plan_for, planned, uploaded, buffer_to_texture, memory_to_texture, texture_to_buffer}
use Rattle.copy_buffer_texture.specs.Stages.{part_checked, texture_range, upload_placed, upload_allowed, upload_ranged, upload_recorded, upload_staged, download_placed, download_allowed, download_ranged, download_staged}
use Rattle.plan_buffer_texture.specs.declared.BufferTexturePlan.{BufferTexturePlan}

line_p : (t : Bool) (e : TransferError) (rest : Result BufferTexturePlan TransferError) → stop_if t (Err e) rest ≡ first (refuse_if t e) rest
line_p t e rest = line BufferTexturePlan t e rest

first_none : (rest : Result BufferTexturePlan TransferError) → first (flatten []) rest ≡ rest
unfolding first flatten
first_none rest = refl

past_ok : (part : TexturePart) (k : TexturePart → Result BufferTexturePlan TransferError) → after (Ok part) k ≡ k part
unfolding after
past_ok part k = refl

module _ (c : LinearTextureCopy) where
  upload_law : (b : Buffer) → upload_staged b c ≡ uploaded c.device (S.Buffer b) c.layout c.texture.texture c.texture.view c.size
  unfolding upload_staged upload_recorded upload_ranged upload_allowed upload_placed part_checked texture_range planned upload_checks plan_for decided base_of range_checked linear_checked selector_checked
  upload_law b = simp (line_p, past_rule, past_found, past_ok)

  -- of memory the first check is the texture's record
  memory_law : (length : ℕ) → upload_recorded (S.Memory length) c ≡ uploaded c.device (S.Memory length) c.layout c.texture.texture c.texture.view c.size
  unfolding upload_recorded upload_ranged upload_allowed upload_placed part_checked texture_range planned upload_checks plan_for decided base_of range_checked linear_checked selector_checked
  memory_law length = simp (line_p, past_rule, past_found, past_ok, first_none)

  download_law : (b : Buffer) → download_staged c b ≡ texture_to_buffer c.device c.texture.texture c.texture.view b c.layout c.size
  unfolding download_staged download_ranged download_allowed download_placed part_checked texture_range texture_to_buffer planned download_checks plan_for decided base_of range_checked linear_checked selector_checked
  download_law b = simp (line_p, past_rule, past_found, past_ok)

  -- ---- for an answer that a function gave

  module _ (x : Result BufferTexturePlan TransferError) where
    pub by_upload_law : (b : Buffer) → x ≡ upload_staged b c → x ≡ buffer_to_texture c.device b c.layout c.texture.texture c.texture.view c.size
    unfolding buffer_to_texture
    by_upload_law b h = h ∙ upload_law b

    pub by_memory_law : (length : ℕ) → x ≡ upload_recorded (S.Memory length) c → x ≡ memory_to_texture c.device length c.layout c.texture.texture c.texture.view c.size
    unfolding memory_to_texture
    by_memory_law length h = h ∙ memory_law length

    pub by_download_law : (b : Buffer) → x ≡ download_staged c b → x ≡ texture_to_buffer c.device c.texture.texture c.texture.view b c.layout c.size
    by_download_law b h = h ∙ download_law b
