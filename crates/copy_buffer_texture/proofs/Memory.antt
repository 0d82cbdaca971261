-- A copy from memory is never refused for what only a buffer has.
-- Assumes nothing.
use mathlib.Core.Path.{◌≡◌, refl}
use mathlib.Core.Bool.{true, false}
use mathlib.Core.List.{flatten}
use Prim.Native.Nat.{ℕ}
use Rattle.refusals.specs.declared.CopySide.TheVariants.{Source, Destination}
use Rattle.refusals.specs.declared.TransferError.{TransferError}
use Rattle.refusals.specs.Numbers.{numbers_of}
use Rattle.refusals.proofs.Every.{AllIn, all_if, all_off, all_flat, first_of}
use Rattle.records.specs.Bounds.{texture_checks}
use Rattle.rule_copy_range.specs.Range.{partial_transfer, texture_overrun, dimension_checks, side_checks, block_checks, range_checks}
use Rattle.rule_linear_data.specs.declared.Dense.{Dense}
use Rattle.rule_linear_data.specs.Linear.{linear_checks}
use Rattle.rule_formats.specs.Rules.{dst_format_checks, layout_checks}
use Rattle.rule_selectors.specs.Selector.{selector_checks}
use Rattle.copy_buffer_texture.specs.declared.UploadSource.TheVariants as S
use Rattle.copy_buffer_texture.specs.Copy.{Upload, Copy}
use Rattle.copy_buffer_texture.specs.Plan.{aspects, dense, upload_checks, planned, memory_to_texture}
use Rattle.copy_buffer_texture.specs.Laws.{may_refuse_memory, EveryMemoryRefusal}

abbrev Allowed : TransferError → Type 0
Allowed e = may_refuse_memory (numbers_of e).number ≡ true

-- ---- the order of checks of a copy from memory

module _ (c : Copy) (length : ℕ) where
  sides_allowed : AllIn Allowed (range_checks c.view c.texture Destination c.size)
  unfolding range_checks side_checks dimension_checks block_checks partial_transfer texture_overrun numbers_of
  sides_allowed = (
    all_if Allowed _ _ refl,
    (
      all_flat Allowed _ (all_flat Allowed _ (all_if Allowed _ _ refl, (all_if Allowed _ _ refl, tt)), (all_flat Allowed _ (all_if Allowed _ _ refl, (all_if Allowed _ _ refl, tt)), (all_flat Allowed _ (all_if Allowed _ _ refl, (all_if Allowed _ _ refl, tt)), tt))),
      (all_flat Allowed _ (all_if Allowed _ _ refl, (all_if Allowed _ _ refl, (all_if Allowed _ _ refl, (all_if Allowed _ _ refl, tt)))), tt),
    ),
  )

  -- neither 14 nor 20
  layout_allowed : (aspects : ℕ) → AllIn Allowed (layout_checks c.view.aspect aspects c.texture c.layout false)
  unfolding layout_checks numbers_of
  layout_allowed aspects = (all_if Allowed _ _ refl, (all_if Allowed _ _ refl, (all_off Allowed _, (all_off Allowed _, tt))))

  linear_allowed : (d : Dense) → AllIn Allowed (linear_checks c.layout length Source d)
  unfolding linear_checks numbers_of
  linear_allowed d = (
    all_if Allowed _ _ refl,
    (
      all_if Allowed _ _ refl,
      (
        all_if Allowed _ _ refl,
        (
          all_if Allowed _ _ refl,
          (
            all_if Allowed _ _ refl,
            (
              all_if Allowed _ _ refl,
              (all_if Allowed _ _ refl, (all_if Allowed _ _ refl, (all_if Allowed _ _ refl, tt))),
            ),
          ),
        ),
      ),
    ),
  )

  all_allowed : AllIn Allowed (upload_checks (S.Memory length) c)
  unfolding upload_checks texture_checks selector_checks dst_format_checks numbers_of flatten
  all_allowed = (
    tt,
    (
      all_flat Allowed (texture_checks c.texture Destination) (all_if Allowed _ _ refl, tt),
      (
        all_flat Allowed (range_checks c.view c.texture Destination c.size) sides_allowed,
        (
          all_flat Allowed (selector_checks c.view c.texture) (all_if Allowed _ _ refl, tt),
          (
            all_off Allowed _,
            (
              all_if Allowed _ _ refl,
              (
                all_flat Allowed (dst_format_checks c.texture.format c.view.aspect) (all_if Allowed _ _ refl, (all_if Allowed _ _ refl, tt)),
                (
                  all_flat Allowed (layout_checks c.view.aspect (aspects c) c.texture c.layout false) (layout_allowed (aspects c)),
                  (
                    all_flat Allowed (linear_checks c.layout length Source (dense c)) (linear_allowed (dense c)),
                    (
                      all_if Allowed _ _ refl,
                      tt,
                    ),
                  ),
                ),
              ),
            ),
          ),
        ),
      ),
    ),
  )

pub every_memory_refusal : EveryMemoryRefusal
unfolding memory_to_texture planned
every_memory_refusal device length layout t view size e h =
    let c : Copy = record { direction = Upload (S.Memory length); device = device; layout = layout; texture = t; view = view; size = size } in
    first_of Allowed _ (upload_checks (S.Memory length) c) e (all_allowed c length) h
