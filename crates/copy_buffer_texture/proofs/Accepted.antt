-- A copy is planned exactly where its laws hold.
-- Assumes nothing.
use Rattle.std.specs.Prelude.{Result, Ok}
use mathlib.Core.Path.{◌≡◌, refl, sym, ap, ◌∙◌}
use mathlib.Core.Bool.{true, false}
use mathlib.Core.List.{[], flatten}
use Prim.Native.Nat.{ℕ}
use lib.Dec.{eqb}
use borrow.Author.Tests.{not-false, not-true}
use Rattle.conditions.proofs.Rules.{not_yes, not_no}
use Rattle.refusals.specs.declared.TransferError.{TransferError}
use Rattle.refusals.specs.declared.CopySide.{CopySide}
use Rattle.refusals.specs.declared.CopySide.TheVariants.{Source, Destination}
use Rattle.refusals.specs.Order.{decided}
use Rattle.refusals.proofs.Order.{none_found, all_pass, none_in, flat_empty, test_fails, test_off, checked_passes, passes_checked}
use Rattle.records.specs.declared.Buffer.{Buffer}
use Rattle.records.proofs.Checked.{buffer_of_lem, buffer_passes, texture_of_lem, texture_passes}
use Rattle.rule_copy_range.specs.Range.{range_checks}
use Rattle.rule_copy_range.proofs.Accepted.{every_range}
use Rattle.rule_linear_data.specs.Linear.{linear_checks}
use Rattle.rule_linear_data.specs.Laws.{LinearLaws}
use Rattle.rule_linear_data.proofs.Accepted.{every_linear}
use Rattle.rule_selectors.specs.Selector.{selector_checks}
use Rattle.plan_buffer_texture.specs.declared.BufferTexturePlan.{BufferTexturePlan}
use Rattle.copy_buffer_texture.specs.declared.UploadSource.{UploadSource}
use Rattle.copy_buffer_texture.specs.declared.UploadSource.TheVariants as S
use Rattle.copy_buffer_texture.specs.Copy.{Direction, Upload, Download, Copy}
use Rattle.copy_buffer_texture.specs.Plan.{aspects, dense, source_checks, source_size, upload_checks, download_checks, checks_of, plan_for, planned, buffer_to_texture, memory_to_texture, texture_to_buffer}
use Rattle.copy_buffer_texture.specs.Laws.{source_in_bounds, Accepted, CopyLaw, EveryCopyLaw}

-- ---- what is chosen
chosen_of : (c : Copy) → flatten (selector_checks c.view c.texture) ≡ [] → eqb (aspects c) 0 ≡ false
unfolding selector_checks
chosen_of c h = test_fails _ _ (none_in (selector_checks c.view c.texture) h 0)

chosen_passes : (c : Copy) → eqb (aspects c) 0 ≡ false → flatten (selector_checks c.view c.texture) ≡ []
unfolding selector_checks
chosen_passes c h = flat_empty (selector_checks c.view c.texture) (test_off _ _ h, tt)

-- ---- what is asked of a source, as checks and as laws

source_of : (source : UploadSource) → flatten (source_checks source) ≡ [] → source_in_bounds source ≡ true
source_of (S.Buffer b) h = buffer_of_lem b Source h
source_of (S.Memory length) h = refl

source_passes : (source : UploadSource) → source_in_bounds source ≡ true → flatten (source_checks source) ≡ []
unfolding flatten
source_passes (S.Buffer b) h = buffer_passes b Source h
source_passes (S.Memory length) h = refl

-- ---- each way

module _ (c : Copy) where
  abbrev plan : Result BufferTexturePlan TransferError
  plan = Ok (plan_for c)

  -- the checks that both ways make of the two sides
  range_passes : (side : CopySide) → Accepted c → flatten (range_checks c.view c.texture side c.size) ≡ []
  range_passes side a = (every_range c.view c.texture side c.size).passes a.range

  linear_passes : (side : CopySide) (n : ℕ) → LinearLaws c.layout n (dense c) → flatten (linear_checks c.layout n side (dense c)) ≡ []
  linear_passes side n l = (every_linear.rule c.layout n side (dense c)).passes l

  upload_of : (source : UploadSource) → c.direction ≡ Upload source → (p : BufferTexturePlan) → decided (upload_checks source c) plan ≡ Ok p → Accepted c × (plan_for c ≡ p)
  unfolding upload_checks
  upload_of source way p h =
      let f = none_found BufferTexturePlan (plan_for c) (upload_checks source c) p h in
      let n = f.0 in (
        record {
          buffer_bounds = rw way (source_of source (n 0));
          texture_bounds = texture_of_lem c.texture Destination (n 1);
          range = (every_range c.view c.texture Destination c.size).holds (n 2);
          chosen = chosen_of c (n 3);
          buffer_usage = rw way (not_yes _ (test_fails _ _ (n 4)));
          texture_usage = rw way (not-false _ (test_fails _ _ (n 5)));
          format = rw way (passes_checked _ (n 6));
          layout = rw way (passes_checked _ (n 7));
          linear = rw way ((every_linear.rule c.layout (source_size source) Source (dense c)).holds (n 8));
          fact = test_fails _ _ (n 9);
        },
        f.1,
      )

  upload : (source : UploadSource) → c.direction ≡ Upload source → Accepted c → decided (upload_checks source c) plan ≡ plan
  unfolding upload_checks
  upload source way a =
      let r = a.buffer_bounds in
      let b = a.buffer_usage in
      let t = a.texture_usage in
      let f = a.format in
      let l = a.layout in
      let m = a.linear in
      all_pass BufferTexturePlan (plan_for c) (upload_checks source c) (
        source_passes source (rw way at r),
        (
          texture_passes c.texture Destination a.texture_bounds,
          (
            range_passes Destination a,
            (
              chosen_passes c a.chosen,
              (
                test_off _ _ (not-true _ (rw way at b)),
                (
                  test_off _ _ (not_no _ (rw way at t)),
                  (
                    checked_passes _ (rw way at f),
                    (
                      checked_passes _ (rw way at l),
                      (
                        linear_passes Source (source_size source) (rw way at m),
                        (
                          test_off _ _ a.fact,
                          tt,
                        ),
                      ),
                    ),
                  ),
                ),
              ),
            ),
          ),
        ),
      )

  download_of : (b : Buffer) → c.direction ≡ Download b → (p : BufferTexturePlan) → decided (download_checks b c) plan ≡ Ok p → Accepted c × (plan_for c ≡ p)
  unfolding download_checks
  download_of b way p h =
      let f = none_found BufferTexturePlan (plan_for c) (download_checks b c) p h in
      let n = f.0 in (
        record {
          buffer_bounds = rw way (buffer_of_lem b Destination (n 1));
          texture_bounds = texture_of_lem c.texture Source (n 0);
          range = (every_range c.view c.texture Source c.size).holds (n 2);
          chosen = chosen_of c (n 3);
          buffer_usage = rw way (not-false _ (test_fails _ _ (n 9)));
          texture_usage = rw way (not-false _ (test_fails _ _ (n 4)));
          format = rw way (passes_checked _ (n 5));
          layout = rw way (passes_checked _ (n 6));
          linear = rw way ((every_linear.rule c.layout b.size Destination (dense c)).holds (n 7));
          fact = test_fails _ _ (n 8);
        },
        f.1,
      )

  download : (b : Buffer) → c.direction ≡ Download b → Accepted c → decided (download_checks b c) plan ≡ plan
  unfolding download_checks
  download buffer way a =
      let r = a.buffer_bounds in
      let b = a.buffer_usage in
      let t = a.texture_usage in
      let f = a.format in
      let l = a.layout in
      let m = a.linear in
      all_pass BufferTexturePlan (plan_for c) (download_checks buffer c) (
        texture_passes c.texture Source a.texture_bounds,
        (
          buffer_passes buffer Destination (rw way at r),
          (
            range_passes Source a,
            (
              chosen_passes c a.chosen,
              (
                test_off _ _ (not_no _ (rw way at t)),
                (
                  checked_passes _ (rw way at f),
                  (
                    checked_passes _ (rw way at l),
                    (
                      linear_passes Destination buffer.size (rw way at m),
                      (
                        test_off _ _ a.fact,
                        (
                          test_off _ _ (not_no _ (rw way at b)),
                          tt,
                        ),
                      ),
                    ),
                  ),
                ),
              ),
            ),
          ),
        ),
      )

  planned_by_lem : (d : Direction) → c.direction ≡ d → planned c ≡ decided (checks_of d c) plan
  unfolding planned
  planned_by_lem d way = ap (λ (e : Direction). decided (checks_of e c) plan) way

  either_way : (d : Direction) → c.direction ≡ d → CopyLaw c
  either_way (Upload source) way =
      let q = planned_by_lem (Upload source) way in
      record { has_plan = λ a. q ∙ upload source way a; is_accepted = λ p h. upload_of source way p (sym q ∙ h) }
  either_way (Download b) way =
      let q = planned_by_lem (Download b) way in
      record { has_plan = λ a. q ∙ download b way a; is_accepted = λ p h. download_of b way p (sym q ∙ h) }

pub every_copy_law : EveryCopyLaw
every_copy_law c = either_way c c.direction refl

-- ---- a copy is planned by the function of its way

pub as_uploaded : (c : Copy) (b : Buffer) → c.direction ≡ Upload (S.Buffer b) → buffer_to_texture c.device b c.layout c.texture c.view c.size ≡ planned c
unfolding buffer_to_texture
as_uploaded c b way = rw (← way) refl

pub as_written : (c : Copy) (length : ℕ) → c.direction ≡ Upload (S.Memory length) → memory_to_texture c.device length c.layout c.texture c.view c.size ≡ planned c
unfolding memory_to_texture
as_written c length way = rw (← way) refl

pub as_downloaded : (c : Copy) (b : Buffer) → c.direction ≡ Download b → texture_to_buffer c.device c.texture c.view b c.layout c.size ≡ planned c
unfolding texture_to_buffer
as_downloaded c b way = rw (← way) refl
