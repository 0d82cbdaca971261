-- The stages answer the first refusal of the list, or the plan.
-- Assumes nothing.
use Rattle.std.specs.Prelude.{Result, Err}
use mathlib.Core.Path.{◌≡◌, sym, ◌∙◌}
use mathlib.Core.Bool.{Bool}
use mathlib.Core.List.{flatten}
use Prim.Native.Nat.{ℕ}
use Rattle.conditions.specs.Conditions.{stop_if}
use Rattle.measures.specs.declared.Extent3d.{Extent3d}
use Rattle.refusals.specs.declared.CopySide.TheVariants.{Source, Destination}
use Rattle.refusals.specs.declared.TransferError.{TransferError}
use Rattle.refusals.specs.Order.{refuse_if, first, decided}
use Rattle.refusals.proofs.Order.{line, first_of_all}
use Rattle.refusals.proofs.Stages.{past_rule}
use Rattle.records.specs.Bounds.{texture_checks, both_texture_checks}
use Rattle.rule_selectors.specs.Selector.{base_of, selector_checked}
use Rattle.records.specs.declared.Texture.{Texture}
use Rattle.records.specs.declared.TextureSide.{TextureSide}
use Rattle.copy_textures.specs.Copy.{is_one_texture, plan_for}
use Rattle.copy_textures.specs.Plan.{texture_copy_checks, texture_to_texture}
use Rattle.copy_textures.specs.Stages.{within_plane, within_one, usable, selected_copy, placed_copy, texture_copy_staged}
use Rattle.plan_textures.specs.declared.TexturePlan.{TexturePlan}

line_p : (t : Bool) (e : TransferError) (rest : Result TexturePlan TransferError) → stop_if t (Err e) rest ≡ first (refuse_if t e) rest
line_p t e rest = line TexturePlan t e rest

-- a rule of two lists, list by list
past_both :
    (src dst : Texture) (rest : Result TexturePlan TransferError)
    → first (flatten (both_texture_checks src dst)) rest ≡ first (flatten (texture_checks src Source)) (first (flatten (texture_checks dst Destination)) rest)
unfolding both_texture_checks decided
past_both src dst rest = sym (first_of_all TexturePlan (both_texture_checks src dst) rest)

copy_law : (i : ℕ) (src : TextureSide) (j : ℕ) (dst : TextureSide) (size : Extent3d) → texture_copy_staged i src j dst size ≡ texture_to_texture i src j dst size
unfolding texture_copy_staged placed_copy selected_copy usable within_plane within_one selector_checked base_of texture_to_texture texture_copy_checks is_one_texture plan_for decided
copy_law i src j dst size = simp (line_p, past_rule, past_both)

pub by_law : (i : ℕ) (src : TextureSide) (j : ℕ) (dst : TextureSide) (size : Extent3d) (x : Result TexturePlan TransferError) → x ≡ texture_copy_staged i src j dst size → x ≡ texture_to_texture i src j dst size
by_law i src j dst size x h = h ∙ copy_law i src j dst size
