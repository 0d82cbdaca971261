-- Copies from texture to texture: the checks in their order, each with its number, and the plan.
use Rattle.std.specs.Prelude.{ℕ, false, ◌&&◌, not, eqb, Result, Ok}
use mathlib.Core.List.{[], ◌∷◌, flatten}
use Rattle.conditions.specs.Conditions.{pick}
use Rattle.measures.specs.declared.Extent3d.{Extent3d}
use Rattle.flags.specs.TextureUsages as TextureUsages
use Rattle.flags.specs.Flags.{contains}
use Rattle.refusals.specs.declared.CopySide.TheVariants.{Source, Destination}
use Rattle.refusals.specs.declared.TextureErrorDimension.TheVariants.{X, Y}
use Rattle.refusals.specs.declared.TransferError.TheVariants as E
use Rattle.refusals.specs.Order.{Checks, refuse_if, decided}
use Rattle.records.specs.Bounds.{texture_checks}
use Rattle.rule_copy_range.specs.Range.{subject_of, dimension_checks, range_checks}
use Rattle.rule_selectors.specs.Selector.{selector_checks, same_texture_checks}
use Rattle.records.specs.declared.TextureSide.{TextureSide}
use Rattle.copy_textures.specs.Copy.{BetweenTextures, between, is_one_texture, splits, formats_differ, plane_width, plane_height, lacks_aspects, layers, plan_for}
use Rattle.plan_textures.specs.declared.TexturePlan.{TexturePlan}
use Rattle.refusals.specs.declared.TransferError.{TransferError}

-- X and Y of the source against its plane
unfoldable pub plane_checks : TextureSide → Extent3d → Checks
plane_checks src size =
    flatten (dimension_checks (subject_of src.texture Source) X src.view.origin.x size.width (plane_width src) false)  -- 9
    ∷ flatten (dimension_checks (subject_of src.texture Source) Y src.view.origin.y size.height (plane_height src) false)  -- 9
    ∷ []

unfoldable pub texture_copy_checks : BetweenTextures → Checks
texture_copy_checks c =
    flatten (texture_checks c.src.texture Source)  -- 2
    ∷ flatten (texture_checks c.dst.texture Destination)  -- 2
    ∷ refuse_if (formats_differ c.src c.dst && not (splits c)) (E.TextureFormatsNotCopyCompatible c.src.texture.format c.dst.texture.format)  -- 33
    ∷ flatten (range_checks c.src.view c.src.texture Source c.size)  -- module 3
    ∷ flatten (range_checks c.dst.view c.dst.texture Destination c.size)  -- module 3
    ∷ flatten (pick (splits c) (plane_checks c.src c.size) [])  -- 9 against the plane
    ∷ flatten (pick (is_one_texture c) (same_texture_checks c.src.view c.dst.view c.src.texture.format (layers c)) [])  -- 11
    ∷ flatten (selector_checks c.src.view c.src.texture)  -- 12
    ∷ flatten (selector_checks c.dst.view c.dst.texture)  -- 12
    ∷ refuse_if (not (splits c) && lacks_aspects c.src) E.CopySrcMissingAspects  -- 26
    ∷ refuse_if (lacks_aspects c.dst) E.CopyDstMissingAspects  -- 27
    ∷ refuse_if (not (eqb c.src.texture.sample_count c.dst.texture.sample_count)) (E.SampleCountNotEqual c.src.texture.sample_count c.dst.texture.sample_count)  -- 36
    ∷ refuse_if (not (contains c.src.texture.usage.0 TextureUsages.COPY_SRC)) (E.MissingTextureUsage Source)  -- 6
    ∷ refuse_if (not (contains c.dst.texture.usage.0 TextureUsages.COPY_DST)) (E.MissingTextureUsage Destination)  -- 6
    ∷ []

-- the textures are told apart by their indices
unfoldable pub texture_to_texture : ℕ → TextureSide → ℕ → TextureSide → Extent3d → Result TexturePlan TransferError
texture_to_texture i src j dst size = let c = between i src j dst size in decided (texture_copy_checks c) (Ok (plan_for c))
