-- The same answer as the functions between the first check and the last give it. Only the contracts of private functions cite this: no caller
-- need read it.
use Rattle.std.specs.Prelude.{ℕ, Bool, ◌&&◌, not, eqb, Result, Ok, Err}
use mathlib.Core.List.{[]}
use Rattle.conditions.specs.Conditions.{pick, stop_if, ◌$◌}
use Rattle.measures.specs.declared.Extent3d.{Extent3d}
use Rattle.flags.specs.TextureUsages as TextureUsages
use Rattle.flags.specs.Flags.{contains}
use Rattle.formats.specs.Table.{aspects_of}
use Rattle.refusals.specs.declared.CopySide.TheVariants.{Source, Destination}
use Rattle.refusals.specs.declared.TransferError.TheVariants as E
use Rattle.refusals.specs.Order.{Checks, checked, decided}
use Rattle.refusals.specs.Stages.{after}
use Rattle.records.specs.Bounds.{both_texture_checks}
use Rattle.rule_copy_range.specs.Range.{copy_extent, layer_count_of, range_checks}
use Rattle.rule_selectors.specs.declared.TextureCopyBase.{TextureCopyBase}
use Rattle.rule_selectors.specs.Selector.{selector_checked, same_texture_checks}
use Rattle.records.specs.declared.TextureSide.{TextureSide}
use Rattle.plan_textures.specs.Plan.{plan_of}
use Rattle.copy_textures.specs.Copy.{is_plane_split, formats_differ}
use Rattle.copy_textures.specs.Plan.{plane_checks}
use Rattle.plan_textures.specs.declared.TexturePlan.{TexturePlan}
use Rattle.refusals.specs.declared.TransferError.{TransferError}

-- for a planar source into a single-plane format
unfoldable pub within_plane : Bool → TextureSide → Extent3d → Checks
within_plane split src size = pick split (plane_checks src size) []

-- 11 if one texture
unfoldable pub within_one : Bool → TextureSide → TextureSide → Extent3d → Checks
within_one same src dst size = pick same (same_texture_checks src.view dst.view src.texture.format (layer_count_of src.texture size)) []

abbrev pub planned_copy : TextureSide → TextureSide → Extent3d → TextureCopyBase → TextureCopyBase → TexturePlan
planned_copy src dst size srcBase dstBase =
    plan_of src dst size (copy_extent src.texture size) (copy_extent dst.texture size) (layer_count_of src.texture size) srcBase dstBase

-- 36; 6 source, destination
unfoldable pub usable : TextureSide → TextureSide → Extent3d → TextureCopyBase → TextureCopyBase → Result TexturePlan TransferError
usable src dst size srcBase dstBase =
    stop_if (not (eqb src.texture.sample_count dst.texture.sample_count)) (Err (E.SampleCountNotEqual src.texture.sample_count dst.texture.sample_count)) $
    stop_if (not (contains src.texture.usage.0 TextureUsages.COPY_SRC)) (Err (E.MissingTextureUsage Source)) $
    stop_if (not (contains dst.texture.usage.0 TextureUsages.COPY_DST)) (Err (E.MissingTextureUsage Destination)) $
    Ok (planned_copy src dst size srcBase dstBase)

-- 12 source, destination; 26 (not for the split); 27
unfoldable pub selected_copy : Bool → TextureSide → TextureSide → Extent3d → Result TexturePlan TransferError
selected_copy split src dst size =
    after (selector_checked src.view src.texture size) λ from.
    after (selector_checked dst.view dst.texture size) λ to.
    stop_if (not split && not (eqb from.1.aspect.0 (aspects_of src.texture.format))) (Err E.CopySrcMissingAspects) $
    stop_if (not (eqb to.1.aspect.0 (aspects_of dst.texture.format))) (Err E.CopyDstMissingAspects) $
    usable src dst size from.1 to.1

-- 9 against the plane; 11
unfoldable pub placed_copy : Bool → Bool → TextureSide → TextureSide → Extent3d → Result TexturePlan TransferError
placed_copy same split src dst size =
    after (checked (within_plane split src size)) λ u.
    after (checked (within_one same src dst size)) λ v.
    selected_copy split src dst size

-- records: 2 source, 2 destination; 33; module 3 source, destination
unfoldable pub texture_copy_staged : ℕ → TextureSide → ℕ → TextureSide → Extent3d → Result TexturePlan TransferError
texture_copy_staged i src j dst size =
    after {A = TextureSide × TextureSide} (decided (both_texture_checks src.texture dst.texture) (Ok (src, dst))) λ t.
    stop_if (formats_differ src dst && not (is_plane_split src dst)) (Err (E.TextureFormatsNotCopyCompatible src.texture.format dst.texture.format)) $
    after (checked (range_checks t.0.view t.0.texture Source size)) λ u.
    after (checked (range_checks t.1.view t.1.texture Destination size)) λ v.
    placed_copy (eqb i j) (is_plane_split src dst) src dst size
