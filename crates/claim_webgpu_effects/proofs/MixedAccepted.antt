-- Copies between 2D and 3D that are accepted, evaluated: every definition on the way to the plan is opened.
-- Assumes nothing.
use Rattle.std.specs.Prelude.{Ok}
use mathlib.Core.Path.{◌≡◌, refl}
use Prim.Native.Nat.{ℕ}
use native.Mathlib.Omega.{arith}
use mathlib.Core.List.{flatten}
use Rattle.conditions.specs.Conditions.{stop_if}
use Rattle.measures.specs.Measure.{multiple, blocks_of, rounded_up, physical_size, round_up}
use Rattle.flags.specs.Flags.{contains}
use Rattle.mip_levels.specs.Level.{halved, side_at, mip_level_size, halvings, max_mip_levels, texture_dimension, texels_at}
use Rattle.formats.specs.Table.{formats, format_row, is_format, aspects_of, is_depth_stencil, remove_srgb, is_multi_planar, block_dimensions}
use Rattle.formats.specs.Aspects.{asked_of, chosen_aspects, aspect_specific_format}
use Rattle.refusals.specs.Order.{refuse_if, first, decided}
use Rattle.records.specs.Bounds.{within, size_in_bounds, mip_side, levels_in_bounds, may_be_multisampled, samples_in_bounds, dimension_suits, sides_whole, planes_suit, fields_in_bounds, format_suits, texture_in_bounds, texture_checks}
use Rattle.records.specs.Extents.{logical_extent, physical_extent}
use Rattle.rule_copy_range.specs.Range.{is_partial, overruns, dimension_checks, side_checks, block_checks, requires_exact, range_checks}
use Rattle.rule_selectors.specs.Selector.{selector_checks}
use Rattle.copy_textures.specs.Copy as T
use Rattle.copy_textures.specs.Copy.{is_one_texture, is_this, is_plane_split, formats_differ}
use Rattle.copy_textures.specs.Plan.{texture_copy_checks, texture_to_texture}
use Rattle.claim_webgpu_rules.specs.Formats as W
use Rattle.claim_texture_regions.specs.Regions.{Copy, regions_of}
use Rattle.claim_texture_regions.proofs.Accepted.{plan_for}
use Rattle.claim_texture_regions.proofs.Claims.{every_texture_copy}
use Rattle.claim_webgpu_effects.specs.Mixed.{example, IsAccepted, MixedAccepted}

abbrev Planned : Copy → Type 0
Planned c = texture_to_texture 0 c.src 1 c.dst c.size ≡ Ok (plan_for c)

planned : Planned (example 2 3) × Planned (example 3 2)
unfolding stop_if multiple blocks_of rounded_up round_up physical_size contains halved side_at texels_at mip_level_size halvings max_mip_levels texture_dimension formats format_row is_format block_dimensions aspects_of is_depth_stencil remove_srgb is_multi_planar asked_of chosen_aspects aspect_specific_format refuse_if first decided flatten within size_in_bounds mip_side levels_in_bounds may_be_multisampled samples_in_bounds dimension_suits sides_whole planes_suit fields_in_bounds format_suits texture_in_bounds texture_checks logical_extent physical_extent is_partial overruns dimension_checks side_checks block_checks requires_exact range_checks selector_checks is_one_texture is_this is_plane_split formats_differ texture_copy_checks T.plan_for texture_to_texture
planned = (refl, refl)

r8unorm : W.Known 0
unfolding W.formats
r8unorm = omega arith

accepted : (s d : ℕ) → Planned (example s d) → IsAccepted (example s d)
accepted s d e =
    let c = example s d in (
      regions_of c,
      record {
        i = 0;
        j = 1;
        plan = plan_for c;
        planned = e;
        src_known = r8unorm;
        dst_known = r8unorm;
        given = (every_texture_copy 0 1 c (plan_for c) e (regions_of c)).1 refl;
      },
    )

pub mixed_accepted : MixedAccepted
mixed_accepted = (accepted 2 3 planned.0, accepted 3 2 planned.1)
