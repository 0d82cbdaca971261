-- The points, evaluated: every definition on the way from a sheet's bytes to its listing's is opened.
-- Assumes nothing.
use mathlib.Core.Path.{◌≡◌, refl}
use Rattle.conditions.specs.Conditions as ConditionsConditions
use Rattle.measures.specs.Measure as MeasuresMeasure
use Rattle.flags.specs.Flags as FlagsFlags
use Rattle.mip_levels.specs.Level as MipLevelsLevel
use Rattle.formats.specs.Aspects as FormatsAspects
use Rattle.formats.specs.Table as FormatsTable
use Rattle.refusals.specs.Order as RefusalsOrder
use Rattle.refusals.specs.Numbers as RefusalsNumbers
use Rattle.records.specs.Bounds as RecordsBounds
use Rattle.records.specs.Extents as RecordsExtents
use Rattle.rule_copy_range.specs.Range as RuleCopyRangeRange
use Rattle.rule_linear_data.specs.Linear as RuleLinearDataLinear
use Rattle.rule_formats.specs.Rules as RuleFormatsRules
use Rattle.rule_selectors.specs.Selector as RuleSelectorsSelector
use Rattle.rule_init_ranges.specs.Init as RuleInitRangesInit
use Rattle.plan_buffers.specs.Asking as PlanBuffersAsking
use Rattle.plan_buffers.specs.Plan as PlanBuffersPlan
use Rattle.copy_buffers.specs.Plan as CopyBuffersPlan
use Rattle.plan_buffer_texture.specs.Asking as PlanBufferTextureAsking
use Rattle.plan_buffer_texture.specs.Plan as PlanBufferTexturePlan
use Rattle.copy_buffer_texture.specs.Plan as CopyBufferTexturePlan
use Rattle.plan_textures.specs.Asking as PlanTexturesAsking
use Rattle.plan_textures.specs.Plan as PlanTexturesPlan
use Rattle.copy_textures.specs.Copy as CopyTexturesCopy
use Rattle.copy_textures.specs.Plan as CopyTexturesPlan
use Rattle.sheet_text.specs.Text as SheetTextText
use Rattle.sheet_fields.specs.Codes as SheetFieldsCodes
use Rattle.sheet_fields.specs.Field as SheetFieldsField
use Rattle.sheet_fields.specs.Line as SheetFieldsLine
use Rattle.sheet_sections.specs.Rows as SheetSectionsRows
use Rattle.sheet_sections.specs.Sheet as SheetSectionsSheet
use Rattle.plan_rows.specs.Rows as PlanRowsRows
use Rattle.copy_kinds.specs.Ranges as CopyKindsRanges
use Rattle.plan_kinds.specs.Regions as PlanKindsRegions
use Rattle.copy_kinds.specs.Planned as CopyKindsPlanned
use Rattle.sheet_copies.specs.CopyLines as SheetCopiesCopyLines
use Rattle.sheet_records.specs.Records as SheetRecordsRecords
use Rattle.sheet_lines.specs.Lines as SheetLinesLines
use Rattle.sheet_copies.specs.Answers as SheetCopiesAnswers
use Rattle.sheet_listing.specs.Listing as SheetListingListing
use Rattle.claim_points.specs.Bytes.{bytes}
use Prim.Native.Nat.{ℕ}
use mathlib.Core.List.{List, flatten}
use Rattle.records.specs.declared.Device.{Device}
use Rattle.sheet_sections.specs.declared.Part.{Part}
use Rattle.sheet_sections.specs.declared.Parts.{Parts}
use Rattle.sheet_sections.specs.declared.SheetError.{SheetError}
use Rattle.std.specs.Prelude.{Result, Ok, Err}
use Rattle.claim_webgpu_copies.proofs.Parting.{examples}
use Rattle.claim_points.specs.Points.{point, points, Starred, volume, line, places, asks, RefusedByStandard}

-- the parts of a good sheet
no_part : Part
no_part = record { count = 0; first = 0; next = 0 }

parts_of : Result Parts SheetError → Parts
parts_of (Ok p) = p
parts_of (Err e) = record { devices = no_part; textures = no_part; buffers = no_part; copies = no_part }

its_parts : (s : Result Parts SheetError) (p : Parts) → s ≡ Ok p → p ≡ parts_of s
unfolding parts_of
its_parts s p e = rw e

-- the starred volume's sheet
sheet : List ℕ
sheet = bytes (point 7).sheet

evaluated :
    Starred × (asks sheet (parts_of (SheetSectionsSheet.sheet_of sheet)) ≡ volume)
    × ((bs : List ℕ) (device : Device) → SheetCopiesCopyLines.line_planned sheet (places sheet (parts_of (SheetSectionsSheet.sheet_of sheet))) bs device (line sheet (parts_of (SheetSectionsSheet.sheet_of sheet))) ≡ CopyKindsPlanned.planned_textures volume.src_index volume.src volume.dst_index volume.dst volume.size)
unfolding sheet parts_of points bytes flatten ConditionsConditions.stop_if MeasuresMeasure.or_else MeasuresMeasure.multiple MeasuresMeasure.blocks_of MeasuresMeasure.rounded_up MeasuresMeasure.in_blocks MeasuresMeasure.lesser_of MeasuresMeasure.divided_by MeasuresMeasure.round_up MeasuresMeasure.physical_size MeasuresMeasure.is_empty FlagsFlags.contains FlagsFlags.meet FlagsFlags.meets FlagsFlags.is_one MipLevelsLevel.halved MipLevelsLevel.side_at MipLevelsLevel.texels_at MipLevelsLevel.mip_level_size MipLevelsLevel.halvings MipLevelsLevel.max_mip_levels MipLevelsLevel.texture_dimension FormatsAspects.aspect_of FormatsAspects.asked_of FormatsAspects.chosen_aspects FormatsAspects.bytes_of FormatsAspects.block_copy_size FormatsAspects.plane_format FormatsAspects.aspect_specific_format FormatsAspects.subsampling_factor FormatsTable.formats FormatsTable.format_row FormatsTable.is_format FormatsTable.block_dimensions FormatsTable.aspects_of FormatsTable.is_depth_stencil FormatsTable.is_combined_depth_stencil FormatsTable.remove_srgb FormatsTable.is_multi_planar RefusalsOrder.refuse_if RefusalsOrder.first RefusalsOrder.decided RefusalsNumbers.side_of RefusalsNumbers.dimension_number RefusalsNumbers.numbers_of RecordsBounds.within RecordsBounds.buffer_in_bounds RecordsBounds.size_in_bounds RecordsBounds.mip_side RecordsBounds.levels_in_bounds RecordsBounds.may_be_multisampled RecordsBounds.samples_in_bounds RecordsBounds.dimension_suits RecordsBounds.sides_whole RecordsBounds.planes_suit RecordsBounds.fields_in_bounds RecordsBounds.format_suits RecordsBounds.texture_in_bounds RecordsBounds.buffer_checks RecordsBounds.texture_checks RecordsExtents.logical_extent RecordsExtents.physical_extent RuleCopyRangeRange.end_of RuleCopyRangeRange.is_partial RuleCopyRangeRange.overruns RuleCopyRangeRange.partial_transfer RuleCopyRangeRange.texture_overrun RuleCopyRangeRange.dimension_checks RuleCopyRangeRange.requires_exact RuleCopyRangeRange.subject_of RuleCopyRangeRange.copy_extent RuleCopyRangeRange.layer_count_of RuleCopyRangeRange.side_checks RuleCopyRangeRange.block_checks RuleCopyRangeRange.range_checks RuleCopyRangeRange.range_checked RuleLinearDataLinear.block_bytes RuleLinearDataLinear.dense_of RuleLinearDataLinear.several_rows RuleLinearDataLinear.several_images RuleLinearDataLinear.stacked RuleLinearDataLinear.is_contiguous_copy RuleLinearDataLinear.data_of RuleLinearDataLinear.is_below RuleLinearDataLinear.lacks RuleLinearDataLinear.linear_checks RuleLinearDataLinear.linear_checked RuleFormatsRules.is_depth_only RuleFormatsRules.src_format_checks RuleFormatsRules.dst_format_checks RuleFormatsRules.offset_alignment RuleFormatsRules.is_unaligned_row RuleFormatsRules.layout_checks RuleSelectorsSelector.selector_of RuleSelectorsSelector.base_of RuleSelectorsSelector.next_layer RuleSelectorsSelector.selector_checks RuleSelectorsSelector.selector_checked RuleSelectorsSelector.overlaps RuleSelectorsSelector.same_texture_checks RuleInitRangesInit.kind_number RuleInitRangesInit.is_all RuleInitRangesInit.size_differs RuleInitRangesInit.is_partial_cover RuleInitRangesInit.texture_range RuleInitRangesInit.src_texture_range RuleInitRangesInit.dst_texture_range RuleInitRangesInit.aligned_down RuleInitRangesInit.aligned_up RuleInitRangesInit.outward RuleInitRangesInit.inward RuleInitRangesInit.is_source RuleInitRangesInit.buffer_init RuleInitRangesInit.joined CopyBuffersPlan.size_or CopyBuffersPlan.is_shared CopyBuffersPlan.lacks_index_fact CopyBuffersPlan.buffer_copy_checks PlanBuffersPlan.plan_of CopyBuffersPlan.planned CopyBuffersPlan.buffer_to_buffer PlanBuffersAsking.advanced PlanBuffersAsking.next_of PlanBufferTextureAsking.moved PlanBufferTextureAsking.advanced PlanBufferTextureAsking.next_of PlanBufferTexturePlan.first_region PlanBufferTexturePlan.ranges_of PlanBufferTexturePlan.plan_of CopyBufferTexturePlan.lacks_depth_fact CopyBufferTexturePlan.upload_checks CopyBufferTexturePlan.download_checks CopyBufferTexturePlan.source_ranges CopyBufferTexturePlan.plan_for CopyBufferTexturePlan.planned CopyBufferTexturePlan.buffer_to_texture CopyBufferTexturePlan.memory_to_texture CopyBufferTexturePlan.texture_to_buffer PlanTexturesAsking.base_as PlanTexturesAsking.size_by PlanTexturesAsking.region_as PlanTexturesAsking.region_of PlanTexturesAsking.other_part PlanTexturesAsking.other_layer PlanTexturesAsking.advanced PlanTexturesAsking.next_of PlanTexturesPlan.lesser PlanTexturesPlan.parts_of PlanTexturesPlan.part_count PlanTexturesPlan.ranges_of PlanTexturesPlan.plan_of CopyTexturesCopy.is_one_texture CopyTexturesCopy.is_this CopyTexturesCopy.is_plane_split CopyTexturesCopy.formats_differ CopyTexturesCopy.plane_width CopyTexturesCopy.plane_height CopyTexturesCopy.plan_for CopyTexturesPlan.plane_checks CopyTexturesPlan.texture_copy_checks CopyTexturesPlan.texture_to_texture SheetTextText.digits_in SheetTextText.decimal SheetTextText.is_absent SheetTextText.number_text SheetTextText.spaced SheetTextText.line_text SheetFieldsCodes.rule_of SheetFieldsField.is_gap SheetFieldsField.token SheetFieldsField.is_digit SheetFieldsField.all_digits SheetFieldsField.plain SheetFieldsField.value_from SheetFieldsField.decimal_of SheetFieldsField.is_dash SheetFieldsField.not_below SheetFieldsField.token_of SheetFieldsField.field_up_to SheetFieldsField.field_of SheetFieldsField.push_of SheetFieldsLine.consed SheetFieldsLine.after_field SheetFieldsLine.separator_of SheetFieldsLine.fields_in SheetFieldsLine.line_with SheetFieldsLine.no_line SheetFieldsLine.line_of SheetSectionsRows.device_kinds SheetSectionsRows.texture_kinds SheetSectionsRows.buffer_kinds SheetSectionsRows.buffer_copy_kinds SheetSectionsRows.linear_kind SheetSectionsRows.buffer_texture_kinds SheetSectionsRows.texture_copy_kinds SheetSectionsRows.copy_kinds SheetSectionsRows.kind_at SheetSectionsRows.kinds_of SheetSectionsRows.row_of SheetSectionsRows.section_line SheetSectionsRows.row_at SheetSectionsRows.places_of SheetSectionsRows.rows_of SheetSectionsSheet.least_of SheetSectionsSheet.most_of SheetSectionsSheet.section_of_count SheetSectionsSheet.section_of SheetSectionsSheet.found_of SheetSectionsSheet.newlines SheetSectionsSheet.sheet_from SheetSectionsSheet.sheet_of SheetSectionsSheet.line_number PlanRowsRows.or_absent PlanRowsRows.buffer_copy_numbers PlanRowsRows.buffer_texture_copy_numbers PlanRowsRows.texture_copy_numbers PlanRowsRows.texture_range_numbers PlanRowsRows.buffer_range_numbers PlanRowsRows.refusal_numbers CopyKindsRanges.buffer_slot CopyKindsRanges.no_ranges CopyKindsRanges.buffer_ranges CopyKindsRanges.texture_and_buffer CopyKindsRanges.copy_ranges CopyKindsRanges.memory_ranges CopyKindsRanges.two_textures CopyKindsRanges.texture_ranges CopyKindsRanges.slot_count CopyKindsRanges.count_of PlanKindsRegions.left_of PlanKindsRegions.fields_of PlanKindsRegions.checked_bytes_of PlanKindsRegions.next_numbers PlanKindsRegions.region_numbers PlanKindsRegions.behind_of PlanKindsRegions.next_of PlanKindsRegions.regions_from PlanKindsRegions.regions_left CopyKindsPlanned.of_buffers CopyKindsPlanned.of_buffer_texture CopyKindsPlanned.of_memory CopyKindsPlanned.of_textures SheetCopiesCopyLines.texture_at SheetCopiesCopyLines.buffer_at SheetCopiesCopyLines.texture_side_at SheetCopiesCopyLines.past SheetCopiesCopyLines.named_buffers SheetCopiesCopyLines.index_checks SheetCopiesCopyLines.buffers_planned SheetCopiesCopyLines.named_copy SheetCopiesCopyLines.copy_planned SheetCopiesCopyLines.named_memory SheetCopiesCopyLines.memory_planned SheetCopiesCopyLines.named_textures SheetCopiesCopyLines.textures_planned SheetCopiesCopyLines.line_planned SheetRecordsRecords.value_of SheetRecordsRecords.word_of SheetRecordsRecords.word_or_absent SheetRecordsRecords.size_of SheetRecordsRecords.extent_of SheetRecordsRecords.origin_of SheetRecordsRecords.device_of SheetRecordsRecords.texture_of SheetRecordsRecords.buffer_of SheetRecordsRecords.view_of SheetRecordsRecords.layout_of SheetLinesLines.sheet_text SheetLinesLines.range_text SheetLinesLines.ranges_text SheetLinesLines.copy_text SheetLinesLines.plan_text SheetLinesLines.refusal_text SheetLinesLines.answer_text SheetLinesLines.region_text SheetListingListing.regions_text SheetListingListing.regions_left SheetListingListing.plan_left SheetListingListing.copies_piece SheetListingListing.copies_next SheetListingListing.plan_answered SheetListingListing.copy_answer SheetCopiesAnswers.answer_at SheetListingListing.copies_text SheetCopiesAnswers.texture_places SheetCopiesAnswers.buffer_places SheetCopiesAnswers.device_at SheetListingListing.listing_from SheetListingListing.listing_of SheetListingListing.state_with SheetListingListing.answer_of SheetListingListing.piece_of SheetListingListing.next_of SheetListingListing.text_left SheetListingListing.rest_of
evaluated = (refl, refl, λ bs device. refl)

pub starred : Starred
starred = evaluated.0

pub refused_by_standard : RefusedByStandard
unfolding sheet
refused_by_standard =
    record {
      asked = λ p e. rw (its_parts (SheetSectionsSheet.sheet_of sheet) p e) evaluated.1;
      answered = λ p e bs device. rw (its_parts (SheetSectionsSheet.sheet_of sheet) p e) (evaluated.2 bs device);
      accepted = examples.starred_volume.0;
      refused = examples.starred_volume.1;
    }
