-- What a plan's words give is what the plan gives.
-- Assumes nothing.
use Rattle.std.proofs.Common.{◌≡◌, ℕ, ◌^◌, ◌<◌, Bool, true, false, eqb, drop, refl, mod-eq_of_lt, div-one, arith, ne_eqb}
use Rattle.measures.specs.Measure.{divided_by}
use Rattle.conditions.specs.Conditions.{stop_if}
use Rattle.flags.specs.FormatAspects.{DEPTH, STENCIL, PLANE_0}
use Rattle.plan_rows.specs.Rows.{buffer_copy_numbers, buffer_texture_copy_numbers, texture_copy_numbers}
use Rattle.rule_selectors.specs.Selector.{next_layer}
use Rattle.plan_buffers.specs.Asking as K
use Rattle.plan_buffer_texture.specs.Asking as L
use Rattle.plan_textures.specs.declared.CopyParts.{CopyParts}
use Rattle.plan_textures.specs.declared.CopyParts.TheVariants.{Whole, DepthStencil, Planes}
use Rattle.plan_textures.specs.declared.TexturePlan.{TexturePlan}
use Rattle.plan_textures.specs.Numbers.{parts_number}
use Rattle.plan_textures.specs.Asking as X
use Rattle.plan_kinds.specs.declared.Plan.{Plan}
use Rattle.plan_kinds.specs.declared.Plan.TheVariants.{Buffers, BufferTexture, Textures}
use Rattle.plan_kinds.specs.Regions.{left_of, next_numbers, region_numbers, behind_of}
use Rattle.c_words.specs.Words.{buffer_words, buffer_texture_words, texture_words}
use Rattle.c_regions.specs.Regions.{words_of, left_in, buffer_region, buffer_behind, buffer_texture_region, buffer_texture_behind, with_aspects, chroma_halved, depth_or_stencil, texture_region, part_follows, part_on, texture_behind}
use Rattle.c_regions.specs.Laws.{region_from, words_behind, NextAgrees, EveryStep}

-- a part as large as the layer differs from it in its aspects alone
full : (p : TexturePlan) (aspects : ℕ) → with_aspects aspects aspects (drop 3 (texture_words p)) ≡ texture_copy_numbers (X.region_as p aspects 1)
unfolding with_aspects texture_words texture_copy_numbers X.region_as X.base_as X.size_by divided_by
full p aspects =
    cc (div-one p.src.origin.x.0, div-one p.src.origin.y.0, div-one p.dst.origin.x.0, div-one p.dst.origin.y.0, div-one p.size.width.0, div-one p.size.height.0)

module _ (p : TexturePlan) (n : p.left < 2 ^ 32) (some_left : eqb p.left 0 ≡ false) where
  by_parts : (parts : CopyParts) (first : Bool) → p.parts ≡ parts → eqb p.part 0 ≡ first → NextAgrees (Textures p)
  unfolding region_from region_numbers next_numbers words_behind words_of behind_of X.next_of stop_if texture_copy_numbers X.region_of X.region_as X.base_as X.size_by divided_by X.advanced X.other_part X.other_layer next_layer texture_words parts_number with_aspects chroma_halved depth_or_stencil texture_region part_follows part_on texture_behind
  by_parts Whole first e f = rw (e, some_left, mod-eq_of_lt n) (refl, refl)
  by_parts DepthStencil true e f = rw (e, f, some_left, mod-eq_of_lt n) (full p DEPTH, refl)
  by_parts DepthStencil false e f = rw (e, f, some_left, mod-eq_of_lt n) (full p STENCIL, refl)
  by_parts Planes true e f = rw (e, f, some_left, mod-eq_of_lt n) (full p PLANE_0, refl)
  by_parts Planes false e f = rw (e, f, some_left, mod-eq_of_lt n) (refl, refl)

agrees : (p : Plan) → left_of p < 2 ^ 32 → eqb (left_of p) 0 ≡ false → NextAgrees p
unfolding left_of region_from region_numbers next_numbers words_behind words_of behind_of K.next_of L.next_of stop_if buffer_copy_numbers buffer_texture_copy_numbers K.advanced L.advanced L.moved next_layer buffer_words buffer_texture_words buffer_region buffer_behind buffer_texture_region buffer_texture_behind
agrees (Buffers p) n some_left = rw (some_left, mod-eq_of_lt n) (refl, refl)
agrees (BufferTexture p) n some_left = rw (some_left, mod-eq_of_lt n) (refl, refl)
agrees (Textures p) n some_left = by_parts p n some_left p.parts (eqb p.part 0) refl refl

left_agrees : (p : Plan) → left_of p < 2 ^ 32 → left_in (words_of p) ≡ left_of p
unfolding left_of words_of buffer_words buffer_texture_words texture_words
left_agrees (Buffers p) n = mod-eq_of_lt n
left_agrees (BufferTexture p) n = mod-eq_of_lt n
left_agrees (Textures p) n = mod-eq_of_lt n

pub every_step : EveryStep
every_step p n = (left_agrees p n, λ h. agrees p n (ne_eqb (left_of p) 0 (λ z. omega arith)))
