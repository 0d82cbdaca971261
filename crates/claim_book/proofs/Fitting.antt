-- The texture ranges of an accepted copy lie inside the book of their texture.
-- Assumes nothing.
use Rattle.std.specs.Prelude.{Some, None}
use mathlib.Core.Path.{◌≡◌, ap, subst, ◌∙◌}
use mathlib.Core.Bool.{Bool, true, false}
use Prim.Native.Nat.{ℕ, ◌+◌, ◌≤◌}
use native.Mathlib.Omega.{arith}
use Rattle.conditions.specs.Conditions.{pick}
use Rattle.measures.specs.declared.Extent3d.{Extent3d}
use Rattle.measures.specs.Measure.{is_empty, physical_size}
use Rattle.mip_levels.specs.declared.TextureDimension.{TextureDimension}
use Rattle.mip_levels.specs.declared.TextureDimension.TheVariants.{D1, D2, D3}
use Rattle.mip_levels.specs.Level.{texture_dimension, mip_level_size}
use Rattle.records.specs.declared.Texture.{Texture}
use Rattle.records.specs.declared.TexelCopyTextureInfo.{TexelCopyTextureInfo}
use Rattle.records.specs.Bounds.{texture_in_bounds}
use Rattle.records.specs.Extents.{logical_extent, physical_extent}
use Rattle.records.proofs.Bounded.{texture_laws}
use Rattle.rule_copy_range.specs.Laws.{RangeLaws}
use Rattle.rule_init_ranges.specs.declared.MemoryInitKind.{MemoryInitKind}
use Rattle.rule_init_ranges.specs.declared.BufferInitRanges.{BufferInitRanges}
use Rattle.rule_init_ranges.specs.declared.TextureInitRange.{TextureInitRange}
use Rattle.rule_init_ranges.specs.Init.{init_layers, texture_range, src_texture_range, dst_texture_range}
use Rattle.plan_buffer_texture.specs.declared.BufferTexturePlan.{BufferTexturePlan}
use Rattle.plan_buffer_texture.specs.Plan as B
use Rattle.plan_textures.specs.declared.TexturePlan.{TexturePlan}
use Rattle.plan_textures.specs.Plan as T
use Rattle.copy_buffer_texture.specs.declared.UploadSource.TheVariants as S
use Rattle.copy_buffer_texture.specs.Copy.{Direction, Upload, Download, Copy}
use Rattle.copy_buffer_texture.specs.Plan.{copy_texture_range}
use Rattle.copy_buffer_texture.specs.Plan as buffer
use Rattle.copy_buffer_texture.proofs.Accepted as buffer_copies
use Rattle.copy_textures.specs.Copy.{BetweenTextures, between}
use Rattle.copy_textures.specs.Copy as textures
use Rattle.copy_textures.specs.Laws.{planned}
use Rattle.copy_textures.proofs.Accepted as texture_copies
use Rattle.book_marks.specs.Book.{layer_count}
use Rattle.claim_webgpu_copies.proofs.Records.{record_bounds}
use Rattle.claim_book.specs.Fitting.{Fits, RangeFits, RangesFit, EveryFittingRange}
use Rattle.claim_book.proofs.Created.{few_layers, layers_are}

-- ---- a range by the dimension: a box that ends within its level's depth ends within the book's layers

ends_by :
    (v : TextureDimension) (e : Extent3d) (level z depth : ℕ) → z + depth ≤ (mip_level_size v e level).depth_or_array_layers
    → ((init_layers v z depth).start ≤ (init_layers v z depth).end) × ((init_layers v z depth).end ≤ layer_count v e)
unfolding mip_level_size layer_count
ends_by D1 e level z depth h = (omega arith, h)
ends_by D2 e level z depth h = (omega arith, h)
ends_by D3 e level z depth h = (omega arith, omega arith)

within_level :
    (view : TexelCopyTextureInfo) (t : Texture) (size : Extent3d) → RangeLaws view t size
    → view.origin.z + size.depth_or_array_layers ≤ (mip_level_size (texture_dimension t.dimension) t.size view.mip_level).depth_or_array_layers
unfolding physical_extent logical_extent physical_size
within_level view t size l = l.z_inside

range_fits :
    (view : TexelCopyTextureInfo) (t : Texture) (size : Extent3d) (kind : MemoryInitKind) → texture_in_bounds t ≡ true → RangeLaws view t size
    → Fits t (texture_range view t size kind)
unfolding texture_range
range_fits view t size kind ok l b c =
    let bounds = (record_bounds.textures t).0 ok in
    let few = (texture_laws t ok).levels_few in
    let thin = (few_layers t bounds).1 in
    let level = l.level in
    let ends = ends_by (texture_dimension t.dimension) t.size view.mip_level view.origin.z size.depth_or_array_layers (within_level view t size l) in
    let count = layers_are t bounds in
    record {
      levels_few = omega (arith, c.levels, few);
      layers_few = omega (arith, c.layers, thin);
      level = omega (arith, c.levels, level);
      rising = ends.0;
      ending = omega (arith, c.layers, count, ends.1);
    }

source_fits :
    (view : TexelCopyTextureInfo) (t : Texture) (size : Extent3d) → texture_in_bounds t ≡ true → RangeLaws view t size
    → Fits t (src_texture_range view t size)
unfolding src_texture_range
source_fits view t size ok l = range_fits view t size _ ok l

destination_fits :
    (view : TexelCopyTextureInfo) (t : Texture) (size : Extent3d) → texture_in_bounds t ≡ true → RangeLaws view t size
    → Fits t (dst_texture_range view t size)
unfolding dst_texture_range
destination_fits view t size ok l = range_fits view t size _ ok l

-- ---- ranges that a plan reports, where the copy is not empty

reported : {A : Type 0} (empty : Bool) (x y : A) → pick empty None (Some x) ≡ Some y → x ≡ y
reported true x y h = let z : ◌≡◌ {A = ℕ} 0 1 = cc in absurd (omega arith)
reported false x y h = cc

-- ---- between a buffer, or memory, and a texture

module _ (c : Copy) where
  its_range : (r : TextureInitRange) (bs : BufferInitRanges) → (buffer.plan_for c).ranges ≡ Some (r, bs) → copy_texture_range c.direction c ≡ r
  unfolding buffer.plan_for B.plan_of B.ranges_of
  its_range r bs h = ap (λ (q : TextureInitRange × BufferInitRanges). q.0) (reported (is_empty c.size) _ (r, bs) h)

  either_way : (d : Direction) → texture_in_bounds c.texture ≡ true → RangeLaws c.view c.texture c.size → Fits c.texture (copy_texture_range d c)
  either_way (Upload source) ok l = destination_fits c.view c.texture c.size ok l
  either_way (Download b) ok l = source_fits c.view c.texture c.size ok l

  planned_fits : RangeFits c.texture (buffer.planned c)
  planned_fits p h r bs e =
      let a = (buffer_copies.every_copy_law c).is_accepted p h in
      let same = its_range r bs (ap (λ (q : BufferTexturePlan). q.ranges) a.1 ∙ e) in
      subst (λ (q : TextureInitRange). Fits c.texture q) same (either_way c.direction a.0.texture_bounds a.0.range)

-- ---- between textures

module _ (c : BetweenTextures) where
  abbrev of_source : TextureInitRange
  of_source = src_texture_range c.src.view c.src.texture c.size

  abbrev of_destination : TextureInitRange
  of_destination = dst_texture_range c.dst.view c.dst.texture c.size

  their_ranges : (rs rd : TextureInitRange) → (textures.plan_for c).ranges ≡ Some (rs, rd) → ◌≡◌ {A = TextureInitRange × TextureInitRange} (of_source, of_destination) (rs, rd)
  unfolding textures.plan_for T.plan_of T.ranges_of
  their_ranges rs rd h = reported (is_empty c.size) _ (rs, rd) h

  both_fit : RangesFit c.src.texture c.dst.texture (planned c)
  both_fit p h rs rd e =
      let a = (texture_copies.every_copy_law c).is_accepted p h in
      let same = their_ranges rs rd (ap (λ (q : TexturePlan). q.ranges) a.1 ∙ e) in (
        subst (λ (q : TextureInitRange × TextureInitRange). Fits c.src.texture q.0) same (source_fits c.src.view c.src.texture c.size a.0.src_bounds a.0.src_range),
        subst (λ (q : TextureInitRange × TextureInitRange). Fits c.dst.texture q.1) same (destination_fits c.dst.view c.dst.texture c.size a.0.dst_bounds a.0.dst_range),
      )

pub every_fitting_range : EveryFittingRange
unfolding buffer.buffer_to_texture buffer.memory_to_texture buffer.texture_to_buffer
every_fitting_range = record {
  from_buffer = λ device b layout t view size.
      planned_fits (record { direction = Upload (S.Buffer b); device = device; layout = layout; texture = t; view = view; size = size });
  from_memory = λ device length layout t view size.
      planned_fits (record { direction = Upload (S.Memory length); device = device; layout = layout; texture = t; view = view; size = size });
  into_buffer = λ device t view b layout size.
      planned_fits (record { direction = Download b; device = device; layout = layout; texture = t; view = view; size = size });
  between_textures = λ i src j dst size. both_fit (between i src j dst size);
}
