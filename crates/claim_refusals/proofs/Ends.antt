-- Every refusal that an order of checks can find tells its box, or has another number; so the answer does.
-- Assumes nothing.
use Rattle.std.specs.Prelude.{Ok, Err}
use mathlib.Core.Path.{◌≡◌, refl}
use mathlib.Core.Bool.{Bool, true, false}
use mathlib.Core.List.{[], flatten}
use mathlib.Core.Logic.{◌⊎◌, inl, inr}
use Prim.Native.Nat.{ℕ}
use Rattle.conditions.specs.Conditions.{pick}
use Rattle.formats.specs.declared.TextureAspect.{TextureAspect}
use Rattle.refusals.specs.declared.CopySide.{CopySide}
use Rattle.refusals.specs.declared.CopySide.TheVariants.{Source, Destination}
use Rattle.refusals.specs.declared.Refusal.{Refusal}
use Rattle.refusals.specs.declared.TextureErrorDimension.TheVariants.{X, Y}
use Rattle.refusals.specs.declared.TransferError.{TransferError}
use Rattle.refusals.specs.Numbers.{side_of, numbers_of}
use Rattle.refusals.specs.Order.{Checks, decided}
use Rattle.refusals.proofs.Every.{AllOf, AllIn, all_flat, first_of}
use Rattle.records.specs.declared.Buffer.{Buffer}
use Rattle.records.specs.declared.Texture.{Texture}
use Rattle.records.specs.declared.TextureSide.{TextureSide}
use Rattle.records.specs.declared.TexelCopyBufferLayout.{TexelCopyBufferLayout}
use Rattle.records.specs.Bounds.{buffer_checks, texture_checks}
use Rattle.rule_copy_range.specs.Range.{dimension_checks, subject_of, range_checks}
use Rattle.rule_linear_data.specs.declared.Dense.{Dense}
use Rattle.rule_linear_data.specs.Linear.{linear_checks}
use Rattle.rule_formats.specs.Rules.{src_format_checks, dst_format_checks, layout_checks}
use Rattle.rule_selectors.specs.Selector.{selector_checks, same_texture_checks}
use Rattle.copy_buffer_texture.specs.declared.UploadSource.{UploadSource}
use Rattle.copy_buffer_texture.specs.declared.UploadSource.TheVariants as S
use Rattle.copy_buffer_texture.specs.Copy.{Upload, Download, Copy}
use Rattle.copy_buffer_texture.specs.Plan.{aspects, dense, source_checks, is_aligned, source_size, upload_checks, download_checks, plan_for, planned, buffer_to_texture, memory_to_texture, texture_to_buffer}
use Rattle.copy_textures.specs.Copy.{BetweenTextures, between, is_one_texture, splits, plane_width, plane_height, layers}
use Rattle.copy_textures.specs.Plan.{plane_checks, texture_copy_checks, texture_to_texture}
use Rattle.claim_refusals.specs.Ends.{Runs, OfSource, OfDestination, TrueEnd, EveryTrueEnd}
use Rattle.claim_refusals.proofs.Boxes.{Told, tested, x_told, y_told, range_told}

-- ---- the other rules

module _ (Box : Refusal → Type 0) where
  abbrev Of : TransferError → Type 0
  Of e = Told Box e

  buffer_told : (b : Buffer) (side : CopySide) → AllOf Of (flatten (buffer_checks b side))
  unfolding buffer_checks numbers_of
  buffer_told b side = all_flat Of (buffer_checks b side) (tested Box _ _ refl, tt)

  texture_told : (t : Texture) (side : CopySide) → AllOf Of (flatten (texture_checks t side))
  unfolding texture_checks numbers_of
  texture_told t side = all_flat Of (texture_checks t side) (tested Box _ _ refl, tt)

  source_told : (source : UploadSource) → AllOf Of (flatten (source_checks source))
  unfolding flatten
  source_told (S.Buffer b) = buffer_told b Source
  source_told (S.Memory length) = tt

  selector_told : (side : TextureSide) → AllOf Of (flatten (selector_checks side.view side.texture))
  unfolding selector_checks numbers_of
  selector_told side = all_flat Of (selector_checks side.view side.texture) (tested Box _ _ refl, tt)

  src_format_told : (format : ℕ) (aspect : TextureAspect) → AllOf Of (flatten (src_format_checks format aspect))
  unfolding src_format_checks numbers_of
  src_format_told format aspect = all_flat Of (src_format_checks format aspect) (tested Box _ _ refl, (tested Box _ _ refl, tt))

  dst_format_told : (format : ℕ) (aspect : TextureAspect) → AllOf Of (flatten (dst_format_checks format aspect))
  unfolding dst_format_checks numbers_of
  dst_format_told format aspect = all_flat Of (dst_format_checks format aspect) (tested Box _ _ refl, (tested Box _ _ refl, tt))

  layout_told : (aspect : TextureAspect) (aspects : ℕ) (t : Texture) (layout : TexelCopyBufferLayout) (aligned : Bool) → AllOf Of (flatten (layout_checks aspect aspects t layout aligned))
  unfolding layout_checks numbers_of
  layout_told aspect aspects t layout aligned =
      all_flat Of (layout_checks aspect aspects t layout aligned)
      (tested Box _ _ refl, (tested Box _ _ refl, (tested Box _ _ refl, (tested Box _ _ refl, tt))))

  linear_told : (layout : TexelCopyBufferLayout) (bytes : ℕ) (side : CopySide) (d : Dense) → AllOf Of (flatten (linear_checks layout bytes side d))
  unfolding linear_checks numbers_of
  linear_told layout bytes side d =
      all_flat Of (linear_checks layout bytes side d)
      (tested Box _ _ refl, (tested Box _ _ refl, (tested Box _ _ refl, (tested Box _ _ refl, (tested Box _ _ refl, (tested Box _ _ refl, (tested Box _ _ refl, (tested Box _ _ refl, (tested Box _ _ refl, tt)))))))))

  same_texture_told : (c : BetweenTextures) → AllIn Of (same_texture_checks c.src.view c.dst.view c.src.texture.format (layers c))
  unfolding same_texture_checks numbers_of
  same_texture_told c = (tested Box _ _ refl, tt)

  -- a rule that is asked in one case
  told_where : (t : Bool) (checks : Checks) → AllIn Of checks → AllOf Of (flatten (pick t checks []))
  unfolding flatten
  told_where true checks h = all_flat Of checks h
  told_where false checks h = tt

-- ---- between a buffer, or memory, and a texture

abbrev viewed : Copy → TextureSide
viewed c = record { texture = c.texture; view = c.view }

abbrev Written : Copy → Refusal → Type 0
Written c = OfDestination c.view.origin c.size

abbrev Read : Copy → Refusal → Type 0
Read c = OfSource c.view.origin c.size

written_box : (c : Copy) (n : Refusal) → n.side ≡ side_of Destination → Runs c.view.origin c.size n.dimension n.start n.end → Written c n
unfolding side_of
written_box c n p r = (p, r)

read_box : (c : Copy) (n : Refusal) → n.side ≡ side_of Source → Runs c.view.origin c.size n.dimension n.start n.end → Read c n
unfolding side_of
read_box c n p r = (p, r)

upload_told : (source : UploadSource) (c : Copy) → AllIn (Told (Written c)) (upload_checks source c)
unfolding upload_checks numbers_of
upload_told source c =
    let Box = Written c in (
      source_told Box source,
      (
        texture_told Box c.texture Destination,
        (
          all_flat (Told Box) (range_checks c.view c.texture Destination c.size) (range_told Box c.view c.texture Destination c.size (written_box c)),
          (
            selector_told Box (viewed c),
            (
              tested Box _ _ refl,
              (
                tested Box _ _ refl,
                (
                  dst_format_told Box c.texture.format c.view.aspect,
                  (
                    layout_told Box c.view.aspect (aspects c) c.texture c.layout (is_aligned source),
                    (
                      linear_told Box c.layout (source_size source) Source (dense c),
                      (
                        tested Box _ _ refl,
                        tt,
                      ),
                    ),
                  ),
                ),
              ),
            ),
          ),
        ),
      ),
    )

download_told : (b : Buffer) (c : Copy) → AllIn (Told (Read c)) (download_checks b c)
unfolding download_checks numbers_of
download_told b c =
    let Box = Read c in (
      texture_told Box c.texture Source,
      (
        buffer_told Box b Destination,
        (
          all_flat (Told Box) (range_checks c.view c.texture Source c.size) (range_told Box c.view c.texture Source c.size (read_box c)),
          (
            selector_told Box (viewed c),
            (
              tested Box _ _ refl,
              (
                src_format_told Box c.texture.format c.view.aspect,
                (
                  layout_told Box c.view.aspect (aspects c) c.texture c.layout true,
                  (
                    linear_told Box c.layout b.size Destination (dense c),
                    (
                      tested Box _ _ refl,
                      (
                        tested Box _ _ refl,
                        tt,
                      ),
                    ),
                  ),
                ),
              ),
            ),
          ),
        ),
      ),
    )

uploaded : (source : UploadSource) (c : Copy) (e : TransferError) → decided (upload_checks source c) (Ok (plan_for c)) ≡ Err e → TrueEnd (Written c) (numbers_of e)
uploaded source c e h = first_of (Told (Written c)) _ (upload_checks source c) e (upload_told source c) h

downloaded : (b : Buffer) (c : Copy) (e : TransferError) → decided (download_checks b c) (Ok (plan_for c)) ≡ Err e → TrueEnd (Read c) (numbers_of e)
downloaded b c e h = first_of (Told (Read c)) _ (download_checks b c) e (download_told b c) h

-- ---- between textures

abbrev Either : BetweenTextures → Refusal → Type 0
Either c n = OfSource c.src.view.origin c.size n ⊎ OfDestination c.dst.view.origin c.size n

src_box : (c : BetweenTextures) (n : Refusal) → n.side ≡ side_of Source → Runs c.src.view.origin c.size n.dimension n.start n.end → Either c n
unfolding side_of
src_box c n p r = inl (p, r)

dst_box : (c : BetweenTextures) (n : Refusal) → n.side ≡ side_of Destination → Runs c.dst.view.origin c.size n.dimension n.start n.end → Either c n
unfolding side_of
dst_box c n p r = inr (p, r)

plane_told : (c : BetweenTextures) → AllIn (Told (Either c)) (plane_checks c.src c.size)
unfolding plane_checks
plane_told c =
    let Box = Either c in (
      all_flat (Told Box) (dimension_checks (subject_of c.src.texture Source) X c.src.view.origin.x c.size.width (plane_width c.src) false) (x_told Box c.src.texture Source c.src.view.origin c.size (src_box c) (plane_width c.src) false),
      (
        all_flat (Told Box) (dimension_checks (subject_of c.src.texture Source) Y c.src.view.origin.y c.size.height (plane_height c.src) false) (y_told Box c.src.texture Source c.src.view.origin c.size (src_box c) (plane_height c.src) false),
        tt,
      ),
    )

between_told : (c : BetweenTextures) → AllIn (Told (Either c)) (texture_copy_checks c)
unfolding texture_copy_checks numbers_of
between_told c =
    let Box = Either c in (
      texture_told Box c.src.texture Source,
      (
        texture_told Box c.dst.texture Destination,
        (
          tested Box _ _ refl,
          (
            all_flat (Told Box) (range_checks c.src.view c.src.texture Source c.size) (range_told Box c.src.view c.src.texture Source c.size (src_box c)),
            (
              all_flat (Told Box) (range_checks c.dst.view c.dst.texture Destination c.size) (range_told Box c.dst.view c.dst.texture Destination c.size (dst_box c)),
              (
                told_where Box (splits c) (plane_checks c.src c.size) (plane_told c),
                (
                  told_where Box (is_one_texture c) (same_texture_checks c.src.view c.dst.view c.src.texture.format (layers c)) (same_texture_told Box c),
                  (
                    selector_told Box c.src,
                    (
                      selector_told Box c.dst,
                      (
                        tested Box _ _ refl,
                        (
                          tested Box _ _ refl,
                          (
                            tested Box _ _ refl,
                            (
                              tested Box _ _ refl,
                              (
                                tested Box _ _ refl,
                                tt,
                              ),
                            ),
                          ),
                        ),
                      ),
                    ),
                  ),
                ),
              ),
            ),
          ),
        ),
      ),
    )

-- ---- every copy

pub every_true_end : EveryTrueEnd
unfolding buffer_to_texture memory_to_texture texture_to_buffer planned texture_to_texture
every_true_end = record {
  from_buffer = λ device b layout t view size e h.
      uploaded (S.Buffer b) (record { direction = Upload (S.Buffer b); device = device; layout = layout; texture = t; view = view; size = size }) e h;
  from_memory = λ device length layout t view size e h.
      uploaded (S.Memory length) (record { direction = Upload (S.Memory length); device = device; layout = layout; texture = t; view = view; size = size }) e h;
  into_buffer = λ device t view b layout size e h.
      downloaded b (record { direction = Download b; device = device; layout = layout; texture = t; view = view; size = size }) e h;
  between_textures = λ i src j dst size e h.
      let c = between i src j dst size in
      first_of (Told (Either c)) _ (texture_copy_checks c) e (between_told c) h;
}
