-- The aspects that a copy chooses of a format, and what they bring.
use Rattle.std.specs.Prelude.{ℕ, [], ◌∷◌, eqb, leb, get_or, Option, Some, None, Result, Ok, Err}
use Rattle.conditions.specs.Conditions.{pick, stop_if, ◌$◌}
use Rattle.flags.specs.Flags.{meet}
use Rattle.flags.specs.FormatAspects.{COLOR, DEPTH, STENCIL, PLANE_0, PLANE_1, PLANE_2}
use Rattle.formats.specs.declared.FormatRow.{FormatRow}
use Rattle.formats.specs.declared.TextureAspect.{TextureAspect}
use Rattle.formats.specs.declared.TextureAspect.TheVariants.{All, StencilOnly, DepthOnly, Plane0, Plane1, Plane2}
use Rattle.formats.specs.declared.UnknownAspect.{UnknownAspect}
use Rattle.formats.specs.Table.{format_row, aspects_of, is_multi_planar, none}

-- the last number that names an aspect
abbrev pub last_aspect : ℕ
last_aspect = 5

-- the aspect of a number, 0 to 5; a larger one, which callers refuse, counts as 5
unfoldable pub aspect_of : ℕ → TextureAspect
aspect_of n = get_or (All ∷ StencilOnly ∷ DepthOnly ∷ Plane0 ∷ Plane1 ∷ []) n Plane2

-- the aspect that a number names; one that names none is handed back
unfoldable pub named_aspect : ℕ → Result TextureAspect UnknownAspect
named_aspect n = pick (leb n last_aspect) (Ok (aspect_of n)) (Err (record { 0 = n }))

-- a word of aspects met with those asked
unfoldable pub asked_of : ℕ → TextureAspect → ℕ
asked_of aspects All = aspects
asked_of aspects StencilOnly = meet aspects STENCIL
asked_of aspects DepthOnly = meet aspects DEPTH
asked_of aspects Plane0 = meet aspects PLANE_0
asked_of aspects Plane1 = meet aspects PLANE_1
asked_of aspects Plane2 = meet aspects PLANE_2

-- the chosen aspects: the format's bits met with those asked
unfoldable pub chosen_aspects : ℕ → TextureAspect → ℕ
chosen_aspects format asked = asked_of (aspects_of format) asked

-- the bytes of a block of exactly one aspect that has some
unfoldable pub bytes_of : FormatRow → ℕ → ℕ
bytes_of row aspects =
    stop_if (eqb aspects COLOR) row.color $
    stop_if (eqb aspects DEPTH) row.depth $
    stop_if (eqb aspects STENCIL) row.stencil $
    stop_if (eqb aspects PLANE_0) row.plane_0 $
    stop_if (eqb aspects PLANE_1) row.plane_1 $
    none

abbrev pub unless_none : ℕ → Option ℕ
unless_none bytes = pick (eqb bytes none) None (Some bytes)

-- the bytes of a block of what is chosen, where it has some
unfoldable pub block_copy_size : ℕ → TextureAspect → Option ℕ
block_copy_size format asked = unless_none (bytes_of (format_row format) (chosen_aspects format asked))

-- the format that a plane of a planar format may be split into: r8unorm of plane 0, rg8unorm of plane 1
unfoldable pub plane_format : TextureAspect → Option ℕ
plane_format All = None
plane_format StencilOnly = None
plane_format DepthOnly = None
plane_format Plane0 = Some 0
plane_format Plane1 = Some 1
plane_format Plane2 = None

unfoldable pub aspect_specific_format : ℕ → TextureAspect → Option ℕ
aspect_specific_format format asked =
    stop_if (is_multi_planar format) (plane_format asked) $
    None

-- plane 1 of a planar format is halved both ways
unfoldable pub subsampling_factor : TextureAspect → ℕ
subsampling_factor All = 1
subsampling_factor StencilOnly = 1
subsampling_factor DepthOnly = 1
subsampling_factor Plane0 = 1
subsampling_factor Plane1 = 2
subsampling_factor Plane2 = 1
