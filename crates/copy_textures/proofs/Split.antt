-- Equal formats are no plane split, and do not differ.
-- Assumes nothing.
use Rattle.std.specs.Option.{option_eq}
use Rattle.std.specs.Prelude.{Option, Some, None}
use mathlib.Core.Path.{◌≡◌, refl, sym, ap, ◌∙◌}
use mathlib.Core.Bool.{Bool, true, false, not}
use Prim.Native.Nat.{ℕ}
use native.Mathlib.Omega.{arith}
use lib.Dec.{eqb}
use borrow.Author.Tests.{eqb-true, eq-eqb, ne_eqb}
use Rattle.conditions.specs.Conditions.{stop_if}
use Rattle.formats.specs.declared.TextureAspect.{TextureAspect}
use Rattle.formats.specs.declared.TextureAspect.TheVariants.{All, StencilOnly, DepthOnly, Plane0, Plane1, Plane2}
use Rattle.formats.specs.Table.{remove_srgb, is_multi_planar}
use Rattle.formats.specs.Aspects.{plane_format, aspect_specific_format}
use Rattle.copy_textures.specs.Copy.{is_this}

-- a planar format is none of its planes' formats
other_format : (format : ℕ) (t : Bool) → eqb format 21 ≡ t → (asked : TextureAspect) → is_this (stop_if t (plane_format asked) None) format ≡ false
unfolding is_this stop_if plane_format
other_format format true e All = refl
other_format format true e StencilOnly = refl
other_format format true e DepthOnly = refl
other_format format true e Plane0 = ne_eqb 0 format (λ z. omega (arith, z, eqb-true format 21 e))
other_format format true e Plane1 = ne_eqb 1 format (λ z. omega (arith, z, eqb-true format 21 e))
other_format format true e Plane2 = refl
other_format format false e asked = refl

pub no_split : (f g : ℕ) (asked : TextureAspect) → f ≡ g → false ≡ is_this (aspect_specific_format (remove_srgb f) asked) (remove_srgb g)
unfolding aspect_specific_format is_multi_planar
no_split f g asked e = sym (other_format (remove_srgb f) _ refl asked) ∙ ap (λ (n : ℕ). is_this (aspect_specific_format (remove_srgb f) asked) (remove_srgb n)) e

pub no_difference : (f g : ℕ) → f ≡ g → false ≡ not (eqb (remove_srgb f) (remove_srgb g))
no_difference f g e = rw (eq-eqb (remove_srgb f) (remove_srgb g) (ap remove_srgb e))

-- an equation of options as a test of a number
pub this : (x : Option ℕ) (n : ℕ) → option_eq eqb x (Some n) ≡ is_this x n
unfolding is_this
this (Some m) n = refl
this None n = refl
