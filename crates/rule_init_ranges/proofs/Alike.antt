-- What a test of a side or an aspect by `==` says.
use mathlib.Core.Path.{◌≡◌, refl}
use denote.Enum.Bare.{sameb}
use Rattle.formats.specs.declared.TextureAspect.{TextureAspect}
use Rattle.formats.specs.declared.TextureAspect.TheVariants.{All, StencilOnly, DepthOnly, Plane0, Plane1, Plane2}
use Rattle.formats.specs.contracts.TextureAspect as AspectType
use Rattle.refusals.specs.declared.CopySide.{CopySide}
use Rattle.refusals.specs.declared.CopySide.TheVariants.{Source, Destination}
use Rattle.refusals.specs.contracts.CopySide as SideType
use Rattle.rule_init_ranges.specs.Init.{is_all, is_source}

pub same_source : (d : CopySide) → sameb SideType.the_type d Source ≡ is_source d
unfolding is_source
same_source Source = refl
same_source Destination = refl

pub same_all : (a : TextureAspect) → sameb AspectType.the_type a All ≡ is_all a
unfolding is_all
same_all All = refl
same_all StencilOnly = refl
same_all DepthOnly = refl
same_all Plane0 = refl
same_all Plane1 = refl
same_all Plane2 = refl
