-- The numbers of an accepted copy's plan are below the one that stands for absent.
-- Assumes nothing.
use Prim.{tt}
use mathlib.Core.Path.{◌≡◌, refl}
use mathlib.Core.Bool.{Bool, true, false}
use mathlib.Core.List.{List, [], ◌∷◌, map}
use Prim.Native.Nat.{ℕ, ◌+◌, ◌^◌, ◌≤◌, ◌<◌}
use native.Mathlib.Omega.{arith}
use lib.Dec.{ltb}
use borrow.Author.Tests.{ltb-true}
use Rattle.conditions.specs.Conditions.{pick, every}
use Rattle.conditions.proofs.Rules.{AllTrue, all_true}
use Rattle.conditions.proofs.Tables.{at_each}
use Rattle.measures.specs.declared.Extent3d.{Extent3d}
use Rattle.flags.specs.Flags.{meet}
use Rattle.mip_levels.specs.declared.TextureDimension.{TextureDimension}
use Rattle.mip_levels.specs.declared.TextureDimension.TheVariants.{D1, D2, D3}
use Rattle.mip_levels.specs.Level.{texture_dimension}
use Rattle.formats.specs.declared.FormatRow.{FormatRow}
use Rattle.formats.specs.declared.TextureAspect.{TextureAspect}
use Rattle.formats.specs.declared.TextureAspect.TheVariants.{All, StencilOnly, DepthOnly, Plane0, Plane1, Plane2}
use Rattle.formats.specs.Table.{formats, unknown, format_row, aspects_of}
use Rattle.formats.specs.Aspects.{asked_of, chosen_aspects}
use Rattle.records.specs.declared.Texture.{Texture}
use Rattle.records.specs.declared.TexelCopyTextureInfo.{TexelCopyTextureInfo}
use Rattle.rule_copy_range.specs.Range.{copy_extent, depth_of}
use Rattle.rule_selectors.specs.Selector.{layer_of, z_of, base_of}
use Rattle.claim_region_output.specs.Numbers.{base_numbers, sides}
use Rattle.claim_region_output.proofs.Kept.{Small}

pub either_way : {A : Type 0} (Q : A → Type 0) (t : Bool) (a b : A) → Q a → Q b → Q (pick t a b)
either_way Q true a b h k = h
either_way Q false a b h k = k

-- a word of aspects has six bits
abbrev asked : List TextureAspect
asked = All ∷ StencilOnly ∷ DepthOnly ∷ Plane0 ∷ Plane1 ∷ Plane2 ∷ []

abbrev few_bits : FormatRow → Bool
few_bits row = every (map (λ (a : TextureAspect). ltb (asked_of row.aspects.0 a) 64) asked)

every_row : (format : ℕ) → few_bits (format_row format) ≡ true
unfolding format_row formats asked_of meet
every_row format = at_each few_bits formats unknown refl refl format

pub aspects_few : (format : ℕ) (a : TextureAspect) → chosen_aspects format a < 64
unfolding chosen_aspects aspects_of
aspects_few format a = by a (all_true (map (λ (a : TextureAspect). ltb (asked_of (format_row format).aspects.0 a) 64) asked) (every_row format))
  where
    by : (a : TextureAspect) → AllTrue (map (λ (a : TextureAspect). ltb (asked_of (format_row format).aspects.0 a) 64) asked) → asked_of (format_row format).aspects.0 a < 64
    by All t = ltb-true _ _ t.0
    by StencilOnly t = ltb-true _ _ t.1.0
    by DepthOnly t = ltb-true _ _ t.1.1.0
    by Plane0 t = ltb-true _ _ t.1.1.1.0
    by Plane1 t = ltb-true _ _ t.1.1.1.1.0
    by Plane2 t = ltb-true _ _ t.1.1.1.1.1.0

-- ---- figures of 32 bits

pub record Figures (view : TexelCopyTextureInfo) (size : Extent3d) : Type 0 where
  pub level : view.mip_level < 2 ^ 32
  pub x : view.origin.x.0 < 2 ^ 32
  pub y : view.origin.y.0 < 2 ^ 32
  pub z : view.origin.z < 2 ^ 32
  pub width : size.width.0 < 2 ^ 32
  pub height : size.height.0 < 2 ^ 32
  pub depth : size.depth_or_array_layers < 2 ^ 32

layer_less : (d : TextureDimension) (z : ℕ) → (layer_of d z ≤ z) × (z_of d z ≤ z)
layer_less D1 z = (omega arith, omega arith)
layer_less D2 z = (omega arith, omega arith)
layer_less D3 z = (omega arith, omega arith)

depth_less : (d : TextureDimension) (n : ℕ) → depth_of d n ≤ n + 1
depth_less D1 n = omega arith
depth_less D2 n = omega arith
depth_less D3 n = omega arith

module _ (view : TexelCopyTextureInfo) (t : Texture) (size : Extent3d) (f : Figures view size) where
  pub base_small : Small (base_numbers (base_of view t (chosen_aspects t.format view.aspect)))
  unfolding base_of
  base_small =
      let d = layer_less (texture_dimension t.dimension) view.origin.z in
      let few = aspects_few t.format view.aspect in
      (omega (arith, f.level), (omega (arith, d.0, f.z), (omega (arith, f.x), (omega (arith, f.y), (omega (arith, d.1, f.z), (omega (arith, few), tt))))))

  pub extent_small : Small (sides (copy_extent t size))
  unfolding copy_extent
  extent_small = (omega (arith, f.width), (omega (arith, f.height), (omega (arith, depth_less (texture_dimension t.dimension) size.depth_or_array_layers, f.depth), tt)))
