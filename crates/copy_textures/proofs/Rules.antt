-- What the functions of a copy between textures need of the rules that they call.
-- Assumes nothing.
use Rattle.std.specs.Prelude.{Result, Ok, Err, IsErrAnd, is_ok}
use mathlib.Core.Path.{◌≡◌, refl, sym, ◌∙◌}
use mathlib.Core.Bool.{Bool, true, false}
use mathlib.Core.List.{[]}
use Prim.Native.Nat.{ℕ, ◌^◌, ◌≤◌, ◌<◌}
use native.Mathlib.Omega.{arith}
use Rattle.conditions.specs.Conditions.{pick}
use Rattle.measures.specs.declared.Extent3d.{Extent3d}
use Rattle.measures.specs.Measure.{physical_size, round_up}
use Rattle.formats.specs.declared.TextureAspect.{TextureAspect}
use Rattle.formats.specs.declared.TextureAspect.TheVariants.{All, StencilOnly, DepthOnly, Plane0, Plane1, Plane2}
use Rattle.formats.specs.Aspects.{subsampling_factor}
use Rattle.mip_levels.specs.declared.TextureDimension.{TextureDimension}
use Rattle.mip_levels.specs.declared.TextureDimension.TheVariants.{D1, D2, D3}
use Rattle.mip_levels.specs.Level.{texture_dimension}
use Rattle.refusals.specs.declared.CopySide.{CopySide}
use Rattle.refusals.specs.declared.TransferError.{TransferError}
use Rattle.refusals.specs.Order.{Checks, decided, checked, mapped}
use Rattle.refusals.proofs.Order.{first_of_all, rule_passes, rule_hands, none_found, checked_passes}
use Rattle.records.specs.declared.Texture.{Texture}
use Rattle.records.specs.declared.TexelCopyTextureInfo.{TexelCopyTextureInfo}
use Rattle.records.specs.Limits.{max_side3d}
use Rattle.records.specs.Bounds.{texture_in_bounds}
use Rattle.records.specs.Extents.{physical_extent}
use Rattle.records.proofs.Bounded.{texture_laws}
use Rattle.rule_copy_range.specs.Range.{layers_of, layer_count_of, range_checks}
use Rattle.rule_copy_range.proofs.Accepted.{every_range}

-- ---- checks that are made under a test

pub not_asked : (t : Bool) (checks : Checks) → t ≡ false → (Ok tt) ≡ checked (pick t checks [])
unfolding decided
not_asked true checks h = let z : ◌≡◌ {A = ℕ} 0 1 = cc in absurd (omega arith)
not_asked false checks h = refl

pub asked : (t : Bool) (checks : Checks) {x : Result Unit TransferError} → t ≡ true → x ≡ checked checks → x ≡ checked (pick t checks [])
asked true checks h k = k
asked false checks h k = let z : ◌≡◌ {A = ℕ} 0 1 = cc in absurd (omega arith)

-- ---- what callees need

pub factor_some : (aspect : TextureAspect) → 0 < subsampling_factor aspect
unfolding subsampling_factor
factor_some All = omega arith
factor_some StencilOnly = omega arith
factor_some DepthOnly = omega arith
factor_some Plane0 = omega arith
factor_some Plane1 = omega arith
factor_some Plane2 = omega arith

few : (d : TextureDimension) (n : ℕ) → n ≤ max_side3d → layers_of d n ≤ max_side3d
few D1 n h = omega arith
few D2 n h = h
few D3 n h = omega arith

-- an accepted range goes over few layers
pub layers_few :
    {r : Result Unit TransferError} (view : TexelCopyTextureInfo) (t : Texture) (side : CopySide) (size : Extent3d)
    → texture_in_bounds t ≡ true → r ≡ checked (range_checks view t side size) → r ≡ Ok tt → layer_count_of t size < 2 ^ 16
unfolding layer_count_of physical_extent round_up physical_size
layers_few view t side size bound p q =
    let l = (every_range view t side size).holds (checked_passes (range_checks view t side size) (sym p ∙ q)) in
    let deep = ((texture_laws t bound).level_sized view.mip_level).depth_few in
    let some = few (texture_dimension t.dimension) size.depth_or_array_layers (omega (arith, l.z_inside)) in
    omega arith

-- ---- a rule of which only the refusal is asked

module _ {R : Type 0} (checks : Checks) (v : R) where
  pub only_goes : {r : Result R TransferError} {w : R} → r ≡ decided checks (Ok v) → r ≡ Ok w → Ok tt ≡ checked checks
  only_goes p q = rule_passes checks v (Ok tt) p q refl ∙ sym (first_of_all Unit checks (Ok tt))

  pub only_hands :
      {r : Result R TransferError} {x : Result Unit TransferError} {e : TransferError}
      → r ≡ decided checks (Ok v) → r ≡ Err e → IsErrAnd x (λ d. d ≡ e) → x ≡ checked checks
  only_hands p q h = rule_hands checks v (Ok tt) p q h ∙ sym (first_of_all Unit checks (Ok tt))

  -- the rule was tested, and would go on
  pub only_tested : (t : Bool) → t ≡ is_ok (decided checks (Ok v)) → t ≡ true → Ok tt ≡ checked checks
  only_tested t p h = by t (decided checks (Ok v)) refl p h
    where
      by : (t : Bool) (m : Result R TransferError) → decided checks (Ok v) ≡ m → t ≡ is_ok m → t ≡ true → Ok tt ≡ checked checks
      by t (Ok w) e p h = only_goes (sym e) refl
      by t (Err d) e p h = let z : ◌≡◌ {A = ℕ} 0 1 = cc in absurd (omega arith)

-- what a part of an answer's value is
pub part_is :
    {A C : Type 0} (part : C → A) {r : Result C TransferError} (checks : Checks) (v : A) {w : C}
    → mapped part r ≡ decided checks (Ok v) → r ≡ Ok w → part w ≡ v
unfolding mapped
part_is {A} part checks v {w} p q = sym (none_found A v checks (part w) (sym p ∙ rw q)).1
