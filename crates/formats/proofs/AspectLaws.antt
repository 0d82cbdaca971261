-- An aspect by its number.
-- Assumes nothing.
use mathlib.Core.Path.{◌≡◌, refl, sym}
use mathlib.Core.Bool.{Bool, true, false}
use mathlib.Core.List.{[], ◌∷◌}
use Prim.Native.Nat.{ℕ}
use native.Mathlib.Omega.{arith}
use borrow.Author.Tests.{leb-true, leb-false, le-ltb, lt-ltb}
use lib.Dec.{leb}
use lib.ListN.{get_or-eq_default}
use Rattle.std.specs.Prelude.{ltb}
use Rattle.std.specs.Result.{is_err, result_unwrap_or}
use Rattle.formats.specs.declared.TextureAspect.TheVariants.{All, StencilOnly, DepthOnly, Plane0, Plane1, Plane2}
use Rattle.formats.specs.Aspects.{aspect_of, named_aspect, last_aspect}

-- a number past them counts as the last
pub or_last : (n : ℕ) → result_unwrap_or (named_aspect n) Plane2 ≡ aspect_of n
unfolding named_aspect aspect_of
or_last n = go (leb n last_aspect) refl
  where
    go : (t : Bool) → leb n last_aspect ≡ t → result_unwrap_or (named_aspect n) Plane2 ≡ aspect_of n
    go true e = rw e
    go false e = rw e (sym (get_or-eq_default (All ∷ StencilOnly ∷ DepthOnly ∷ Plane0 ∷ Plane1 ∷ []) Plane2 (omega (arith, leb-false n last_aspect e))))

pub past_last : (n : ℕ) → is_err (named_aspect n) ≡ ltb last_aspect n
unfolding named_aspect
past_last n = go (leb n last_aspect) refl
  where
    go : (t : Bool) → leb n last_aspect ≡ t → is_err (named_aspect n) ≡ ltb last_aspect n
    go true e = rw e (sym (le-ltb last_aspect n (omega (arith, leb-true n last_aspect e))))
    go false e = rw e (sym (lt-ltb last_aspect n (leb-false n last_aspect e)))
