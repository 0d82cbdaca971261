-- The planner's table of formats against the standard's, by tests that are computed of every row.
-- Assumes nothing.
use Rattle.std.specs.Prelude.{Some, None}
use mathlib.Core.Path.{◌≡◌, refl, sym, ap, ◌∙◌}
use mathlib.Core.Bool.{Bool, true, false, not, cond}
use mathlib.Core.List.{List, [], ◌∷◌}
use mathlib.Core.Logic.{◌⊎◌, inl, inr}
use Prim.Native.Nat.{ℕ, ◌<◌}
use native.Mathlib.Omega.{arith}
use lib.Dec.{eqb, ltb}
use borrow.Author.Tests.{ltb-true, ltb-false, lt-ltb, eqb-true, eqb-false}
use Rattle.conditions.specs.Conditions.{pick, every, stop_if}
use Rattle.conditions.proofs.Rules.{all_true}
use Rattle.conditions.proofs.Tables.{every_below, at_below}
use Rattle.measures.specs.Measure.{or_else}
use Rattle.flags.specs.Flags.{meet}
use Rattle.formats.specs.declared.TextureAspect.{TextureAspect}
use Rattle.formats.specs.declared.TextureAspect.TheVariants.{All, StencilOnly, DepthOnly, Plane0, Plane1, Plane2}
use Rattle.formats.specs.Table as P
use Rattle.formats.specs.Aspects.{asked_of, chosen_aspects, bytes_of, block_copy_size, unless_none}
use Rattle.rule_linear_data.specs.Linear as N
use Rattle.claim_webgpu_rules.specs.Formats.{Part, none, formats, Known, format_of, any_depth_or_stencil, is_depth_or_stencil, named_of, named}
use Rattle.claim_webgpu_rules.specs.WebGpu.{bytes_of_one, taken, block_bytes}
use Rattle.claim_webgpu_rules.specs.Agreement.{bits, Row, FormatTable, InStandard}

abbrev pub same : Bool → Bool → Bool
same true t = t
same false t = not t

pub same_is : (s t : Bool) → same s t ≡ true → s ≡ t
same_is true t e = sym e
same_is false true e = e
same_is false false e = refl

-- an equation of numbers that is not false
pub decided : (m n : ℕ) → ((m ≡ n → ⊥) → ⊥) → m ≡ n
decided m n h = go (eqb m n) refl
  where
    go : (t : Bool) → eqb m n ≡ t → m ≡ n
    go true e = eqb-true m n e
    go false e = absurd (h (eqb-false m n e))

-- ---- what is computed of every format, and of every format and aspect

format_tests : ℕ → List Bool
format_tests f =
    eqb (P.block_width_of f) (format_of f).block_width_of
    ∷ eqb (P.block_height_of f) (format_of f).block_height_of
    ∷ same (P.is_depth_stencil f) (is_depth_or_stencil f)
    ∷ eqb (P.aspects_of f) (bits (format_of f).parts)
    ∷ []

aspect_tests : TextureAspect → ℕ → List Bool
aspect_tests a f =
    eqb (chosen_aspects f a) (bits (named (format_of f) a))
    ∷ eqb (bytes_of (P.format_row f) (chosen_aspects f a)) (bytes_of_one (named (format_of f) a))
    ∷ []

formats_pass : every_below (λ f. every (format_tests f)) 21 ≡ true
unfolding format_tests P.formats P.format_row P.block_dimensions P.aspects_of P.is_depth_stencil formats format_of any_depth_or_stencil is_depth_or_stencil
formats_pass = refl

aspects_pass : (a : TextureAspect) → every_below (λ f. every (aspect_tests a f)) 21 ≡ true
unfolding aspect_tests P.formats P.format_row P.aspects_of asked_of chosen_aspects bytes_of meet stop_if formats format_of named
aspects_pass All = refl
aspects_pass StencilOnly = refl
aspects_pass DepthOnly = refl
aspects_pass Plane0 = refl
aspects_pass Plane1 = refl
aspects_pass Plane2 = refl

pub below : (f : ℕ) → Known f → f < 21
unfolding formats
below f k = k

-- ---- a row

given_alike : (m n : ℕ) → m ≡ n → unless_none m ≡ cond (eqb n none) None (Some n)
given_alike m n e = rw e (go (eqb n none))
  where
    go : (t : Bool) → pick t None (Some n) ≡ cond t None (Some n)
    go true = refl
    go false = refl

pub row_of : (f : ℕ) → Known f → Row f
unfolding format_tests aspect_tests block_copy_size
row_of f k =
    let t = all_true (format_tests f) (at_below (λ f. every (format_tests f)) 21 formats_pass f (below f k)) in
    record {
      width = eqb-true _ _ t.0;
      height = eqb-true _ _ t.1.0;
      depth_or_stencil = same_is _ _ t.1.1.0;
      aspects = eqb-true _ _ t.1.1.1.0;
      chosen = λ a. eqb-true _ _ (of a).0;
      bytes = λ a. given_alike (bytes_of (P.format_row f) (chosen_aspects f a)) (bytes_of_one (named (format_of f) a)) (eqb-true _ _ (of a).1.0);
    }
  where
    of : (a : TextureAspect) → (eqb (chosen_aspects f a) (bits (named (format_of f) a)) ≡ true) × ((eqb (bytes_of (P.format_row f) (chosen_aspects f a)) (bytes_of_one (named (format_of f) a)) ≡ true) × Unit {0})
    of a = all_true (aspect_tests a f) (at_below (λ f. every (aspect_tests a f)) 21 (aspects_pass a) f (below f k))

-- ---- the numbers

number_of : (f : ℕ) → P.is_format f ≡ true → Known f ⊎ (f ≡ 21)
unfolding P.is_format P.formats formats
number_of f e = go (ltb f 21) refl
  where
    go : (t : Bool) → ltb f 21 ≡ t → (f < 21) ⊎ (f ≡ 21)
    go true q = inl (ltb-true f 21 q)
    go false q = inr (let l : f < 22 = ltb-true f 22 e in omega (arith, ltb-false f 21 q))

number_by : (f : ℕ) → Known f ⊎ (f ≡ 21) → P.is_format f ≡ true
unfolding P.is_format P.formats formats
number_by f (inl k) = lt-ltb f 22 (omega arith)
number_by f (inr e) = lt-ltb f 22 (omega arith)

pub format_table : FormatTable
format_table = record { row = row_of; numbers = λ f. (number_of f, number_by f) }

-- ---- the bytes of a block, of an aspect that the format has

all_named : (ps : List Part) → named_of ps All ≡ ps
all_named [] = refl
all_named (p ∷ ps) = ap (λ qs. p ∷ qs) (all_named ps)

pub taken_is : (f : ℕ) (a : TextureAspect) → InStandard f a → taken f a ≡ named (format_of f) a
unfolding taken named
taken_is f a s = go (is_depth_or_stencil f) refl
  where
    go : (t : Bool) → is_depth_or_stencil f ≡ t → cond t (named_of (format_of f).parts a) (format_of f).parts ≡ named_of (format_of f).parts a
    go true e = refl
    go false e = rw (s.color e) (sym (all_named (format_of f).parts))

or_zero_lem : (n : ℕ) → or_else (cond (eqb n none) None (Some n)) 0 ≡ n
unfolding or_else
or_zero_lem n = go (eqb n none) refl
  where
    go : (t : Bool) → eqb n none ≡ t → or_else (cond t None (Some n)) 0 ≡ n
    go true e = sym (eqb-true n none e)
    go false e = refl

pub bytes_are : (f : ℕ) (a : TextureAspect) → InStandard f a → N.block_bytes f a ≡ block_bytes f a
unfolding N.block_bytes block_bytes
bytes_are f a s = ap (λ o. or_else o 0) ((row_of f s.known).bytes a) ∙ or_zero_lem (bytes_of_one (named (format_of f) a)) ∙ ap bytes_of_one (sym (taken_is f a s))
