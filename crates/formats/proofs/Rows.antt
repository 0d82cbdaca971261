-- The rows of the table, and the laws that they keep.
-- Assumes nothing.
use Rattle.std.specs.Prelude.{Some, None}
use mathlib.Core.Path.{◌≡◌, refl, sym, ap, ◌∙◌}
use mathlib.Core.Bool.{Bool, true, false}
use mathlib.Core.List.{List, [], ◌∷◌}
use Prim.Native.Nat.{ℕ, zero, suc, ◌≤◌, ◌<◌}
use native.Mathlib.Omega.{arith}
use native.Mathlib.Nat.{pos_of_ne-zero}
use lib.Dec.{eqb, leb, ltb}
use borrow.Author.Tests.{ltb-true, leb-true, eqb-true, eqb-false}
use Rattle.conditions.specs.Conditions.{pick, every, stop_if}
use Rattle.conditions.proofs.Rules.{AllTrue, all_true}
use Rattle.conditions.proofs.Tables.{at_each}
use Rattle.measures.specs.Measure.{or_else}
use Rattle.formats.specs.declared.FormatRow.{FormatRow}
use Rattle.formats.specs.declared.TextureAspect.{TextureAspect}
use Rattle.formats.specs.declared.TextureAspect.TheVariants.{All}
use Rattle.formats.specs.Table.{formats, unknown, format_row, aspects_of, none, block_dimensions}
use Rattle.formats.specs.Aspects.{asked_of, bytes_of, block_copy_size, chosen_aspects, unless_none}
use Rattle.formats.specs.Laws.{EveryFormat, max_block_side, max_block_bytes}

-- an arm of the match on a format: the number it is, what the arm made, and the table's row of that number
pub arm : (format k : ℕ) (made row : FormatRow) → format ≡ k → made ≡ row → row ≡ format_row k → made ≡ format_row format
arm format k made row e m r = m ∙ r ∙ sym (ap format_row e)

-- what is computed of every row
abbrev tests : FormatRow → List Bool
tests r =
    ltb 0 r.block_width
    ∷ leb r.block_width max_block_side
    ∷ ltb 0 r.block_height
    ∷ leb r.block_height max_block_side
    ∷ leb r.color max_block_bytes
    ∷ leb r.depth max_block_bytes
    ∷ leb r.stencil max_block_bytes
    ∷ leb r.plane_0 max_block_bytes
    ∷ leb r.plane_1 max_block_bytes
    ∷ []

pub record Sound (r : FormatRow) : Type 0 where
  pub width_some : 0 < r.block_width
  pub width_few : r.block_width ≤ max_block_side
  pub height_some : 0 < r.block_height
  pub height_few : r.block_height ≤ max_block_side
  pub color : r.color ≤ max_block_bytes
  pub depth : r.depth ≤ max_block_bytes
  pub stencil : r.stencil ≤ max_block_bytes
  pub plane_0_lem : r.plane_0 ≤ max_block_bytes
  pub plane_1_lem : r.plane_1 ≤ max_block_bytes

passed : (r : FormatRow) → AllTrue (tests r) → Sound r
passed r (w, (w', (h, (h', (c, (d, (s, (p, (q, u))))))))) =
    record {
      width_some = ltb-true _ _ w;
      width_few = leb-true _ _ w';
      height_some = ltb-true _ _ h;
      height_few = leb-true _ _ h';
      color = leb-true _ _ c;
      depth = leb-true _ _ d;
      stencil = leb-true _ _ s;
      plane_0_lem = leb-true _ _ p;
      plane_1_lem = leb-true _ _ q;
    }

pub row_sound : (format : ℕ) → Sound (format_row format)
unfolding formats format_row
row_sound format = passed (format_row format) (all_true (tests (format_row format)) (at_each (λ r. every (tests r)) formats unknown refl refl format))

-- an srgb is never the first row
pub srgb_fits : (format : ℕ) → (format_row format).srgb ≡ true → 1 ≤ format
unfolding formats format_row
srgb_fits zero e = let z : ◌≡◌ {A = ℕ} 0 1 = cc in absurd (omega arith)
srgb_fits (suc n) e = omega arith

-- bytes are one of the row's, or none
bytes_few : (r : FormatRow) → Sound r → (aspects : ℕ) → bytes_of r aspects ≤ max_block_bytes
unfolding bytes_of stop_if
bytes_few r s aspects = go (eqb aspects 1) (eqb aspects 2) (eqb aspects 4) (eqb aspects 8) (eqb aspects 16)
  where
    go :
        (c d e p q : Bool)
        → stop_if c r.color (stop_if d r.depth (stop_if e r.stencil (stop_if p r.plane_0 (stop_if q r.plane_1 0)))) ≤ max_block_bytes
    go true d e p q = s.color
    go false true e p q = s.depth
    go false false true p q = s.stencil
    go false false false true q = s.plane_0_lem
    go false false false false true = s.plane_1_lem
    go false false false false false = omega arith

given : (bytes n : ℕ) → unless_none bytes ≡ Some n → (0 < bytes) × (bytes ≡ n)
given bytes n = go (eqb bytes 0) refl
  where
    go : (t : Bool) → eqb bytes 0 ≡ t → pick t None (Some bytes) ≡ Some n → (0 < bytes) × (bytes ≡ n)
    go true q e = let z : ◌≡◌ {A = ℕ} 0 1 = cc in absurd (omega arith)
    go false q e = (pos_of_ne-zero (eqb-false _ _ q), cc)

pub every_format : EveryFormat
unfolding block_dimensions block_copy_size
every_format format =
    let s = row_sound format in
    record {
      width_some = s.width_some;
      width_few = s.width_few;
      height_some = s.height_some;
      height_few = s.height_few;
      bytes_some = λ asked n e. let g = given (bytes_of (format_row format) (chosen_aspects format asked)) n e in omega arith;
      bytes_few = λ asked n e. let g = given (bytes_of (format_row format) (chosen_aspects format asked)) n e in omega (arith, bytes_few (format_row format) s (chosen_aspects format asked));
    }

-- the bytes of a block of what is chosen, as a number
number_of : (bytes : ℕ) (t : Bool) → eqb bytes none ≡ t → bytes ≡ or_else (unless_none bytes) 0
unfolding or_else
number_of bytes true e = rw e (eqb-true bytes none e)
number_of bytes false e = rw e

pub chosen_size : (format : ℕ) (asked : TextureAspect) → bytes_of (format_row format) (chosen_aspects format asked) ≡ or_else (block_copy_size format asked) 0
unfolding block_copy_size
chosen_size format asked = number_of (bytes_of (format_row format) (chosen_aspects format asked)) _ refl

-- asked for all of a colour format, it is colour
pub asks_color : (aspects : ℕ) (asked : TextureAspect) (t : Bool) → asked ≡ All → t ≡ eqb aspects 1 → t ≡ true → asked_of aspects asked ≡ 1
unfolding asked_of
asks_color aspects asked t a e h = ap (asked_of aspects) a ∙ eqb-true aspects 1 (sym e ∙ h)

-- where it is colour
pub color_size :
    (format : ℕ) (asked : TextureAspect) (aspects : ℕ)
    → aspects ≡ aspects_of format
    → asked_of aspects asked ≡ 1
    → (format_row format).color ≡ bytes_of (format_row format) (chosen_aspects format asked)
unfolding chosen_aspects bytes_of stop_if
color_size format asked aspects e h =
    let chosen : asked_of (aspects_of format) asked ≡ 1 = ap (λ x. asked_of x asked) (sym e) ∙ h in
    ap (bytes_of (format_row format)) (sym chosen)
