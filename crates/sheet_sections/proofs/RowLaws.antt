-- How loops go over the lines of a section, and what they leave.
-- Assumes nothing.
use mathlib.Core.Path.{◌≡◌, refl, ap}
use mathlib.Core.List.{List, [], ◌∷◌}
use mathlib.Core.Logic.{⊎_elim}
use Prim.Native.Nat.{ℕ, zero, suc, ◌+◌, ◌-◌, ◌≤◌, ◌<◌, min}
use native.Mathlib.Omega.{arith}
use native.Mathlib.Numerals.{add-one}
use lib.ListN.{length, get_or, set, get_or-append, drop}
use lib.Seq.{sets, sets-eq, set_out}
use Rattle.std.specs.Prelude.{◌++◌, Option, Some, None, Result, Ok, Err, IsSome, unwrap_or, ok_or}
use Rattle.std.proofs.lemmas.Bool.{cases_lt}
use Rattle.std.proofs.lemmas.List.{set-append_left}
use Rattle.sheet_fields.specs.declared.Line.{Line}
use Rattle.sheet_fields.specs.Line.{no_line}
use Rattle.sheet_sections.specs.declared.Section.{Section}
use Rattle.sheet_sections.specs.declared.IllAt.{IllAt}
use Rattle.sheet_sections.specs.Rows.{◌>>=◌, ill_at, row_of, section_line, row_at, rows_of, places_of}

-- where all went well, each step did
pub goes : {A B : Type 0} (m : Result A IllAt) (k : A → Result B IllAt) (b : B) (C : Type 0) → (m >>= k) ≡ Ok b → ((a : A) → m ≡ Ok a → k a ≡ Ok b → C) → C
goes (Ok a) k b C e go = go a refl e
goes (Err i) k b C e go = absurd cc

ok_some : (o : Option Line) (i : IllAt) (l : Line) → ok_or o i ≡ Ok l → o ≡ Some l
ok_some None i l e = absurd cc
ok_some (Some x) i l e = cc

-- stores past the end change nothing
sets_out : (vs l : List ℕ) (i : ℕ) → length l ≤ i → l ≡ sets l i vs
sets_out [] l i h = refl
sets_out (v ∷ vs) l i h = rw (set_out l i v h) (sets_out vs l (suc i) (omega arith))

-- what was stored from the start on
stored : (vs l : List ℕ) (k : ℕ) → k < length vs → length vs ≤ length l → get_or (sets l 0 vs) k 0 ≡ get_or vs k 0
stored vs l k h room = rw (sets-eq vs l 0 (omega arith)) (get_or-append vs (drop (0 + length vs) l) 0 k h)

module _ (s : List ℕ) (section : Section) where
  line_there : (at : ℕ) (l : Line) → row_of s section at ≡ Some l → section_line s section at ≡ l
  unfolding section_line
  line_there at l e = ap (λ (o : Option Line). unwrap_or o no_line) e

  -- ---- of the lines that are left, the one here, then the others

  module _ (count i at : ℕ) (r : Option Line) (o : Result Line IllAt) (left : i < count) (read : r ≡ row_of s section at) (is : o ≡ ok_or r (ill_at at)) where
    pub rows_on : (l : Line) → o ≡ Ok l → rows_of s section (count - (i + 1)) l.next ≡ rows_of s section (count - i) at
    unfolding rows_of
    rows_on l e = let p : count - i ≡ suc (count - (i + 1)) = omega arith in rw (p, ← read, ← is, e)

    pub rows_off : (d : IllAt) → o ≡ Err d → Err d ≡ rows_of s section (count - i) at
    unfolding rows_of
    rows_off d e = let p : count - i ≡ suc (count - (i + 1)) = omega arith in rw (p, ← read, ← is, e)

  pub rows_all : (count i at : ℕ) → count ≤ i → Ok at ≡ rows_of s section (count - i) at
  unfolding rows_of
  rows_all count i at h = let z : count - i ≡ 0 = omega arith in rw z

  -- ---- places, stored from an index on

  none_left : (count i at : ℕ) → count ≤ i → places_of s section (count - i) at ≡ []
  unfolding places_of
  none_left count i at h = let z : count - i ≡ 0 = omega arith in rw z

  -- where there is room, among those after which others are kept
  pub places_on :
      (count i at : ℕ) (ps rest : List ℕ) (l : Line) → i < count → i < length ps → l ≡ section_line s section at
      → sets (set ps i at ++ rest) (i + 1) (places_of s section (count - (i + 1)) l.next) ≡ sets (ps ++ rest) i (places_of s section (count - i) at)
  unfolding places_of
  places_on count i at ps rest l h room e =
      let p : count - i ≡ suc (count - (i + 1)) = omega arith in
      rw (p, ← e, add-one i, ← set-append_left ps rest i at room)

  -- no line is left, or no room
  pub places_done : (count i at : ℕ) (ps : List ℕ) → min count (length ps) ≤ i → ps ≡ sets ps i (places_of s section (count - i) at)
  places_done count i at ps h = ⊎_elim (λ r. sets_out (places_of s section (count - i) at) ps i (omega arith)) (λ c. rw (none_left count i at c)) (cases_lt i count)

  -- ---- what was found

  pub places_length : (n at : ℕ) → length (places_of s section n at) ≡ n
  unfolding places_of
  places_length zero at = refl
  places_length (suc n) at = ap suc (places_length n (section_line s section at).next)

  -- the line at the k-th place is line k
  pub place_row : (n at k : ℕ) → k < n → row_of s section (get_or (places_of s section n at) k 0) ≡ row_at s section k at
  unfolding places_of row_at
  place_row zero at k h = absurd (omega arith)
  place_row (suc n) at zero h = refl
  place_row (suc n) at (suc k) h = place_row n (section_line s section at).next k (omega arith)

  pub placed_row : (n at k : ℕ) (ps : List ℕ) → k < n → n ≤ length ps → row_of s section (get_or (sets ps 0 (places_of s section n at)) k 0) ≡ row_at s section k at
  placed_row n at k ps h room =
      let all : length (places_of s section n at) ≡ n = places_length n at in
      rw (stored (places_of s section n at) ps k (omega arith) (omega arith)) (place_row n at k h)

  -- where all lines were there, line k is
  pub rows_good : (n at next k : ℕ) → rows_of s section n at ≡ Ok next → k < n → IsSome (row_at s section k at)
  unfolding rows_of row_at
  rows_good zero at next k e h = absurd (omega arith)
  rows_good (suc n) at next zero e h =
      goes (ok_or (row_of s section at) (ill_at at)) _ next _ e λ l q r.
      rw (ok_some _ _ l q)
  rows_good (suc n) at next (suc k) e h =
      goes (ok_or (row_of s section at) (ill_at at)) _ next _ e λ l q r.
      rw (line_there at l (ok_some _ _ l q)) (rows_good n l.next next k r (omega arith))
