-- A sheet that is well has allowed counts and good lines, and its lines are at the places that were found.
-- Assumes nothing.
use mathlib.Core.Path.{◌≡◌, refl, ap, ◌∙◌}
use mathlib.Core.List.{List, [], ◌∷◌}
use Prim.Native.Nat.{ℕ}
use borrow.Author.Tests.{ltb-false}
use Rattle.std.specs.Prelude.{Result, Ok, Err, ok_or}
use Rattle.sheet_fields.specs.declared.FieldKind.TheVariants.{Count}
use Rattle.sheet_fields.specs.declared.Line.{Line}
use Rattle.sheet_fields.specs.Line.{line_of}
use Rattle.conditions.proofs.Rules.{went_past}
use Rattle.sheet_sections.specs.declared.Section.{Section}
use Rattle.sheet_sections.specs.declared.IllAt.{IllAt}
use Rattle.sheet_sections.specs.declared.Part.{Part}
use Rattle.sheet_sections.specs.declared.Parts.{Parts}
use Rattle.sheet_sections.specs.Rows.{ill_at, devices, textures, buffers, copies, rows_of}
use Rattle.sheet_sections.specs.Sheet.{section_of_count, section_of, found_of, sheet_from, sheet_of}
use Rattle.sheet_sections.specs.Laws.{GoodPart, GoodParts, SheetLaws}
use Rattle.sheet_sections.proofs.RowLaws.{goes, place_row, placed_row, rows_good}

no_value : {A E : Type 0} {e : E} {x : A} → Err e ≡ Ok x → ⊥
no_value q = cc

-- ---- one section

of_count : (s : List ℕ) (section : Section) (at n first : ℕ) (p : Part) → section_of_count s section at n first ≡ Ok p → GoodPart s section p
unfolding section_of_count
of_count s section at n first p e =
    let a = went_past _ _ _ _ _ e no_value in
    let b = went_past _ _ _ _ _ a.1 no_value in
    goes (rows_of s section n first) _ p _ b.1 λ next r f.
    let is : record { count = n; first = first; next = next } ≡ p = cc in
    rw (← is) (record { least = ltb-false _ _ a.0; most = ltb-false _ _ b.0; rows = λ k h. rows_good s section n first next k r h })

section_good : (s : List ℕ) (section : Section) (at : ℕ) (p : Part) → section_of s section at ≡ Ok p → GoodPart s section p
unfolding section_of
section_good s section at p e = goes {A = Line} (ok_or (line_of s (Count ∷ []) at) (ill_at at)) _ p _ e λ line q r. of_count s section at _ line.next p r

-- ---- one after another

found_good : (s : List ℕ) (p : Parts) → found_of s ≡ Ok p → GoodParts s p
unfolding found_of
found_good s p e =
    goes (section_of s devices 0) _ p _ e λ d d-is e₁.
    goes (section_of s textures d.next) _ p _ e₁ λ t t-is e₂.
    goes (section_of s buffers t.next) _ p _ e₂ λ b b-is e₃.
    goes (section_of s copies b.next) _ p _ e₃ λ c c-is e₄.
    let all : Ok (record { devices = d; textures = t; buffers = b; copies = c }) ≡ Ok p = (went_past _ _ _ _ _ e₄ no_value).1 in
    let f : record { devices = d; textures = t; buffers = b; copies = c } ≡ p = cc in
    rw (← f)
    (record {
      devices = section_good s devices _ d d-is;
      textures = section_good s textures _ t t-is;
      buffers = section_good s buffers _ b b-is;
      copies = section_good s copies _ c c-is;
    })

from_found : (s : List ℕ) (p : Parts) (f : Result Parts IllAt) → found_of s ≡ f → sheet_from s f ≡ Ok p → found_of s ≡ Ok p
unfolding sheet_from
from_found s p (Ok q) e h = let f : q ≡ p = cc in e ∙ ap Ok f
from_found s p (Err i) e h = absurd (no_value h)

sheet_good : (s : List ℕ) (p : Parts) → sheet_of s ≡ Ok p → GoodParts s p
unfolding sheet_of
sheet_good s p e = found_good s p (from_found s p (found_of s) refl (went_past _ _ _ _ _ e no_value).1)

pub sheet_laws : SheetLaws
sheet_laws =
    record {
      parts = sheet_good;
      found_line = λ s section n first k h. place_row s section n first k h;
      placed = λ s section n first k l h room. placed_row s section n first k l h room;
    }
