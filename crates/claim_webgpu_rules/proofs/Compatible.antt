-- Formats and aspects of copies between textures against the standard's.
-- Assumes nothing.
use mathlib.Core.Path.{◌≡◌, refl, sym, ap, ◌∙◌}
use mathlib.Core.Bool.{Bool, true, false, cond}
use mathlib.Core.List.{List, [], ◌∷◌}
use Prim.Native.Nat.{ℕ, ◌+◌, ◌≤◌, ◌<◌}
use native.Mathlib.Omega.{arith}
use lib.Dec.{eqb}
use Rattle.conditions.proofs.Tables.{every_below, at_below}
use Rattle.formats.specs.declared.TextureAspect.{TextureAspect}
use Rattle.formats.specs.Table as sheet
use Rattle.formats.specs.Table.{remove_srgb}
use Rattle.claim_webgpu_rules.specs.Formats.{Aspect, Color, Depth, Stencil, Part, srgb_pairs, paired, copy_compatible, names, named_of, format_of, named}
use Rattle.claim_webgpu_rules.specs.Agreement.{bit, bits, CompatibleFormats, AllAspects}
use Rattle.claim_webgpu_rules.proofs.Rows.{same, same_is, below, row_of}

-- ---- formats, by one test that is computed of every two

alike : ℕ → ℕ → Bool
alike a b = same (eqb (remove_srgb a) (remove_srgb b)) (copy_compatible a b)

all_alike : every_below (λ a. every_below (alike a) 21) 21 ≡ true
unfolding alike remove_srgb sheet.format_row sheet.formats copy_compatible paired srgb_pairs
all_alike = refl

pub compatible_formats : CompatibleFormats
unfolding alike
compatible_formats a b p q = same_is _ _ (at_below (alike a) 21 (at_below (λ a. every_below (alike a) 21) 21 all_alike a (below a p)) b (below b q))

-- ---- aspects: what is named has all the bits exactly where it is all

some_bit : (a : Aspect) → 0 < bit a
some_bit Color = omega arith
some_bit Depth = omega arith
some_bit Stencil = omega arith

fewer : (ps : List Part) (asked : TextureAspect) → bits (named_of ps asked) ≤ bits ps
fewer [] asked = omega arith
fewer (p ∷ ps) asked = go (names asked p.aspect) (fewer ps asked)
  where
    go : (t : Bool) → bits (named_of ps asked) ≤ bits ps → bits (cond t (p ∷ named_of ps asked) (named_of ps asked)) ≤ bit p.aspect + bits ps
    go true h = omega arith
    go false h = omega arith

whole : (ps : List Part) (asked : TextureAspect) → bits (named_of ps asked) ≡ bits ps → named_of ps asked ≡ ps
whole [] asked e = refl
whole (p ∷ ps) asked e = go (names asked p.aspect) e (λ h. whole ps asked h)
  where
    go :
        (t : Bool) → bits (cond t (p ∷ named_of ps asked) (named_of ps asked)) ≡ bit p.aspect + bits ps
        → (bits (named_of ps asked) ≡ bits ps → named_of ps asked ≡ ps) → cond t (p ∷ named_of ps asked) (named_of ps asked) ≡ p ∷ ps
    go true h rest = ap (λ qs. p ∷ qs) (rest (omega arith))
    go false h rest = absurd (omega (arith, fewer ps asked, some_bit p.aspect))

pub all_aspects : AllAspects
unfolding named
all_aspects format asked k =
    let r = row_of format k in (
      λ e. whole (format_of format).parts asked (sym (r.chosen asked) ∙ e ∙ r.aspects),
      λ e. r.chosen asked ∙ ap bits e ∙ sym r.aspects,
    )
