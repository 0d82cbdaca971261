-- The aspects of the standard's formats: those that a view names are those of the chosen bits. By tests that are computed of every
-- format of the standard.
-- Assumes nothing.
use mathlib.Core.Path.{◌≡◌, refl, sym, ap, ◌∙◌}
use mathlib.Core.Bool.{Bool, true, false, true≢false, false≢true, ◌&&◌, ◌||◌, cond}
use mathlib.Core.List.{List, [], ◌∷◌}
use mathlib.Core.Logic.{◌⊎◌, inl, inr}
use Prim.Native.Nat.{ℕ, ◌/◌, ◌%◌}
use lib.Dec.{eqb}
use borrow.Author.Tests.{eqb-true, eq-eqb}
use Rattle.conditions.proofs.Rules.{both_true, either}
use Rattle.conditions.proofs.Tables.{every_below, at_below}
use Rattle.flags.specs.Flags.{meet}
use Rattle.formats.specs.declared.TextureAspect.{TextureAspect}
use Rattle.formats.specs.declared.TextureAspect.TheVariants.{All, StencilOnly, DepthOnly, Plane0, Plane1, Plane2}
use Rattle.formats.specs.Table as S
use Rattle.formats.specs.Table.{format_row, aspects_of, remove_srgb}
use Rattle.formats.specs.Aspects.{asked_of, chosen_aspects}
use Rattle.claim_webgpu_rules.specs.Formats.{Aspect, Color, Depth, Stencil, Part, formats, Known, format_of, is_color, names, named_of, named}
use Rattle.claim_webgpu_rules.proofs.Rows.{same, same_is, below}
use Rattle.claim_webgpu_effects.specs.Blocks.{In, first, later}
use Rattle.claim_webgpu_effects.specs.Regions.{bit_of}

-- the aspect's bit is in the word
abbrev pub HasBit : ℕ → Aspect → Type 0
HasBit word aspect = word / bit_of aspect % 2 ≡ 1

has_b : ℕ → Aspect → Bool
has_b word aspect = eqb (word / bit_of aspect % 2) 1

has_bit : (word : ℕ) (aspect : Aspect) → has_b word aspect ≡ true → HasBit word aspect
unfolding has_b
has_bit word aspect e = eqb-true _ _ e

bit_has : (word : ℕ) (aspect : Aspect) → HasBit word aspect → has_b word aspect ≡ true
unfolding has_b
bit_has word aspect e = eq-eqb _ 1 e

-- ---- the aspects that a view names

all_same : TextureAspect → ℕ → List Part → Bool
all_same asked word [] = true
all_same asked word (p ∷ ps) = same (names asked p.aspect) (has_b word p.aspect) && all_same asked word ps

same_aspects : TextureAspect → ℕ → Bool
same_aspects asked format = all_same asked (chosen_aspects format asked) (format_of format).parts

all_aspects : (asked : TextureAspect) → every_below (same_aspects asked) 21 ≡ true
unfolding same_aspects all_same has_b format_of formats chosen_aspects asked_of aspects_of format_row S.formats meet
all_aspects All = refl
all_aspects StencilOnly = refl
all_aspects DepthOnly = refl
all_aspects Plane0 = refl
all_aspects Plane1 = refl
all_aspects Plane2 = refl

pub nowhere : {A C : Type 0} {a : A} → In a [] → C
nowhere = elim [ ]

module _ (asked : TextureAspect) (word : ℕ) (part : Part) where
  from_named : (ps : List Part) → all_same asked word ps ≡ true → In part (named_of ps asked) → In part ps × HasBit word part.aspect
  unfolding all_same
  from_named [] e h = nowhere h
  from_named (p ∷ ps) e h = let b = both_true _ _ e in go (names asked p.aspect) (same_is _ _ b.0) (from_named ps b.1) h
    where
      go :
          (t : Bool) → t ≡ has_b word p.aspect → (In part (named_of ps asked) → In part ps × HasBit word part.aspect)
          → In part (cond t (p ∷ named_of ps asked) (named_of ps asked)) → In part (p ∷ ps) × HasBit word part.aspect
      go true s rest (first q) = (first q, has_bit word part.aspect (ap (λ (x : Part). has_b word x.aspect) (sym q) ∙ sym s))
      go true s rest (later i) = let t = rest i in (later t.0, t.1)
      go false s rest i = let t = rest i in (later t.0, t.1)

  to_named : (ps : List Part) → all_same asked word ps ≡ true → HasBit word part.aspect → In part ps → In part (named_of ps asked)
  unfolding all_same
  to_named [] e k h = nowhere h
  to_named (p ∷ ps) e k h = let b = both_true _ _ e in go (names asked p.aspect) (same_is _ _ b.0) (to_named ps b.1 k) h
    where
      go :
          (t : Bool) → t ≡ has_b word p.aspect → (In part ps → In part (named_of ps asked)) → In part (p ∷ ps)
          → In part (cond t (p ∷ named_of ps asked) (named_of ps asked))
      go true s rest (first q) = first q
      go true s rest (later i) = later (rest i)
      go false s rest (first q) = absurd (true≢false (sym (bit_has word part.aspect k) ∙ ap (λ (x : Part). has_b word x.aspect) (sym q) ∙ sym s))
      go false s rest (later i) = rest i

module _ (format : ℕ) (asked : TextureAspect) (known : Known format) (part : Part) where
  agreed : all_same asked (chosen_aspects format asked) (format_of format).parts ≡ true
  unfolding same_aspects
  agreed = at_below (same_aspects asked) 21 (all_aspects asked) format (below format known)

  pub named_has : In part (named (format_of format) asked) → In part (format_of format).parts × HasBit (chosen_aspects format asked) part.aspect
  unfolding named
  named_has h = from_named asked (chosen_aspects format asked) part (format_of format).parts agreed h

  pub has_named : In part (format_of format).parts → HasBit (chosen_aspects format asked) part.aspect → In part (named (format_of format) asked)
  unfolding named
  has_named h k = to_named asked (chosen_aspects format asked) part (format_of format).parts agreed k h

-- ---- formats that differ only in srgb

same_srgb : ℕ → Bool
same_srgb format =
    eqb (aspects_of (remove_srgb format)) (aspects_of format)
    && (eqb (format_of (remove_srgb format)).block_width_of (format_of format).block_width_of && eqb (format_of (remove_srgb format)).block_height_of (format_of format).block_height_of)

all_srgb : every_below same_srgb 21 ≡ true
unfolding same_srgb remove_srgb aspects_of format_row S.formats format_of formats
all_srgb = refl

pub record Alike (a b : ℕ) : Type 0 where
  pub aspects : aspects_of a ≡ aspects_of b
  pub width : (format_of a).block_width_of ≡ (format_of b).block_width_of
  pub height : (format_of a).block_height_of ≡ (format_of b).block_height_of

pub alike : (a b : ℕ) → Known a → Known b → remove_srgb a ≡ remove_srgb b → Alike a b
unfolding same_srgb
alike a b ka kb e =
    let p = both_true _ _ (at_below same_srgb 21 all_srgb a (below a ka)) in
    let q = both_true _ _ (at_below same_srgb 21 all_srgb b (below b kb)) in
    let p' = both_true _ _ p.1 in
    let q' = both_true _ _ q.1 in
    record {
      aspects = sym (eqb-true _ _ p.0) ∙ ap aspects_of e ∙ eqb-true _ _ q.0;
      width = sym (eqb-true _ _ p'.0) ∙ ap (λ (n : ℕ). (format_of n).block_width_of) e ∙ eqb-true _ _ q'.0;
      height = sym (eqb-true _ _ p'.1) ∙ ap (λ (n : ℕ). (format_of n).block_height_of) e ∙ eqb-true _ _ q'.1;
    }

-- ---- an aspect whose bit a format has is one of its parts

same_aspect : Aspect → Aspect → Bool
same_aspect Color a = is_color a
same_aspect Depth Color = false
same_aspect Depth Depth = true
same_aspect Depth Stencil = false
same_aspect Stencil Color = false
same_aspect Stencil Depth = false
same_aspect Stencil Stencil = true

is_aspect : (a b : Aspect) → same_aspect a b ≡ true → a ≡ b
unfolding same_aspect
is_aspect Color Color e = refl
is_aspect Color Depth e = absurd (false≢true e)
is_aspect Color Stencil e = absurd (false≢true e)
is_aspect Depth Color e = absurd (false≢true e)
is_aspect Depth Depth e = refl
is_aspect Depth Stencil e = absurd (false≢true e)
is_aspect Stencil Color e = absurd (false≢true e)
is_aspect Stencil Depth e = absurd (false≢true e)
is_aspect Stencil Stencil e = refl

any_part : Aspect → List Part → Bool
any_part a [] = false
any_part a (p ∷ ps) = same_aspect p.aspect a || any_part a ps

has_part : Aspect → ℕ → Bool
has_part a format = same (has_b (aspects_of format) a) (any_part a (format_of format).parts)

all_parts : (a : Aspect) → every_below (has_part a) 21 ≡ true
unfolding has_part any_part same_aspect has_b format_of formats aspects_of format_row S.formats
all_parts Color = refl
all_parts Depth = refl
all_parts Stencil = refl

abbrev pub PartOf : Aspect → List Part → Type 0
PartOf a ps = (p : Part) × In p ps × (p.aspect ≡ a)

some_part : (a : Aspect) (ps : List Part) → any_part a ps ≡ true → PartOf a ps
unfolding any_part
some_part a [] e = absurd (false≢true e)
some_part a (p ∷ ps) e = go (either _ _ e) (some_part a ps)
  where
    go : (same_aspect p.aspect a ≡ true) ⊎ (any_part a ps ≡ true) → (any_part a ps ≡ true → PartOf a ps) → PartOf a (p ∷ ps)
    go (inl h) rest = (p, first refl, is_aspect _ _ h)
    go (inr h) rest = let t = rest h in (t.0, later t.1, t.2)

pub part_of : (format : ℕ) (a : Aspect) → Known format → HasBit (aspects_of format) a → PartOf a (format_of format).parts
unfolding has_part
part_of format a known h =
    let e = same_is _ _ (at_below (has_part a) 21 (all_parts a) format (below format known)) in
    some_part a (format_of format).parts (sym e ∙ bit_has _ a h)

-- ---- where every aspect is chosen, one is named

is_some : List Part → Bool
is_some [] = false
is_some (p ∷ ps) = true

some_parts : ℕ → Bool
some_parts format = is_some (format_of format).parts

all_some : every_below some_parts 21 ≡ true
unfolding some_parts is_some format_of formats
all_some = refl

pub named_all : (format : ℕ) (asked : TextureAspect) → Known format → chosen_aspects format asked ≡ aspects_of format → (p : Part) × In p (named (format_of format) asked)
unfolding some_parts is_some named chosen_aspects asked_of
named_all format asked known e = go (format_of format).parts refl (at_below some_parts 21 all_some format (below format known))
  where
    go : (ps : List Part) → (format_of format).parts ≡ ps → is_some ps ≡ true → (p : Part) × In p (named (format_of format) asked)
    go [] q s = absurd (false≢true s)
    go (p ∷ ps) q s =
        let here : In p (format_of format).parts = rw q (first refl) in
        let all : In p (named (format_of format) All) = rw q (first refl) in
        (p, has_named format asked known p here (rw e (named_has format All known p all).1))
