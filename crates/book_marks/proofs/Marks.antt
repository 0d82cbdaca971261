-- Loops over the layers of a level: those without a mark from a layer on, their numbers put into a slice, and marks set in a row.
-- Assumes nothing.
use mathlib.Core.Path.{◌≡◌, refl, sym, ap, ◌∙◌}
use mathlib.Core.Bool.{Bool, true, false, ◌||◌}
use mathlib.Core.List.{List, [], ◌∷◌}
use Prim.Native.Nat.{ℕ, suc, ◌+◌, ◌*◌, ◌-◌, ◌≤◌, ◌<◌}
use native.Mathlib.Numerals.{add-one}
use native.Mathlib.Omega.{arith}
use lib.ListN.{length, set, replicate, drop, length-drop, length-replicate}
use borrow.Author.Tests.{ltb-false, leb-false}
use lib.Dec.{leb, ltb}
use lib.Seq.{sets, length-take-le}
use borrow.Rule.Slice.PartMut.{mid_of, put_mid}
use Rattle.slices.proofs.Puts.{put_copied}
use Rattle.std.specs.List.{range_with_len}
use Rattle.book_marks.specs.Book.{is_marked}
use Rattle.rule_init_ranges.specs.declared.TextureInitRange.{TextureInitRange}
use Rattle.book_marks.specs.Update.{is_outside, unmarked, place_numbers}

pub one_on : (z e : ℕ) → z < e → e - z ≡ suc (e - (z + 1))
one_on z e h = rw (← add-one (e - (z + 1))) (omega arith)

module _ (marks : List ℕ) (level : ℕ) where
  -- those from a layer on, up to an end
  abbrev pub left : ℕ → ℕ → List ℕ
  left z e = unmarked marks level (range_with_len z (e - z))

  module _ (z e : ℕ) (h : z < e) where
    pub left_marked : is_marked marks level z ≡ true → left z e ≡ left (z + 1) e
    unfolding unmarked
    left_marked t = rw (one_on z e h, t)

    pub left_unmarked : is_marked marks level z ≡ false → left z e ≡ z ∷ left (z + 1) e
    unfolding unmarked
    left_unmarked t = rw (one_on z e h, t)

  pub left_none : (z e : ℕ) → e ≤ z → left z e ≡ []
  unfolding unmarked
  left_none z e h = let k : e - z ≡ 0 = omega arith in rw k

-- ---- their numbers

pub length_places : (level : ℕ) (zs : List ℕ) → length (place_numbers level zs) ≡ 2 * length zs
unfolding place_numbers
length_places level [] = refl
length_places level (z ∷ zs) = omega (arith, length_places level zs)

pub places_none : (level : ℕ) (zs : List ℕ) → zs ≡ [] → place_numbers level zs ≡ []
unfolding place_numbers
places_none level zs e = rw e

pub places_on : (out : List ℕ) (at level z : ℕ) (zs us : List ℕ) → us ≡ z ∷ zs → sets (set (set out at level) (at + 1) z) (at + 2) (place_numbers level zs) ≡ sets out at (place_numbers level us)
unfolding place_numbers
places_on out at level z zs us e =
    let one : at + 1 ≡ suc at = omega arith in
    let two : at + 2 ≡ suc (suc at) = omega arith in
    rw (e, one, two)

-- ---- marks in a row

pub filled :
    (marks new : List ℕ) (at n k : ℕ) → new ≡ replicate (length (mid_of at n marks)) 1 → n ≡ k → at + k ≤ length marks
    → put_mid at n marks new ≡ sets marks at (replicate k 1)
filled marks new at n k e h fits =
    let rest : length (drop at marks) ≡ length marks - at = length-drop at marks in
    let size : length (mid_of at n marks) ≡ k = length-take-le n (drop at marks) (omega (arith, rest, h, fits)) ∙ h in
    let long : length (replicate {A = ℕ} k 1) ≡ k = length-replicate {A = ℕ} k 1 in
    (put_copied marks new (replicate k 1) at n (e ∙ ap (λ (i : ℕ). replicate i 1) size) (h ∙ sym long) (omega (arith, long))).numbers

-- ---- a range that is not 39

neither : (a b : Bool) → (a || b) ≡ false → (a ≡ false) × (b ≡ false)
neither true b h = absurd (let z : ◌≡◌ {A = ℕ} 0 1 = cc in omega arith)
neither false b h = (refl, h)

pub record Inside (r : TextureInitRange) : Type 0 where
  pub level_few : r.mip_level < 14
  pub rising : r.layers.start ≤ r.layers.end
  pub layers_few : r.layers.end ≤ 256

pub inside : (levels layers : ℕ) (r : TextureInitRange) → is_outside levels layers r ≡ false → Inside r
unfolding is_outside
inside levels layers r h =
    let a = neither (ltb 14 levels) _ h in
    let b = neither (ltb 256 layers) _ a.1 in
    let c = neither (leb levels r.mip_level) _ b.1 in
    let d = neither (ltb r.layers.end r.layers.start) _ c.1 in
    let few = ltb-false 14 levels a.0 in
    let thin = ltb-false 256 layers b.0 in
    let there = leb-false levels r.mip_level c.0 in
    let rises = ltb-false r.layers.end r.layers.start d.0 in
    let ends = ltb-false layers r.layers.end d.1 in
    record { level_few = omega arith; rising = omega arith; layers_few = omega arith }
