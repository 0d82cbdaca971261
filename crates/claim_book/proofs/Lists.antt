-- Lists of marks, of layers and of places.
-- Assumes nothing.
use Rattle.std.specs.List.{range_with_len, filter, list_all}
use Rattle.std.proofs.lemmas.List.Edits.{sets-eq}
use mathlib.Core.Path.{◌≡◌, refl, sym, ap, ◌∙◌}
use mathlib.Core.Bool.{Bool, true, false, cond}
use mathlib.Core.List.{List, [], ◌∷◌, ◌++◌}
use mathlib.Core.Logic.{◌⊎◌, inl, inr, ⊎_elim}
use Prim.Native.Nat.{ℕ, zero, suc, ◌+◌, ◌*◌, ◌≤◌, ◌<◌}
use native.Mathlib.Omega.{arith}
use borrow.Author.Tests.{ltb-true, ltb-false}
use lib.Dec.{ltb}
use lib.ListN.{length, get_or, set, drop, replicate, length-set}
use lib.Seq.{sets, get_or-set_same, get_or-set_other}
use Rattle.conditions.proofs.Rules.{both_true}
use Rattle.book_marks.specs.Update.{place_numbers}
use Rattle.book_marks.proofs.Marks.{length_places}
use Rattle.claim_book.specs.Clearing.{Among, Rising, places}

pub below_or_not : (a b : ℕ) → (a < b) ⊎ (b ≤ a)
below_or_not a b = go (ltb a b) refl
  where
    go : (t : Bool) → ltb a b ≡ t → (a < b) ⊎ (b ≤ a)
    go true e = inl (ltb-true a b e)
    go false e = inr (ltb-false a b e)

-- ---- marks that are set one after the other

pub outside_row : (marks : List ℕ) (at n p : ℕ) → (p < at) ⊎ (at + n ≤ p) → get_or (sets marks at (replicate n 1)) p 0 ≡ get_or marks p 0
outside_row marks at zero p h = refl
outside_row marks at (suc n) p h =
    let away : (p ≡ at → ⊥) = λ e. ⊎_elim (λ l. omega (arith, e, l)) (λ r. omega (arith, e, r)) h in
    let on : (p < suc at) ⊎ (suc at + n ≤ p) = ⊎_elim (λ l. inl (omega (arith, l))) (λ r. inr (omega (arith, r))) h in
    outside_row (set marks at 1) (suc at) n p on ∙ get_or-set_other marks at p 1 0 away

pub inside_row : (marks : List ℕ) (at n p : ℕ) → at ≤ p → p < at + n → at + n ≤ length marks → get_or (sets marks at (replicate n 1)) p 0 ≡ 1
inside_row marks at zero p low high fits = absurd (omega arith)
inside_row marks at (suc n) p low high fits =
    let same : p ≤ at → get_or (sets (set marks at 1) (suc at) (replicate n 1)) p 0 ≡ 1 = λ h.
    let e : p ≡ at = omega arith in
    outside_row (set marks at 1) (suc at) n p (inl (omega arith)) ∙ ap (λ (k : ℕ). get_or (set marks at 1) k 0) e ∙ get_or-set_same marks at 1 0 (omega arith) in
    ⊎_elim (λ (h : at < p). inside_row (set marks at 1) (suc at) n p (omega (arith, h)) (omega arith) (rw length-set (omega arith))) same (below_or_not at p)

pub no_mark : (n p : ℕ) → ◌≡◌ {A = ℕ} (get_or (replicate n 0) p 0) 0
no_mark zero p = refl
no_mark (suc n) zero = refl
no_mark (suc n) (suc p) = no_mark n p

-- ---- a row of layers

module _ (test : ℕ → Bool) where
  pub all_test : (z n : ℕ) → list_all test (range_with_len z n) ≡ true → (k : ℕ) → z ≤ k → k < z + n → test k ≡ true
  all_test z zero e k low high = absurd (omega arith)
  all_test z (suc n) e k low high =
      let p = both_true (test z) (list_all test (range_with_len (z + 1) n)) e in
      ⊎_elim (λ l. all_test (z + 1) n p.1 k (omega (arith, l)) (omega arith)) (λ l. let s : k ≡ z = omega (arith, l, low) in ap test s ∙ p.0) (below_or_not z k)

  pub all_by : (z n : ℕ) → ((k : ℕ) → z ≤ k → k < z + n → test k ≡ true) → list_all test (range_with_len z n) ≡ true
  all_by z zero h = refl
  all_by z (suc n) h = rw (h z (omega arith) (omega arith)) (all_by (z + 1) n (λ k low high. h k (omega arith) (omega arith)))

  among_rest : (y z : ℕ) (ys : List ℕ) → Among (cond (test y) (y ∷ ys) ys) z → ((y ≡ z) × (test y ≡ true)) ⊎ Among ys z
  among_rest y z ys = go (test y) refl
    where
      go : (t : Bool) → test y ≡ t → Among (cond t (y ∷ ys) ys) z → ((y ≡ z) × (test y ≡ true)) ⊎ Among ys z
      go true e m = ⊎_elim (λ s. inl (s, e)) (λ r. inr r) m
      go false e m = inr m

  among_first : (y z : ℕ) (ys : List ℕ) → (y ≡ z) × (test y ≡ true) → Among (cond (test y) (y ∷ ys) ys) z
  among_first y z ys h = rw (h.1) (inl (h.0))

  among_later : (y z : ℕ) (ys : List ℕ) → Among ys z → Among (cond (test y) (y ∷ ys) ys) z
  among_later y z ys m = go (test y)
    where
      go : (t : Bool) → Among (cond t (y ∷ ys) ys) z
      go true = inr m
      go false = m

  pub among_kept : (z n k : ℕ) → Among (filter test (range_with_len z n)) k → (z ≤ k) × (k < z + n) × (test k ≡ true)
  among_kept z zero k m = absurd m
  among_kept z (suc n) k m =
      ⊎_elim
      (λ s. (omega (arith, s.0), omega (arith, s.0), ap test (sym s.0) ∙ s.1))
      (λ r. let h = among_kept (z + 1) n k r in (omega (arith, h.0), omega (arith, h.1), h.2))
      (among_rest z k (filter test (range_with_len (z + 1) n)) m)

  pub kept_among : (z n k : ℕ) → z ≤ k → k < z + n → test k ≡ true → Among (filter test (range_with_len z n)) k
  kept_among z zero k low high t = absurd (omega arith)
  kept_among z (suc n) k low high t =
      let rest = filter test (range_with_len (z + 1) n) in
      ⊎_elim
      (λ l. among_later z k rest (kept_among (z + 1) n k (omega (arith, l)) (omega arith) t))
      (λ l. let s : z ≡ k = omega (arith, l, low) in among_first z k rest (s, ap test s ∙ t))
      (below_or_not z k)

  rising_on :
      (z : ℕ) (t : Bool) (ys : List ℕ) → ((y : ℕ) → Among ys y → z < y) → Rising ys → Rising (cond t (z ∷ ys) ys)
  rising_on z true ys above h = (above, h)
  rising_on z false ys above h = h

  pub kept_rising : (z n : ℕ) → Rising (filter test (range_with_len z n))
  kept_rising z zero = tt
  kept_rising z (suc n) =
      rising_on z (test z) (filter test (range_with_len (z + 1) n)) (λ y m. let h = among_kept (z + 1) n y m in omega (arith, h.0)) (kept_rising (z + 1) n)

-- ---- places

places_are : (level : ℕ) (zs : List ℕ) → place_numbers level zs ≡ places level zs
unfolding place_numbers
places_are level [] = refl
places_are level (z ∷ zs) = ap (λ (l : List ℕ). level ∷ z ∷ l) (places_are level zs)

pub places_put : (out : List ℕ) (level : ℕ) (zs : List ℕ) → 2 * length zs ≤ length out → sets out 0 (place_numbers level zs) ≡ places level zs ++ drop (2 * length zs) out
places_put out level zs fits =
    let long = length_places level zs in
    let n : 0 + length (place_numbers level zs) ≡ 2 * length zs = omega (arith, long) in
    let s = sets-eq (place_numbers level zs) out 0 (omega (arith, long, fits)) in
    s ∙ rw (n, places_are level zs) refl
