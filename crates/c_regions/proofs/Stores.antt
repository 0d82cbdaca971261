-- Words that were stored one by one.
-- Assumes nothing.
use Rattle.std.proofs.Common.{◌≡◌, ℕ, zero, suc, ◌+◌, ◌<◌, List, [], ◌∷◌, length, get_or, drop, sym, ap, ◌∙◌, append-nil, arith, drop_of_length-le, get_or-drop, drop-cons}
use lib.Seq.{sets, sets-eq, set-get_or}
use Rattle.c_regions.specs.Regions.{with_aspects}

-- n words from index i
abbrev pub listed : List ℕ → ℕ → ℕ → List ℕ
listed w i zero = []
listed w i (suc n) = get_or w i 0 ∷ listed w (suc i) n

listed_from : (w : List ℕ) (i n : ℕ) → length w ≡ i + n → listed w i n ≡ drop i w
listed_from w i zero h = sym (drop_of_length-le w {i = i} (omega arith))
listed_from w i (suc n) h =
    let inside : i < length w = omega arith in
    let rest : length w ≡ suc i + n = omega arith in
    rw (drop-cons w i 0 inside, listed_from w (suc i) n rest)

-- stores from the first index to the last leave what was stored
stored_over : (l vs : List ℕ) → length l ≡ length vs → sets l 0 vs ≡ vs
stored_over l vs h =
    let z : 0 + length vs ≡ length vs = omega arith in
    let past : drop (length vs) l ≡ [] = drop_of_length-le l {i = length vs} (omega arith) in
    rw (sets-eq vs l 0 (omega arith), z, past) (append-nil vs)

-- a region of all words from index i, as f changes them
pub stored : (f : List ℕ → List ℕ) (w l : List ℕ) (i n : ℕ) → length w ≡ i + n → length l ≡ length (f (listed w i n)) → sets l 0 (f (listed w i n)) ≡ f (drop i w)
stored f w l i n h k = stored_over l (f (listed w i n)) k ∙ ap f (listed_from w i n h)

-- a layer's own aspects change nothing
pub own_aspects : (w : List ℕ) → with_aspects (get_or w 8 0) (get_or w 14 0) (drop 3 w) ≡ drop 3 w
unfolding with_aspects
own_aspects w =
    let source : get_or w 8 0 ≡ get_or (drop 3 w) 5 0 = sym (get_or-drop 3 w 5 0) in
    let destination : get_or w 14 0 ≡ get_or (drop 3 w) 11 0 = sym (get_or-drop 3 w 11 0) in
    rw (source, destination, set-get_or (drop 3 w) 5 0, set-get_or (drop 3 w) 11 0)
