-- How decimals grow, and how the texts of numbers and lines join.
-- Assumes nothing.
use mathlib.Core.Path.{◌≡◌, refl, sym, ap, ◌∙◌}
use mathlib.Core.Bool.{Bool, true, false}
use mathlib.Core.List.{List, [], ◌∷◌, ◌++◌}
use Prim.Native.Nat.{ℕ, zero, suc, ◌+◌, ◌-◌, ◌*◌, ◌/◌, ◌%◌, ◌^◌, ◌≤◌, ◌<◌}
use native.Mathlib.Omega.{arith}
use native.Mathlib.Numerals.{add-one}
use native.Mathlib.Nat.{div-lt_iff_lt-mul, pow-suc}
use mathlib.Core.Logic.{◌⊎◌, inl, inr, ⊎_elim}
use borrow.Author.Tests.{ltb-true, ltb-false, lt-ltb, le-ltb}
use lib.Dec.{ltb}
use lib.ListN.{length, set, drop, get_or, length-append, length-set, drop_of_length-le}
use lib.Seq.{drop-cons}
use Rattle.conditions.specs.Conditions.{pick}
use Rattle.slices.specs.Put.{Put}
use Rattle.slices.proofs.Puts.{put_length, put_then, put_as, put_none, put_one}
use Rattle.sheet_text.specs.Text.{digits_in, decimal, number_text, spaced, line_text, is_absent}

-- ---- decimals

lt_or : (n m : ℕ) (t : Bool) → ltb n m ≡ t → (n < m) ⊎ (m ≤ n)
lt_or n m true e = inl (ltb-true n m e)
lt_or n m false e = inr (ltb-false n m e)

abbrev lt_or_ge : (n m : ℕ) → (n < m) ⊎ (m ≤ n)
lt_or_ge n m = lt_or n m (ltb n m) refl

short : (f n : ℕ) → n < 10 → digits_in (suc f) n ≡ (48 + n) ∷ []
unfolding digits_in
short f n h = rw (lt-ltb n 10 h)

long : (f n : ℕ) → 10 ≤ n → digits_in (suc f) n ≡ digits_in f (n / 10) ++ ((48 + n % 10) ∷ [])
unfolding digits_in
long f n h = rw (le-ltb n 10 h)

tenth : (f n : ℕ) → n < 10 ^ suc (suc f) → n / 10 < 10 ^ suc f
tenth f n h = (div-lt_iff_lt-mul {k = 10} (omega arith)).1 (omega (arith, pow-suc 10 (suc f)))

more : (f n : ℕ) → n < 10 ^ suc f → digits_in (suc f) n ≡ digits_in (suc (suc f)) n
more zero n h = short 0 n h ∙ sym (short 1 n h)
more (suc f) n h = ⊎_elim (λ s. short (suc f) n s ∙ sym (short (suc (suc f)) n s)) (λ g. rw (long (suc f) n g, long (suc (suc f)) n g, more f (n / 10) (tenth f n h))) (lt_or_ge n 10)

pub decimal_short : (n : ℕ) → n < 10 → decimal n ≡ (48 + n) ∷ []
unfolding decimal
decimal_short n h = short 19 n h

pub decimal_long : (n : ℕ) → 10 ≤ n → n < 2 ^ 64 → decimal n ≡ decimal (n / 10) ++ ((48 + n % 10) ∷ [])
unfolding decimal
decimal_long n g h = long 19 n g ∙ ap (λ (d : List ℕ). d ++ ((48 + n % 10) ∷ [])) (more 18 (n / 10) (tenth 18 n (omega arith)))

few_none : (n : ℕ) → length (digits_in zero n) ≤ zero
unfolding digits_in
few_none n = omega arith

digits_few : (f n : ℕ) → length (digits_in f n) ≤ f
digits_few zero n = few_none n
digits_few (suc f) n = ⊎_elim (λ s. rw (short f n s) (omega arith)) (λ g. rw (long f n g, length-append (digits_in f (n / 10)) ((48 + n % 10) ∷ [])) (omega (arith, digits_few f (n / 10)))) (lt_or_ge n 10)

pub decimal_few : (n : ℕ) → length (decimal n) ≤ 20
unfolding decimal
decimal_few n = digits_few 20 n

pub decimal_first : (l : List ℕ) (at n x : ℕ) → n < 10 → x ≡ 48 + n → Put l (set l at x) at (decimal n) (at + 1)
decimal_first l at n x h e = put_as (put_one l at x) (rw e (sym (decimal_short n h)))

module _ {l m : List ℕ} {at r : ℕ} (n : ℕ) (g : 10 ≤ n) (h : n < 2 ^ 64) (p : Put l m at (decimal (n / 10)) r) where
  pub decimal_last : (x : ℕ) → x ≡ 48 + n % 10 → Put l (set m r x) at (decimal n) (r + 1)
  decimal_last x e = put_as (put_then p (put_one m r x)) (rw e (sym (decimal_long n g h)))

  pub decimal_room : at + 20 ≤ length l → r < length m
  decimal_room k =
      let a : length (decimal (n / 10)) + 1 ≤ 20 = omega (arith, decimal_few n, ap length (decimal_long n g h), length-append (decimal (n / 10)) ((48 + n % 10) ∷ [])) in
      omega (arith, p.next, put_length p)

-- ---- a number, or a dash

module _ (n : ℕ) (d r : Bool) (is : r ≡ is_absent d n) where
  pub dash_put : (l : List ℕ) (at : ℕ) → r ≡ true → Put l (set l at 45) at (number_text d n) (at + 1)
  unfolding number_text
  dash_put l at h = rw (← is, h) (put_one l at 45)

  pub number_put : {l m : List ℕ} {at q : ℕ} → r ≡ false → Put l m at (decimal n) q → Put l m at (number_text d n) q
  unfolding number_text
  number_put h p = rw (← is, h) p

pub number_few : (d : Bool) (n : ℕ) → length (number_text d n) ≤ 20
unfolding number_text
number_few d n = few_by (is_absent d n) n where
  few_by : (t : Bool) (n : ℕ) → length (pick t (45 ∷ []) (decimal n)) ≤ 20
  few_by true n = omega arith
  few_by false n = decimal_few n

-- ---- numbers, each after a space

module _ (dash : Bool) (l₀ l : List ℕ) (at next : ℕ) (ns : List ℕ) (i : ℕ) where
  -- underway: whatever puts the numbers that are left has put all of them
  pub record Underway : Type 0 where
    pub room : next + 21 * (length ns - i) ≤ length l
    pub same : length l ≡ length l₀
    pub rest : (m : List ℕ) (r : ℕ) → Put l m next (spaced dash (drop i ns)) r → Put l₀ m at (spaced dash ns) r

spaced_on : (dash : Bool) (ns : List ℕ) (i : ℕ) → i < length ns → spaced dash (drop i ns) ≡ 32 ∷ (number_text dash (get_or ns i 0) ++ spaced dash (drop (i + 1) ns))
unfolding spaced
spaced_on dash ns i h = rw (drop-cons ns i 0 h, add-one i)

spaced_end : (dash : Bool) (ns : List ℕ) (i : ℕ) → length ns ≤ i → spaced dash (drop i ns) ≡ []
unfolding spaced
spaced_end dash ns i h = rw (drop_of_length-le ns h)

pub underway_on :
    (dash : Bool) (l₀ l m : List ℕ) (at next : ℕ) (ns : List ℕ) (i r : ℕ) → Underway dash l₀ l at next ns i → i < length ns
    → Put (set l next 32) m (next + 1) (number_text dash (get_or ns i 0)) r → Underway dash l₀ m at r ns (i + 1)
underway_on dash l₀ l m at next ns i r u h p =
    let k : length m ≡ length l = put_length p ∙ length-set l next 32 in
    let f = number_few dash (get_or ns i 0) in
    record {
      room = rw p.next (omega (arith, u.room));
      same = k ∙ u.same;
      rest = λ m' r' q. u.rest m' r' (put_as (put_then (put_one l next 32) (put_then p q)) (sym (spaced_on dash ns i h)));
    }

pub underway_end : (dash : Bool) (l₀ l : List ℕ) (at next : ℕ) (ns : List ℕ) (i : ℕ) → Underway dash l₀ l at next ns i → length ns ≤ i → Put l₀ l at (spaced dash ns) next
underway_end dash l₀ l at next ns i u h = u.rest l next (put_as (put_none l next) (sym (spaced_end dash ns i h)))

-- ---- a line

pub line_put :
    {l m k : List ℕ} {at a b : ℕ} (w : List ℕ) (dash : Bool) (ns : List ℕ) → Put l m at w a → Put m k a (spaced dash ns) b → Put l (set k b 10) at (line_text w dash ns) (b + 1)
unfolding line_text
line_put {k = k} {b = b} w dash ns p q = put_then p (put_then q (put_one k b 10))

pub spaced_few : (dash : Bool) (ns : List ℕ) → length (spaced dash ns) ≤ 21 * length ns
unfolding spaced
spaced_few dash [] = omega arith
spaced_few dash (n ∷ ns) = rw (length-append (number_text dash n) (spaced dash ns)) (omega (arith, number_few dash n, spaced_few dash ns))

module _ {l m : List ℕ} {at a : ℕ} (w : List ℕ) (dash : Bool) (ns : List ℕ) (h : at + (length w + (21 * length ns + 1)) ≤ length l) (p : Put l m at w a) where
  pub numbers_room : a + 21 * length ns ≤ length m
  numbers_room = omega (arith, p.next, put_length p)

  pub line_room : {k : List ℕ} {b : ℕ} → Put m k a (spaced dash ns) b → b < length k
  line_room q = omega (arith, p.next, put_length p, q.next, put_length q, spaced_few dash ns)

pub line_few : (w : List ℕ) (dash : Bool) (ns : List ℕ) → length (line_text w dash ns) ≤ length w + (21 * length ns + 1)
unfolding line_text
line_few w dash ns = rw (length-append w (spaced dash ns ++ (10 ∷ [])), length-append (spaced dash ns) (10 ∷ [])) (omega (arith, spaced_few dash ns))
