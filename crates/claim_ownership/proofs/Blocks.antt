-- The arithmetic of blocks laid out in rows and images, over plain numbers and any block size: a byte has one owner, an owned byte lies
-- inside the span, and where nothing pads the rows every byte of the span is owned.
-- Assumes nothing.
use mathlib.Core.Path.{◌≡◌, sym, ap, ◌∙◌}
use mathlib.Core.Logic.{◌⊎◌, inl, inr}
use Prim.Native.Nat.{ℕ, suc, ◌+◌, ◌-◌, ◌*◌, ◌/◌, ◌%◌, ◌≤◌, ◌<◌}
use native.Mathlib.Omega.{arith}
use native.Mathlib.Nat.{zero-mul, suc-mul, mul_assoc, add-mul, mul-le-mul_right, lt_of_lt_of_le, div-add-mod', mod-lt, div-lt_iff_lt-mul}
use lib.Arith.{digits_lt, digits_div, digits_mod}

-- a number has one digit and one rest
digits_inj : (m : ℕ) {q r q' r' : ℕ} → r < m → r' < m → q * m + r ≡ q' * m + r' → (q ≡ q') × (r ≡ r')
digits_inj m {q} {r} {q'} {r'} h h' e =
    (sym (digits_div q h) ∙ ap (λ (n : ℕ). n / m) e ∙ digits_div q' h', sym (digits_mod q h) ∙ ap (λ (n : ℕ). n % m) e ∙ digits_mod q' h')

-- one step less, and the step
pub pred_mul : (n x : ℕ) → 0 < n → (n - 1) * x + x ≡ n * x
pred_mul n x h = sym (suc-mul (n - 1) x) ∙ ap (λ (k : ℕ). k * x) (omega arith)

-- below a single one there is only zero; else the steps are the same
scaled : (k n s x : ℕ) → k < n → (n ≤ 1) ⊎ (s ≡ x) → k * s ≡ k * x
scaled k n s x h (inl e) = let z : k ≡ 0 = omega arith in rw z (zero-mul s ∙ sym (zero-mul x))
scaled k n s x h (inr e) = ap (λ (y : ℕ). k * y) e

-- the first byte of the block in column i, row j, image k
abbrev pub at : ℕ → ℕ → ℕ → ℕ → ℕ → ℕ → ℕ → ℕ
at o rows row bb i j k = o + k * (rows * row) + j * row + i * bb

module _ (o bb wide high d rows row : ℕ) where
  pub one_owner :
      wide * bb ≤ row → high ≤ rows → (byte i j k i' j' k' : ℕ)
      → i < wide → j < high → at o rows row bb i j k ≤ byte → byte < at o rows row bb i j k + bb
      → i' < wide → j' < high → at o rows row bb i' j' k' ≤ byte → byte < at o rows row bb i' j' k' + bb
      → (i ≡ i') × (j ≡ j') × (k ≡ k')
  one_owner fit tall byte i j k i' j' k' hi hj lo up hi' hj' lo' up' =
      let t = byte - at o rows row bb i j k in
      let t' = byte - at o rows row bb i' j' k' in
      let ht : t < bb = omega arith in
      let ht' : t' < bb = omega arith in
      let e : (k * rows + j) * row + (i * bb + t) ≡ (k' * rows + j') * row + (i' * bb + t') = omega (arith, mul_assoc k rows row, add-mul (k * rows) j row, mul_assoc k' rows row, add-mul (k' * rows) j' row) in
      let q = digits_inj row (lt_of_lt_of_le (digits_lt hi ht) fit) (lt_of_lt_of_le (digits_lt hi' ht') fit) e in
      let p = digits_inj rows (lt_of_lt_of_le hj tall) (lt_of_lt_of_le hj' tall) q.0 in
      ((digits_inj bb ht ht' q.1).0, p.1, p.0)

  -- the bytes of the span
  abbrev pub span : ℕ
  span = (d - 1) * (rows * row) + ((high - 1) * row + wide * bb)

  pub inside : (i j k : ℕ) → i < wide → j < high → k < d → at o rows row bb i j k + bb ≤ o + span
  inside i j k hi hj hk =
      let a : k * (rows * row) ≤ (d - 1) * (rows * row) = mul-le-mul_right (rows * row) (omega arith) in
      let b : j * row ≤ (high - 1) * row = mul-le-mul_right row (omega arith) in
      let e : suc i * bb ≤ wide * bb = mul-le-mul_right bb hi in
      omega (arith, suc-mul i bb)

  pub image_inside : (k : ℕ) → k < d → k * (rows * row) ≤ span
  image_inside k hk =
      let a : k * (rows * row) ≤ (d - 1) * (rows * row) = mul-le-mul_right (rows * row) (omega arith) in
      omega arith

  -- what owns a byte of the span where nothing pads it
  pub record Found (byte : ℕ) : Type 0 where
    pub i : ℕ
    pub j : ℕ
    pub k : ℕ
    pub i_in : i < wide
    pub j_in : j < high
    pub k_in : k < d
    pub from : at o rows row bb i j k ≤ byte
    pub before : byte < at o rows row bb i j k + bb

  pub full :
      0 < bb → 0 < wide → 0 < high → 0 < d → (d ≤ 1) ⊎ (rows * row ≡ high * (wide * bb)) → (high ≤ 1) ⊎ (row ≡ wide * bb)
      → (byte : ℕ) → o ≤ byte → byte < o + span → Found byte
  full hb hw hh hd images lines byte lo up =
      let r = byte - o in
      let n = r / bb in
      let m = n / wide in
      let all : span ≡ d * (high * (wide * bb)) = omega (arith, scaled (d - 1) d (rows * row) (high * (wide * bb)) (omega arith) images, scaled (high - 1) high row (wide * bb) (omega arith) lines, pred_mul high (wide * bb) hh, pred_mul d (high * (wide * bb)) hd) in
      let below : r < d * high * wide * bb = simp mul_assoc (omega arith) in
      let hk : m / high < d = (div-lt_iff_lt-mul hh).1 ((div-lt_iff_lt-mul hw).1 ((div-lt_iff_lt-mul hb).1 below)) in
      let hj : m % high < high = mod-lt m hh in
      let hi : n % wide < wide = mod-lt n hw in
      let g : n * bb ≡ m * (wide * bb) + n % wide * bb = ap (λ (q : ℕ). q * bb) (sym (div-add-mod' n wide)) ∙ add-mul (m * wide) (n % wide) bb ∙ ap (λ (q : ℕ). q + n % wide * bb) (mul_assoc m wide bb) in
      let f : m * (wide * bb) ≡ m / high * (high * (wide * bb)) + m % high * (wide * bb) = ap (λ (q : ℕ). q * (wide * bb)) (sym (div-add-mod' m high)) ∙ add-mul (m / high * high) (m % high) (wide * bb) ∙ ap (λ (q : ℕ). q + m % high * (wide * bb)) (mul_assoc (m / high) high (wide * bb)) in
      let s : m / high * (rows * row) ≡ m / high * (high * (wide * bb)) = scaled (m / high) d (rows * row) (high * (wide * bb)) hk images in
      let u : m % high * row ≡ m % high * (wide * bb) = scaled (m % high) high row (wide * bb) hj lines in
      record {
        i = n % wide;
        j = m % high;
        k = m / high;
        i_in = hi;
        j_in = hj;
        k_in = hk;
        from = omega (arith, div-add-mod' r bb);
        before = omega (arith, div-add-mod' r bb, mod-lt r hb);
      }
