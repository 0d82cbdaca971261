-- A listing put part by part into a slice that may be too short.
-- Assumes nothing.
use mathlib.Core.Path.{◌≡◌, refl, sym, ap, ◌∙◌}
use mathlib.Core.Bool.{Bool, true, false}
use mathlib.Core.List.{List, ◌++◌, append-nil}
use Prim.Native.Nat.{ℕ, ◌+◌, ◌-◌, ◌^◌, ◌≤◌, ◌<◌}
use native.Mathlib.Omega.{arith}
use native.Mathlib.Nat.{pos_of_ne-zero, min-eq_left, min-eq_right}
use borrow.Author.Tests.{leb-true, leb-false}
use lib.Dec.{leb}
use lib.ListN.{length, take, length-append}
use lib.Seq.{sets, length-sets, take_all, take-append-le, take-append-add}
use Rattle.slices.proofs.Puts.{sets_append, put_take, put_length}
use Rattle.sheet_listing.specs.Listing.{Fills}
use Rattle.c_listing.specs.Lists.{counted, front_put, Lists}

-- ---- the front of a text

module _ (k : ℕ) (a : List ℕ) where
  -- by cases on whether the text is long enough
  either : {A : Type 0} → (k ≤ length a → A) → (length a < k → A) → A
  either {A = A} some none = go (leb k (length a)) refl
    where
      go : (t : Bool) → leb k (length a) ≡ t → A
      go true e = some (leb-true _ _ e)
      go false e = none (leb-false _ _ e)

  pub take_parts : (b : List ℕ) → take k (a ++ b) ≡ take k a ++ take (k - length a) b
  take_parts b = either short long
    where
      short : k ≤ length a → take k (a ++ b) ≡ take k a ++ take (k - length a) b
      short h = let z : k - length a ≡ 0 = omega arith in rw z (take-append-le k a b h ∙ sym (append-nil (take k a)))

      long : length a < k → take k (a ++ b) ≡ take k a ++ take (k - length a) b
      long h =
          let e : k ≡ length a + (k - length a) = omega arith in
          ap (λ (n : ℕ). take n (a ++ b)) e ∙ take-append-add a b (k - length a) ∙ ap (λ (x : List ℕ). x ++ take (k - length a) b) (sym (take_all k a (omega arith)))

-- nothing is put after the end, whatever the place
past : (l : List ℕ) (i j n : ℕ) (t : List ℕ) → n ≡ 0 → sets l i (take n t) ≡ sets l j (take n t)
past l i j n t z = rw z refl

pub front_parts : (l : List ℕ) (at : ℕ) (a b : List ℕ) → front_put l at (a ++ b) ≡ front_put (front_put l at a) (at + length a) b
front_parts l at a b =
    let k = length l - at in
    let m = front_put l at a in
    let same : length m ≡ length l = length-sets l at (take k a) in
    let room : length m - (at + length a) ≡ k - length a = omega (arith, same) in
    let parted : front_put l at (a ++ b) ≡ sets m (at + length (take k a)) (take (k - length a) b) = ap (λ (t : List ℕ). sets l at t) (take_parts k a b) ∙ sets_append (take k a) (take (k - length a) b) l at in
    parted ∙ either k a (λ h. past m _ _ (k - length a) b (omega arith)) (λ h. ap (λ (n : ℕ). sets m (at + n) (take (k - length a) b)) (ap length (take_all k a (omega arith)))) ∙ ap (λ (n : ℕ). sets m (at + length a) (take n b)) (sym room)

-- a place past what 64 bits count is past the slice's end
pub front_counted : (l : List ℕ) (p : ℕ) (t : List ℕ) → length l < 2 ^ 64 → front_put l (counted p) t ≡ front_put l p t
front_counted l p t h = go (leb p (2 ^ 64 - 1)) refl
  where
    go : (b : Bool) → leb p (2 ^ 64 - 1) ≡ b → front_put l (counted p) t ≡ front_put l p t
    go true e = ap (λ (n : ℕ). front_put l n t) (min-eq_left (leb-true _ _ e))
    go false e =
        let o : 2 ^ 64 - 1 < p = leb-false _ _ e in
        let c : counted p ≡ 2 ^ 64 - 1 = min-eq_right (omega arith) in
        let z : length l - counted p ≡ 0 = rw c (omega arith) in
        let y : length l - p ≡ 0 = omega arith in
        rw (z, y) refl

counted_on : (n m : ℕ) → counted (counted n + m) ≡ counted (n + m)
counted_on n m = omega arith

-- ---- one part

pub lists :
    (part filled l m before after : List ℕ) (at count next : ℕ) → length part ≡ 16384
    → Fills part filled count before after → count ≤ length filled → (count ≡ 0 → ⊥)
    → next ≡ counted (at + length (take count filled)) → m ≡ front_put l at (take count filled)
    → Lists l m at before after next
lists part filled l m before after at count next room f h some n b =
    let k : 0 + length f.text ≤ length part = omega (arith, f.put.next, put_length f.put) in
    let t : take count filled ≡ f.text = put_take f.put k in
    record {
      text = f.text;
      left = f.left;
      some = omega (arith, f.put.next, pos_of_ne-zero some);
      bytes = b ∙ ap (front_put l at) t;
      behind = n ∙ ap (λ (x : List ℕ). counted (at + length x)) t;
    }

-- ---- all parts: finishing from here gives what the whole gives

pub record Putting (whole first left l : List ℕ) (at : ℕ) : Type 0 where
  pub few : at < 2 ^ 64
  pub same : length l ≡ length first
  pub text : front_put l at left ≡ front_put first 0 whole
  pub count : counted (at + length left) ≡ counted (length whole)

module _ {whole first left l : List ℕ} {at : ℕ} (c : Putting whole first left l at) {after m : List ℕ} {next : ℕ} (p : Lists l m at left after next) where
  pub putting_on : length l < 2 ^ 64 → Putting whole first after m next
  putting_on h =
      let t = p.text in
      let sized : length m ≡ length l = ap length p.bytes ∙ length-sets l at (take (length l - at) t) in
      record {
        few = omega (arith, p.behind);
        same = sized ∙ c.same;
        text =
            ap (λ (n : ℕ). front_put m n after) p.behind
            ∙ front_counted m (at + length t) after (omega (arith, sized))
            ∙ ap (λ (x : List ℕ). front_put x (at + length t) after) p.bytes
            ∙ sym (front_parts l at t after)
            ∙ ap (front_put l at) (sym p.left)
            ∙ c.text;
        count =
            ap (λ (n : ℕ). counted (n + length after)) p.behind
            ∙ counted_on (at + length t) (length after)
            ∙ ap counted (omega (arith, ap length p.left, length-append t after))
            ∙ c.count;
      }
