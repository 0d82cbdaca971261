-- Zeros stay behind a row's numbers where more are put after them.
-- Assumes nothing.
use mathlib.Core.Path.{◌≡◌, sym, ap, ◌∙◌}
use mathlib.Core.List.{List, ◌++◌}
use Prim.Native.Nat.{ℕ, ◌+◌, ◌-◌, ◌≤◌}
use native.Mathlib.Omega.{arith}
use lib.ListN.{length, take, drop, replicate, length-append, length-drop}
use lib.Seq.{length-take-le, drop-drop}
use borrow.Rule.Slice.PartMut.{put_mid}
use Rattle.std.proofs.lemmas.List.{drop-replicate}
use Rattle.std.proofs.lemmas.Slice.{drop-put_mid, take-put_mid}

-- n numbers are put from place c on
module _ (c n k : ℕ) (v ys : List ℕ) (is : k ≡ n) (room : c + n ≤ 15) (all : length v ≡ 15) (put : length ys ≡ n) where
  pub as_long : length (put_mid c k v ys) ≡ 15
  as_long =
      omega (arith, length-append (take c v) (ys ++ drop k (drop c v)), length-append ys (drop k (drop c v)), length-take-le c v (omega arith), length-drop k (drop c v), length-drop c v)

  pub numbers_before : (row more : List ℕ) → take c v ≡ row → ys ≡ more → take (c + n) (put_mid c k v ys) ≡ row ++ more
  numbers_before row more e f = rw (← e, ← f) (take-put_mid c k v ys (c + n) (omega arith) (omega arith))

  pub zeros_behind : drop c v ≡ replicate (15 - c) 0 → drop (c + n) (put_mid c k v ys) ≡ replicate (15 - (c + n)) 0
  zeros_behind zeros =
      let rest : 15 - c - n ≡ 15 - (c + n) = omega arith in
      drop-put_mid c k v ys (c + n) (omega arith) (omega arith) (omega arith)
      ∙ sym (drop-drop n c v) ∙ ap (drop n) zeros ∙ drop-replicate n (15 - c) 0 ∙ ap (λ m. replicate m 0) rest
