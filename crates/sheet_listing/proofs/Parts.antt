-- A piece that is put into a part of a slice.
-- Assumes nothing.
use Rattle.std.specs.Prelude.{Option, Some, None, MatchOption}
use mathlib.Core.Path.{◌≡◌, sym, ap, ◌∙◌}
use mathlib.Core.List.{List, ◌++◌, append_assoc, append-nil}
use Prim.Native.Nat.{ℕ, ◌+◌, ◌≤◌}
use native.Mathlib.Omega.{arith}
use borrow.Rule.Slice.PartMut.{mid_of, post_of, put_mid}
use lib.ListN.{length, take, drop}
use lib.Seq.{sets-eq, drop-drop}
use Rattle.std.proofs.lemmas.List.{take-append-drop, drop-append-le, length-take, length-take-le, length-drop}
use Rattle.std.specs.Array.{IsFirstChunk}
use Rattle.records.specs.declared.Device.{Device}
use Rattle.slices.specs.Put.{Put}
use Rattle.slices.proofs.Puts.{put_length}
use Rattle.sheet_lines.specs.Lines.{sheet_text}
use Rattle.sheet_lines.proofs.LineLaws.{sheet_few, sheet_some}
use Rattle.sheet_listing.specs.declared.CopiesLeft.{CopiesLeft}
use Rattle.sheet_listing.specs.declared.Stepped.{Stepped}
use Rattle.sheet_listing.specs.Listing.{Steps, Stops, Fills, Ends, rest_of}
use Rattle.sheet_listing.specs.declared.Listing.TheVariants.{Ill, Ended}

-- numbers at the start of the part from a on, which has k elements, are numbers at a
pub put_part :
    (l m : List ℕ) (a k : ℕ) {t : List ℕ} {r : ℕ} → Put (mid_of a k l) m 0 t r → length t ≤ length (mid_of a k l) → a ≤ length l
    → Put l (put_mid a k l m) a t (a + r)
put_part l m a k {t} p h g =
    let inside : a + length t ≤ length l = omega (arith, length-take k (drop a l), length-drop a l) in
    let start : 0 + length t ≡ length t = omega arith in
    let rest : drop (0 + length t) (mid_of a k l) ++ post_of a k l ≡ drop (a + length t) l =
    rw start (sym (drop-append-le (length t) (mid_of a k l) (post_of a k l) h) ∙ ap (λ (x : List ℕ). drop (length t) x) (take-append-drop k (drop a l)) ∙ drop-drop (length t) a l) in
    record {
      next = omega (arith, p.next);
      numbers =
          ap (λ (x : List ℕ). take a l ++ (x ++ post_of a k l)) (p.numbers ∙ sets-eq t (mid_of a k l) 0 (omega (arith, h)))
          ∙ ap (λ (x : List ℕ). take a l ++ x) (append_assoc t _ _ ∙ ap (λ (x : List ℕ). t ++ x) rest)
          ∙ sym (append_assoc (take a l) t _) ∙ sym (sets-eq t l a inside);
    }

module _ {l p : List ℕ} (f : IsFirstChunk l p 1024) where
  chunk_length : length p ≡ 1024
  chunk_length = rw f.same (length-take-le 1024 l f.enough)

  -- numbers at the start of the first chunk are numbers at the start
  pub put_chunk : {m t : List ℕ} {r : ℕ} → Put p m 0 t r → length t ≤ length p → Put l (m ++ drop 1024 l) 0 t r
  put_chunk {m} {t} {r} put h =
      let part : Put (mid_of 0 1024 l) m 0 t r = rw (← f.same) put in
      record { next = put.next; numbers = (put_part l m 0 1024 part (rw (← f.same) h) (omega arith)).numbers }

  -- an ill sheet's line
  module _ (line : ℕ) {n : ℕ} {m : List ℕ} (put : Put p m 0 (sheet_text line) n) where
    line_put : Put l (m ++ drop 1024 l) 0 (sheet_text line) n
    line_put = put_chunk put (omega (arith, sheet_few line, chunk_length))

    pub line_fills : (s : List ℕ) → Fills l (m ++ drop 1024 l) n (rest_of s (Ill line)) (rest_of s Ended)
    unfolding rest_of
    line_fills s = record { text = sheet_text line; put = line_put; left = sym (append-nil (sheet_text line)) }

    pub line_inside : n ≤ length (m ++ drop 1024 l)
    line_inside = omega (arith, put_length line_put, put.next, sheet_few line, f.enough)

    pub line_ends : (s : List ℕ) → Ends (length l) n (rest_of s (Ill line))
    line_ends s room none = absurd (omega (arith, put.next, sheet_some line))

  -- a step
  module _ (s ts bs : List ℕ) (device : Device) (c : CopiesLeft) where
    pub step_in_chunk :
        (m : List ℕ) (o : Option Stepped) → MatchOption o (Stops s ts bs device c p m) (λ x. Steps s ts bs device c p m x.count x.copies)
        → MatchOption o (Stops s ts bs device c l (m ++ drop 1024 l)) (λ x. Steps s ts bs device c l (m ++ drop 1024 l) x.count x.copies)
    step_in_chunk m None h = (λ g. h.0 (omega (arith, chunk_length)), rw (h.1, f.same) (take-append-drop 1024 l))
    step_in_chunk m (Some x) h =
        record {
          put = put_chunk h.put (omega (arith, h.put.next, h.fits));
          some = h.some;
          fits = omega (arith, h.fits, chunk_length, f.enough);
          state = h.state;
        }
