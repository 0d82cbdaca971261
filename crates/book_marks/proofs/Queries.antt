-- Creation, and what is asked of a book.
-- Assumes nothing.
use Rattle.std.specs.Prelude.{Result, Ok}
use Rattle.std.specs.List.{range_with_len, list_all}
use mathlib.Core.Path.{◌≡◌}
use mathlib.Core.Bool.{Bool, true, false}
use Prim.Native.Nat.{ℕ, ◌+◌, ◌-◌, ◌≤◌, ◌<◌}
use native.Mathlib.Omega.{arith}
use lib.ListN.{replicate}
use Rattle.conditions.specs.Conditions.{stop_if}
use Rattle.mip_levels.specs.Level.{texture_dimension}
use Rattle.records.specs.declared.Texture.{Texture}
use Rattle.records.specs.Bounds.{texture_in_bounds}
use Rattle.book_marks.specs.declared.Book.{Book}
use Rattle.book_marks.specs.declared.BookError.{BookError}
use Rattle.book_marks.specs.Book.{layer_count, book_with, created}
use Rattle.book_marks.proofs.Marks.{one_on}

pub created_blank :
    (t : Texture) (layers : ℕ) → texture_in_bounds t ≡ true → layers ≡ layer_count (texture_dimension t.dimension) t.size
    → ◌≡◌ {A = Result Book BookError} (Ok (book_with t.mip_level_count layers (replicate 3584 0))) (created t)
unfolding created stop_if
created_blank t layers h e = rw (h, e)

-- ---- a test of each number from one on, up to an end

module _ (test : ℕ → Bool) where
  abbrev pub all_left : ℕ → ℕ → Bool
  all_left z e = list_all test (range_with_len z (e - z))

  pub all_start : (n : ℕ) → all_left 0 n ≡ list_all test (range_with_len 0 n)
  all_start n = let k : n - 0 ≡ n = omega arith in rw k

  pub all_on : (z e : ℕ) → z < e → test z ≡ true → all_left (z + 1) e ≡ all_left z e
  all_on z e h t = rw (one_on z e h, t)

  pub all_off : (z e : ℕ) → z < e → test z ≡ false → all_left z e ≡ false
  all_off z e h t = rw (one_on z e h, t)

  pub all_none : (z e : ℕ) → e ≤ z → all_left z e ≡ true
  all_none z e h = let k : e - z ≡ 0 = omega arith in rw k
