-- What the calls that write some bytes do together, whatever the system answers to each.
use Rattle.std.specs.Prelude.{◌≡◌, true, false, List, [], ◌++◌, ℕ, ◌+◌, ◌*◌, ◌≤◌, ◌<◌, length, take, drop, Result}
use Rattle.sheet_io.specs.declared.Failure.{Failure}
use Rattle.sheet_io.specs.declared.Answer.{Answer}
use Rattle.sheet_io.specs.declared.Progress.{Progress}
use Rattle.sheet_io.specs.Progress.{all_tries, written_of, got_of, moved_by, tries_of, has_failed, start_of, after_of, goes_on, place_of}

-- A write is handed the bytes from the first that is left on, and takes as many of them as it says.
unfoldable pub takes : List ℕ → Progress → ℕ → List ℕ
takes bytes p count = take count (drop (place_of (length bytes) p) bytes)

-- Calls in turn, each where there is a reason to call: what they take together, and how far it is after them.
pub data Writes (bytes : List ℕ) : Progress → List ℕ → Progress → Type 0 where
  none : {p : Progress} → Writes bytes p [] p
  call :
      {p q : Progress} {rest : List ℕ} → goes_on p ≡ true → (outcome : Result ℕ Failure)
      → Writes bytes (after_of p (written_of outcome)) rest q → Writes bytes p (takes bytes p (moved_by outcome) ++ rest) q

-- What was taken is the bytes' beginning, each byte once and in order; and all of them where it ended without a failure.
pub record Output (bytes taken : List ℕ) (p : Progress) : Type 0 where
  pub front : taken ≡ take (place_of (length bytes) p) bytes
  pub whole : goes_on p ≡ false → has_failed p.stage ≡ false → taken ≡ bytes

-- as many calls as can follow, or more
abbrev pub calls_left : Progress → ℕ
calls_left p = p.left * all_tries + tries_of p.stage

pub record OutputLaws : Type 0 where
  pub output : (bytes taken : List ℕ) (p : Progress) → Writes bytes (start_of (length bytes)) taken p → Output bytes taken p
  -- no call brings bytes back
  pub fewer : (p : Progress) (a : Answer) → (after_of p a).left ≤ p.left
  -- the calls end
  pub writes_end : (p : Progress) (outcome : Result ℕ Failure) → goes_on p ≡ true → calls_left (after_of p (written_of outcome)) < calls_left p
  pub reads_end : (p : Progress) (outcome : Result ℕ Failure) → goes_on p ≡ true → calls_left (after_of p (got_of outcome)) < calls_left p
