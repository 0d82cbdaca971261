-- What the calls of `read` and `write` were, whatever the system answered to them.
use Rattle.std.specs.Prelude.{◌≡◌, Bool, true, false, not, List, ℕ, ◌≤◌, length, take, Result, is_ok}
use Rattle.sheet_io.specs.declared.Failure.{Failure}
use Rattle.sheet_io.specs.declared.Progress.{Progress}
use Rattle.sheet_io.specs.Progress.{written_of, got_of, has_failed, start_of, after_of, goes_on, place_of}
use Rattle.sheet_io.specs.Output.{Writes}
use Rattle.sheet_calls.specs.declared.Received.{Received}

-- xs has n first bytes: `&xs[..n]` is in bounds, and has as many
abbrev pub IsPrefixLen : ℕ → List ℕ → Type 0
IsPrefixLen n xs = (n ≤ length xs) × (n ≡ length (take n xs))

-- what a write answered was taken note of
pub record Wrote (p r : Progress) : Type 0 where
  pub outcome : Result ℕ Failure
  pub after : r ≡ after_of p (written_of outcome)

-- what a read answered was taken note of
pub record Got (p r : Progress) : Type 0 where
  pub outcome : Result ℕ Failure
  pub after : r ≡ after_of p (got_of outcome)

-- some bytes were written by calls in turn, until there was no reason for another
pub record Sends (bytes : List ℕ) (whole : Bool) : Type 0 where
  pub taken : List ℕ
  pub last : Progress
  pub writes : Writes bytes (start_of (length bytes)) taken last
  pub ended : goes_on last ≡ false
  pub told : whole ≡ not (has_failed last.stage)

-- reads in turn, each where there is a reason to call
pub data Reads : Progress → Progress → Type 0 where
  none : {p : Progress} → Reads p p
  call : {p q : Progress} → goes_on p ≡ true → (outcome : Result ℕ Failure) → Reads (after_of p (got_of outcome)) q → Reads p q

-- n bytes of room were filled by reads, until there was no reason for another: how many bytes, and whether they failed
pub record Receives (n : ℕ) (r : Received) : Type 0 where
  pub last : Progress
  pub reads : Reads (start_of n) last
  pub ended : goes_on last ≡ false
  pub count : r.count ≡ place_of n last
  pub told : is_ok r.outcome ≡ not (has_failed last.stage)
