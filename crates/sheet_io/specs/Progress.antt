-- How bytes go through a descriptor, call by call.
use Rattle.std.specs.Prelude.{Bool, true, false, ℕ, ◌-◌, eqb, ltb, Result, Ok, Err}
use Rattle.conditions.specs.Conditions.{pick}
use Rattle.sheet_io.specs.declared.Failure.{Failure}
use Rattle.sheet_io.specs.declared.Failure.TheVariants.{Passes, Lasts}
use Rattle.sheet_io.specs.declared.Answer.{Answer}
use Rattle.sheet_io.specs.declared.Answer.TheVariants.{Moved, End, Again, Failed}
use Rattle.sheet_io.specs.declared.Stage.{Stage}
use Rattle.sheet_io.specs.declared.Stage.TheVariants as S
use Rattle.sheet_io.specs.declared.Progress.{Progress}

-- how many calls in a row may move nothing
abbrev pub all_tries : ℕ
all_tries = 60000

-- ---- what a call did

-- by what it means that it moved no bytes, and its outcome
unfoldable pub answer_of : Answer → Result ℕ Failure → Answer
answer_of none (Ok count) = pick (eqb count 0) none (Moved count)
answer_of none (Err Passes) = Again
answer_of none (Err Lasts) = Failed

abbrev pub written_of : Result ℕ Failure → Answer
written_of = answer_of Again

-- a read moves nothing where the input ends
abbrev pub got_of : Result ℕ Failure → Answer
got_of = answer_of End

-- how many bytes a call moved
abbrev pub moved_by : Result ℕ Failure → ℕ
moved_by (Ok count) = count
moved_by (Err failure) = 0

-- ---- how far it is

-- how many calls in a row may still move nothing
abbrev pub tries_of : Stage → ℕ
tries_of (S.Trying tries) = tries
tries_of S.Ended = 0
tries_of S.Failed = 0

abbrev pub has_failed : Stage → Bool
has_failed (S.Trying tries) = false
has_failed S.Ended = false
has_failed S.Failed = true

-- before the first call, with n bytes to be moved
unfoldable pub start_of : ℕ → Progress
start_of n = record { left = n; stage = S.Trying all_tries }

-- one try fewer; the last one fails
unfoldable pub after_none : Progress → Progress
after_none p = record { left = p.left; stage = pick (ltb 1 (tries_of p.stage)) (S.Trying (tries_of p.stage - 1)) S.Failed }

unfoldable pub after_of : Progress → Answer → Progress
after_of p (Moved n) = start_of (p.left - n)
after_of p Again = after_none p
after_of p End = record { left = p.left; stage = S.Ended }
after_of p Failed = record { left = p.left; stage = S.Failed }

-- there is a reason to call again
unfoldable pub goes_on : Progress → Bool
goes_on p = pick (eqb p.left 0) false (ltb 0 (tries_of p.stage))

-- where the bytes that are left begin, of n
unfoldable pub place_of : ℕ → Progress → ℕ
place_of n p = n - p.left
