-- A listing in a slice that may be too short for it.
use Rattle.std.specs.Prelude.{◌≡◌, List, [], ◌++◌, ℕ, ◌+◌, ◌-◌, ◌^◌, ◌<◌, min, length, take}
use Rattle.std.proofs.lemmas.List.Edits.{sets}

-- a length, as far as 64 bits count
abbrev pub counted : ℕ → ℕ
counted n = min n (2 ^ 64 - 1)

-- as much of a text as there is room for after a place
abbrev pub front_put : List ℕ → ℕ → List ℕ → List ℕ
front_put l at text = sets l at (take (length l - at) text)

-- the next part of what was left, put after a place
pub record Lists (l m : List ℕ) (at : ℕ) (before after : List ℕ) (next : ℕ) : Type 0 where
  pub text : List ℕ
  pub left : before ≡ text ++ after
  pub some : 0 < length text
  pub bytes : m ≡ front_put l at text
  pub behind : next ≡ counted (at + length text)

-- nothing was left, and nothing changes
abbrev pub Ended : List ℕ → List ℕ → List ℕ → Type 0
Ended l m before = (before ≡ []) × (m ≡ l)
