-- What the check does not find alone for `refusal_words`.
use Rattle.std.proofs.Common.{rules, ◌≡◌, replicate, ◌≤◌, ◌-◌, ◌+◌, ℕ}
use mathlib.Core.Path.{ap}
use Rattle.c_words.proofs.refusal_words.Goals as goal

split : (n : ℕ) → 6 ≤ n → n ≡ 6 + (n - 6)
split n = search rules

pub returns : goal.returns
returns g c = let e = ap (λ n. replicate {A = ℕ} n 0) (split g.row.N c.requires) in search (rules, e)
