-- What it means that numbers were put into a slice.
use Rattle.std.specs.Prelude.{List, ℕ, ◌+◌, ◌≡◌, length}
use Rattle.std.proofs.lemmas.List.Edits.{sets}

-- m is l but for the numbers ns, which stand at a place; r is the place after them
pub record Put (l m : List ℕ) (at : ℕ) (ns : List ℕ) (r : ℕ) : Type 0 where
  pub next : r ≡ at + length ns
  pub numbers : m ≡ sets l at ns
