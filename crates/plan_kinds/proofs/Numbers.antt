-- The numbers of the next region, where one is left.
-- Assumes nothing.
use Rattle.std.specs.Prelude.{Option, Some, None, option_map, MatchOption, IsSomeAnd}
use mathlib.Core.Path.{◌≡◌, ap}
use mathlib.Core.List.{List}
use Prim.Native.Nat.{ℕ}

-- what is made of an answer that may be absent
pub mapped : {T : Type 0} (f : T → List ℕ) (o : Option T) (r : Option (List ℕ)) → MatchOption o (r ≡ None) (λ x. IsSomeAnd r (λ y. y ≡ f x)) → r ≡ option_map f o
mapped f None r h = h
mapped f (Some x) (Some y) h = ap Some h
mapped f (Some x) None h = absurd h
