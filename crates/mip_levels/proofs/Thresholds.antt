-- The printed list of thresholds says of a count of levels what the halvings say.
-- Assumes nothing.
use mathlib.Core.Path.{◌≡◌, refl, ap, ◌∙◌}
use mathlib.Core.Bool.{Bool, true, false, ◌&&◌}
use mathlib.Core.List.{List, [], ◌∷◌}
use mathlib.Core.Logic.{◌↔◌}
use Prim.Native.Nat.{ℕ, zero, suc, ◌-◌, ◌*◌, ◌^◌, ◌≤◌, ◌<◌}
use native.Mathlib.Omega.{arith}
use native.Mathlib.Nat.{mul_assoc, mul_comm, mul-one, one-mul, pow-suc, pow-zero}
use borrow.Author.Tests.{leb-true, leb-false, le-leb, lt-leb}
use lib.Dec.{leb}
use Rattle.std.specs.Prelude.{length, slice_index_or}
use Rattle.mip_levels.specs.Level.{max_mip_levels}
use Rattle.mip_levels.specs.Laws.{ThresholdLaw}
use Rattle.mip_levels.specs.declared.TheConstants.{LEVEL_THRESHOLDS}
use Rattle.mip_levels.proofs.Halving.{level_laws, reaches, reached}

-- from a first threshold on, each twice the one before
doubled : ℕ → ℕ → List ℕ
doubled first zero = []
doubled first (suc more) = first ∷ doubled (first * 2) more

entry : (first count i : ℕ) → i < count → slice_index_or (doubled first count) i 0 ≡ first * 2 ^ i
unfolding doubled
entry first zero i h = absurd (omega arith)
entry first (suc more) zero h = rw (pow-zero, mul-one)
entry first (suc more) (suc i) h = rw (entry (first * 2) more i (omega arith), mul_assoc, mul_comm 2 (2 ^ i), pow-suc)

-- the whole list, computed once
printed : LEVEL_THRESHOLDS ≡ doubled 1 (length LEVEL_THRESHOLDS)
unfolding doubled
printed = refl

pub threshold : ThresholdLaw
threshold i h = ap (λ list. slice_index_or list i 0) printed ∙ (entry 1 (length LEVEL_THRESHOLDS) i h ∙ one-mul (2 ^ i))

reach : (n levels : ℕ) → 0 < n → 1 ≤ levels → (2 ^ (levels - 1) ≤ n) ↔ (levels ≤ max_mip_levels n)
reach n levels pos some = (
  λ h. let there = (level_laws.counted n (levels - 1) pos).1 (reaches n (levels - 1) h) in omega arith,
  λ h. reached n (levels - 1) ((level_laws.counted n (levels - 1) pos).0 (omega arith)),
)

-- one test is the other
same : (a b c d : ℕ) → (a ≤ b) ↔ (c ≤ d) → leb a b ≡ leb c d
same a b c d h = go (leb a b) (leb c d) refl refl
  where
    go : (s t : Bool) → leb a b ≡ s → leb c d ≡ t → s ≡ t
    go true true p q = refl
    go false false p q = refl
    go true false p q = let m = h.0 (leb-true _ _ p) in absurd (omega (arith, leb-false _ _ q))
    go false true p q = let m = h.1 (leb-true _ _ q) in absurd (omega (arith, leb-false _ _ p))

-- the test that a count of levels is allowed
abbrev Allowed : ℕ → ℕ → Bool
Allowed n levels = leb 1 levels && leb levels (max_mip_levels n)

-- a count that the list has a threshold for
pub read_off :
    (n levels : ℕ) → 0 < n → 1 ≤ levels → levels ≤ length LEVEL_THRESHOLDS
    → leb (slice_index_or LEVEL_THRESHOLDS (levels - 1) 0) n ≡ Allowed n levels
read_off n levels pos some few = rw (threshold (levels - 1) (omega arith), le-leb 1 levels some) (same _ _ _ _ (reach n levels pos some))

-- and one that it has none for
pub not_listed :
    (n levels : ℕ) → n < 2 ^ length LEVEL_THRESHOLDS → (1 ≤ levels → length LEVEL_THRESHOLDS < levels) → false ≡ Allowed n levels
not_listed n zero h more = refl
not_listed n (suc levels) h more =
    let few = level_laws.few n (length LEVEL_THRESHOLDS) h (omega arith) in
    let past = more (omega arith) in
    rw (le-leb 1 (suc levels) (omega arith), lt-leb (suc levels) (max_mip_levels n) (omega arith))
