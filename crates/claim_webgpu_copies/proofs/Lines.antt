-- Tests, and what they test for.
-- Assumes nothing.
use Rattle.std.proofs.lemmas.Bool.{true_from_ne_false}
use mathlib.Core.Path.{◌≡◌, sym, ◌∙◌}
use mathlib.Core.Bool.{Bool, true, false, true≢false}
use Prim.Native.Nat.{ℕ, ◌^◌}
use borrow.Author.Tests.{eqb-true, eq-eqb}
use Rattle.flags.specs.Flags.{contains}
use Rattle.flags.proofs.SingleFlags.{contains_single}
use Rattle.claim_webgpu_rules.specs.WebGpu.{Has}

-- a usage flag by its digit
module _ (word k : ℕ) where
  pub has_of : contains word (2 ^ k) ≡ true → Has word (2 ^ k)
  has_of e = eqb-true _ 1 (sym (contains_single word k) ∙ e)

  pub has_by : Has word (2 ^ k) → contains word (2 ^ k) ≡ true
  has_by h = contains_single word k ∙ eq-eqb _ 1 h

pub opposite : {C : Type 0} (t : Bool) → t ≡ true → t ≡ false → C
opposite t e f = absurd (true≢false (sym e ∙ f))

-- a test that is not false where what it tests for is not excluded
pub tested : {A : Type 0} (t : Bool) → (A → t ≡ true) → ((A → ⊥) → ⊥) → t ≡ true
tested t by kept = true_from_ne_false t (λ e. kept (λ a. opposite t (by a) e))
