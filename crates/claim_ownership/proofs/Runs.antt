-- What the ranges of a run of bytes say of a byte.
-- Assumes nothing.
use Rattle.std.specs.Prelude.{Option, Some, None}
use mathlib.Core.Path.{◌≡◌, refl}
use mathlib.Core.Bool.{Bool, true, false, cond}
use mathlib.Core.List.{List, []}
use Prim.Native.Nat.{ℕ, ◌+◌, ◌-◌, ◌/◌, ◌%◌, ◌≤◌, ◌<◌}
use native.Mathlib.Omega.{arith}
use lib.Dec.{eqb}
use borrow.Author.Tests.{ne_eqb}
use Rattle.rule_init_ranges.specs.declared.MemoryInitKind.{MemoryInitKind}
use Rattle.rule_init_ranges.specs.declared.MemoryInitKind.TheVariants.{ImplicitlyInitialized, NeedsInitializedMemory}
use Rattle.rule_init_ranges.specs.declared.TextureInitRange.{TextureInitRange}
use Rattle.rule_init_ranges.specs.declared.BufferInitRange.{BufferInitRange}
use Rattle.claim_ownership.specs.Ranges.{down, up, run, touched, filled, joined, listed}
use Rattle.claim_ownership.specs.Demand3.{Reported, here, later}

past : {kind : MemoryInitKind} {byte : ℕ} (m : Option BufferInitRange) (rs : List BufferInitRange) → Reported kind byte rs → Reported kind byte (joined m rs)
unfolding joined
past None rs h = h
past (Some r) rs h = later h

first :
    {kind : MemoryInitKind} {byte : ℕ} (x y a b : ℕ) (rs : List BufferInitRange) → (x ≡ y → ⊥) → a ≤ byte → byte < b
    → Reported kind byte (joined (cond (eqb x y) None (run a b kind)) rs)
unfolding joined
first x y a b rs n lo hi = rw (ne_eqb x y n) (here refl lo hi)

-- of the two, the range or the rest of the list
which :
    {C : Type 0} {kind : MemoryInitKind} {byte : ℕ} (t : Bool) (a b : ℕ) (k : MemoryInitKind) (rs : List BufferInitRange) → Reported kind byte (joined (cond t None (run a b k)) rs)
    → (k ≡ kind → a ≤ byte → byte < b → C) → (Reported kind byte rs → C) → C
unfolding joined
which true a b k rs h f g = g h
which false a b k rs (here e lo hi) f g = f e lo hi
which false a b k rs (later h) f g = g h

none : {C : Type 0} {kind : MemoryInitKind} {byte : ℕ} → Reported kind byte [] → C
none = elim [ ]

other_kind : {C : Type 0} → NeedsInitializedMemory ≡ ImplicitlyInitialized → C
other_kind e = let z : ◌≡◌ {A = ℕ} 0 1 = cc in absurd (omega arith)

-- where there is no range of a buffer
pub unreported :
    {C : Type 0} {kind : MemoryInitKind} (texture : TextureInitRange) (byte : ℕ)
    → Reported kind byte (listed (Some (texture, (record { head = None; whole = None; tail = None })))) → C
unfolding joined
unreported texture byte h = none h

-- of a run from s to e, beside any range of the texture
module _ (texture : TextureInitRange) (s e byte : ℕ) where
  -- a byte before the run, and one after it, with a byte of the run in its word
  pub head : (near : ℕ) → byte < s → s ≤ near → near / 4 ≡ byte / 4 → Reported NeedsInitializedMemory byte (listed (Some (texture, (filled s e))))
  unfolding filled
  head near lo in-run w = first (s % 4) 0 (up s - 4) (up s) _ (λ q. omega arith) (omega arith) (omega arith)

  pub tail : (near : ℕ) → e ≤ byte → near < e → near / 4 ≡ byte / 4 → Reported NeedsInitializedMemory byte (listed (Some (texture, (filled s e))))
  unfolding filled
  tail near hi in-run w = past _ _ (past _ _ (first (e % 4) 0 (down e) (down e + 4) _ (λ q. omega arith) (omega arith) (omega arith)))

  -- a byte in the word of one of the run
  pub covered : (near : ℕ) → s ≤ near → near < e → near / 4 ≡ byte / 4 → Reported NeedsInitializedMemory byte (listed (Some (texture, (touched s e))))
  unfolding touched joined
  covered near lo hi w =
      let a : down s ≤ byte = omega arith in
      let b : byte < up e = omega arith in
      here refl a b

  -- what is implicitly initialised lies in the run
  pub within : Reported ImplicitlyInitialized byte (listed (Some (texture, (filled s e)))) → (s ≤ byte) × (byte < e)
  unfolding filled
  within h =
      which (eqb (s % 4) 0) (up s - 4) (up s) NeedsInitializedMemory _ h (λ k lo hi. other_kind k) (λ t.
      which (eqb (up s) (down e)) (up s) (down e) ImplicitlyInitialized _ t (λ k lo hi. omega arith) (λ u.
      which (eqb (e % 4) 0) (down e) (down e + 4) NeedsInitializedMemory _ u (λ k lo hi. other_kind k) none))

  pub never : {C : Type 0} → Reported ImplicitlyInitialized byte (listed (Some (texture, (touched s e)))) → C
  unfolding touched joined
  never (here k lo hi) = other_kind k
  never (later h) = none h
