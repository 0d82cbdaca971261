-- A value, or what stands for an absent one.
-- Assumes nothing.
use Rattle.std.specs.Prelude.{Option, Some, None}
use mathlib.Core.Path.{◌≡◌, refl}
use Prim.Native.Nat.{ℕ, ◌-◌, ◌^◌}
use Rattle.measures.specs.Measure.{or_else}
use Rattle.plan_rows.specs.Rows.{or_absent}

pub or_last : (value : Option ℕ) → or_else value (2 ^ 64 - 1) ≡ or_absent value
unfolding or_else or_absent
or_last (Some n) = refl
or_last None = refl
