-- What lasts from turn to turn in `any_refused`.
use mathlib.Core.Path.{◌≡◌}
use Prim.Native.Nat.{◌-◌}
use Rattle.sheet_outcome.specs.Outcome.{any_refused}
use Rattle.sheet_outcome.proofs.any_refused.Given as goal

abbrev pub invariant-loop : goal.invariant-loop
invariant-loop l = any_refused l.sheet.text.now l.sheet.textures.now l.sheet.buffers.now l.sheet.device (l.count - l.counter) l.at ≡ any_refused l.sheet.text.now l.sheet.textures.now l.sheet.buffers.now l.sheet.device l.count l.first
