-- The Rust asks for the level of a copy into a buffer again, after the texture's usage. After the check of the range such a check is never met, and
-- its number, 37, is no refusal's (document 02, request 2).
use Rattle.std.specs.Prelude.{Ok}
use mathlib.Core.Path.{◌≡◌}
use mathlib.Core.List.{List, [], ◌∷◌}
use Prim.Native.Nat.{ℕ, zero, suc, ◌≤◌}
use lib.Dec.{leb}
use Rattle.refusals.specs.declared.TransferError.{TransferError}
use Rattle.refusals.specs.Numbers.{numbers_of}
use Rattle.refusals.specs.Order.{Checks, refuse_if, decided}
use Rattle.records.specs.declared.Buffer.{Buffer}
use Rattle.copy_buffer_texture.specs.Copy.{Download, Copy}
use Rattle.copy_buffer_texture.specs.Plan.{download_checks, plan_for, planned}

-- an order of checks with one more after its first n
abbrev pub also_asked : ℕ → List TransferError → Checks → Checks
also_asked zero found checks = found ∷ checks
also_asked (suc n) found [] = found ∷ []
also_asked (suc n) found (check ∷ checks) = check ∷ also_asked n found checks

-- The range is the third check. Wherever a check for the level stands after it, and whatever it would refuse with, the answer is the one without it.
abbrev pub EverySecondLevelCheck : Type 0
EverySecondLevelCheck =
    (c : Copy) (b : Buffer) (e : TransferError) (n : ℕ) → c.direction ≡ Download b → 3 ≤ n
    → decided (also_asked n (refuse_if (leb c.texture.mip_level_count c.view.mip_level) e) (download_checks b c)) (Ok (plan_for c)) ≡ planned c

abbrev pub RetiredNumber : Type 0
RetiredNumber = (e : TransferError) → (numbers_of e).number ≡ 37 → ⊥
