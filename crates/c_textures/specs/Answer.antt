-- What a caller in another language is answered for a copy between textures: the answer of `texture_to_texture`.
use Rattle.std.specs.Prelude.{ℕ, Bool, List, [], ◌∷◌, Result}
use Rattle.conditions.specs.Conditions.{pick}
use Rattle.refusals.specs.Order.{decided}
use Rattle.copy_textures.specs.Plan.{texture_to_texture}
use Rattle.c_records.specs.CRecords.{side_from, size_from, aspect_check}
use Rattle.plan_textures.specs.declared.TexturePlan.{TexturePlan}
use Rattle.refusals.specs.declared.TransferError.{TransferError}

abbrev pub known : Bool → List ℕ → List ℕ → List ℕ → List ℕ → List ℕ → Result TexturePlan TransferError
known same src srcView dst dstView size =
    texture_to_texture 0 (side_from src srcView) (pick same 0 1) (side_from dst dstView) (size_from size)

-- the aspects before all else
unfoldable pub answer : Bool → List ℕ → List ℕ → List ℕ → List ℕ → List ℕ → Result TexturePlan TransferError
answer same src srcView dst dstView size =
    decided (aspect_check src srcView ∷ aspect_check dst dstView ∷ []) (known same src srcView dst dstView size)  -- 12, 12
