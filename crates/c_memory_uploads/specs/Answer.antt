-- What a caller in another language is answered for a copy from memory into a texture: the answer of `memory_to_texture`.
use Rattle.std.specs.Prelude.{ℕ, Bool, List, [], ◌∷◌, Result}
use Rattle.refusals.specs.Order.{decided}
use Rattle.copy_buffer_texture.specs.Plan.{memory_to_texture}
use Rattle.c_records.specs.CRecords.{layout_from, texture_from, view_from, size_from, device_with, aspect_check}
use Rattle.plan_buffer_texture.specs.declared.BufferTexturePlan.{BufferTexturePlan}
use Rattle.refusals.specs.declared.TransferError.{TransferError}

abbrev pub known : Bool → ℕ → ℕ → Bool → ℕ → Bool → ℕ → List ℕ → List ℕ → List ℕ → Result BufferTexturePlan TransferError
known depth length offset hasBytes bytes hasRows rows t v s =
    memory_to_texture (device_with depth) length (layout_from offset hasBytes bytes hasRows rows) (texture_from t) (view_from v) (size_from s)

-- the aspect before all else
unfoldable pub answer : Bool → ℕ → ℕ → Bool → ℕ → Bool → ℕ → List ℕ → List ℕ → List ℕ → Result BufferTexturePlan TransferError
answer depth length offset hasBytes bytes hasRows rows t v s =
    decided (aspect_check t v ∷ []) (known depth length offset hasBytes bytes hasRows rows t v s)  -- 12
