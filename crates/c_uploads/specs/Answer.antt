-- What a caller in another language is answered for a copy from a buffer into a texture: the answer of `buffer_to_texture`.
use Rattle.std.specs.Prelude.{ℕ, Bool, List, [], ◌∷◌, Result}
use Rattle.refusals.specs.Order.{decided}
use Rattle.copy_buffer_texture.specs.Plan.{buffer_to_texture}
use Rattle.c_records.specs.CRecords.{buffer_from, layout_from, texture_from, view_from, size_from, device_with, aspect_check}
use Rattle.plan_buffer_texture.specs.declared.BufferTexturePlan.{BufferTexturePlan}
use Rattle.refusals.specs.declared.TransferError.{TransferError}

abbrev pub known : Bool → ℕ → ℕ → ℕ → Bool → ℕ → Bool → ℕ → List ℕ → List ℕ → List ℕ → Result BufferTexturePlan TransferError
known depth bufferSize bufferUsage offset hasBytes bytes hasRows rows t v s =
    buffer_to_texture (device_with depth) (buffer_from bufferSize bufferUsage) (layout_from offset hasBytes bytes hasRows rows) (texture_from t) (view_from v) (size_from s)

-- the aspect before all else
unfoldable pub answer : Bool → ℕ → ℕ → ℕ → Bool → ℕ → Bool → ℕ → List ℕ → List ℕ → List ℕ → Result BufferTexturePlan TransferError
answer depth bufferSize bufferUsage offset hasBytes bytes hasRows rows t v s =
    decided (aspect_check t v ∷ []) (known depth bufferSize bufferUsage offset hasBytes bytes hasRows rows t v s)  -- 12
