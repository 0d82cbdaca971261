-- Texel blocks of a texture.
use Rattle.std.specs.Prelude.{◌≡◌, List, ◌∷◌, ℕ, ◌%◌}
use Rattle.claim_webgpu_rules.specs.Formats.{Aspect, Format}

-- a block of one aspect, by the texel at which it starts
pub record TexelBlock : Type 0 where
  pub level : ℕ
  pub aspect : Aspect
  pub layer : ℕ
  pub slice : ℕ
  pub x : ℕ
  pub y : ℕ

-- blocks lie side by side from the texture's corner on
abbrev pub OnGrid : Format → TexelBlock → Type 0
OnGrid f b = (b.x % f.block_width_of ≡ 0) × (b.y % f.block_height_of ≡ 0)

-- an element of a list
pub data In {A : Type 0} (a : A) : List A → Type 0 where
  first : {x : A} {xs : List A} → x ≡ a → In a (x ∷ xs)
  later : {x : A} {xs : List A} → In a xs → In a (x ∷ xs)
