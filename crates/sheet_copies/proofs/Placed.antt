-- The places that are found of a good sheet's records are all of them.
-- Assumes nothing.
use mathlib.Core.Path.{◌≡◌, ap}
use mathlib.Core.List.{List}
use Prim.Native.Nat.{ℕ, min}
use native.Mathlib.Nat.{min-eq_left}
use Rattle.std.specs.Prelude.{Ok}
use Rattle.sheet_sections.specs.declared.Parts.{Parts}
use Rattle.sheet_sections.specs.Rows.{textures, buffers, places_of}
use Rattle.sheet_sections.specs.Sheet.{sheet_of}
use Rattle.sheet_sections.proofs.PlaceLaws.{textures_few, buffers_few}
use Rattle.sheet_copies.specs.Answers.{texture_places, buffer_places}

module _ (s : List ℕ) (p : Parts) (good : Ok p ≡ sheet_of s) where
  pub textures_placed : places_of s textures (min p.textures.count 64) p.textures.first ≡ texture_places s p
  unfolding texture_places
  textures_placed = ap (λ (n : ℕ). places_of s textures n p.textures.first) (min-eq_left (textures_few s p good))

  pub buffers_placed : places_of s buffers (min p.buffers.count 64) p.buffers.first ≡ buffer_places s p
  unfolding buffer_places
  buffers_placed = ap (λ (n : ℕ). places_of s buffers n p.buffers.first) (min-eq_left (buffers_few s p good))
