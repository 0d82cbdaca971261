-- The outcome of a good sheet, with the places of its records.
-- Assumes nothing.
use mathlib.Core.Path.{◌≡◌}
use mathlib.Core.Bool.{Bool, true, false}
use mathlib.Core.List.{List}
use Prim.Native.Nat.{ℕ, min}
use Rattle.records.specs.declared.Device.{Device}
use Rattle.sheet_sections.specs.declared.Parts.{Parts}
use Rattle.std.specs.Prelude.{Ok}
use Rattle.sheet_sections.specs.Rows.{textures, buffers, places_of}
use Rattle.sheet_sections.specs.Sheet.{sheet_of}
use Rattle.sheet_copies.specs.Answers.{texture_places, buffer_places, device_at}
use Rattle.sheet_copies.proofs.Placed.{textures_placed, buffers_placed}
use Rattle.sheet_outcome.specs.declared.Outcome.TheVariants.{Accepted, Refused}
use Rattle.sheet_outcome.specs.Outcome.{any_refused, outcome_from}

module _ (s : List ℕ) (p : Parts) (ts bs : List ℕ) (device : Device) (t : Bool) (good : Ok p ≡ sheet_of s)
    (at-textures : ts ≡ places_of s textures (min p.textures.count 64) p.textures.first)
    (at-buffers : bs ≡ places_of s buffers (min p.buffers.count 64) p.buffers.first)
    (its-device : device ≡ device_at s p)
    (test : t ≡ any_refused s ts bs device p.copies.count p.copies.first) where
  refused : any_refused s (texture_places s p) (buffer_places s p) (device_at s p) p.copies.count p.copies.first ≡ t
  refused = rw (test, at-textures, at-buffers, its-device, textures_placed s p good, buffers_placed s p good)

  pub one_refused : t ≡ true → Refused ≡ outcome_from s (Ok p)
  unfolding outcome_from
  one_refused e = rw (refused, e)

  pub none_refused : t ≡ false → Accepted ≡ outcome_from s (Ok p)
  unfolding outcome_from
  none_refused e = rw (refused, e)
