-- The places of a good sheet's records, as they are found in an array.
-- Assumes nothing.
use mathlib.Core.Path.{◌≡◌, sym}
use mathlib.Core.List.{List}
use Prim.Native.Nat.{ℕ, ◌+◌, ◌≤◌}
use native.Mathlib.Omega.{arith}
use lib.ListN.{length, take, drop, replicate}
use lib.Seq.{sets, sets-eq, take_at}
use Rattle.sheet_sections.specs.declared.Parts.{Parts}
use Rattle.std.specs.Prelude.{Ok}
use Rattle.sheet_sections.specs.declared.Section.{Section}
use Rattle.sheet_sections.specs.Rows.{places_of}
use Rattle.sheet_sections.specs.Sheet.{most_of, sheet_of}
use Rattle.sheet_sections.proofs.RowLaws.{places_length}
use Rattle.sheet_sections.proofs.SheetProofs.{sheet_laws}

-- as many as there are
pub found : (s : List ℕ) (section : Section) (n first : ℕ) (l : List ℕ) → l ≡ sets (replicate 64 0) 0 (places_of s section n first) → n ≤ 64 → take n l ≡ places_of s section n first
found s section n first l is few =
    let places = places_of s section n first in
    let count : length places ≡ n = places_length s section n first in
    let room : 0 + length places ≤ 64 = omega (arith, count) in
    rw (is, sets-eq places (replicate 64 0) 0 room) (take_at places (drop (0 + length places) (replicate 64 0)) n count)

module _ (s : List ℕ) (p : Parts) (good : Ok p ≡ sheet_of s) where
  pub textures_few : p.textures.count ≤ 64
  unfolding most_of
  textures_few = (sheet_laws.parts s p (sym good)).textures.most

  pub buffers_few : p.buffers.count ≤ 64
  unfolding most_of
  buffers_few = (sheet_laws.parts s p (sym good)).buffers.most
