-- The lines that are printed have room.
-- Assumes nothing.
use mathlib.Core.Path.{◌≡◌, sym}
use Prim.Native.Nat.{ℕ, ◌+◌, ◌≤◌}
use mathlib.Core.Bool.{false}
use mathlib.Core.List.{List, [], ◌∷◌, ◌++◌}
use native.Mathlib.Omega.{arith}
use lib.ListN.{length, take, length-append}
use lib.Seq.{length-take-le}
use Rattle.slices.specs.Put.{Put}
use Rattle.sheet_text.specs.Text.{decimal}
use Rattle.slices.proofs.Puts.{put_length}
use Rattle.sheet_text.proofs.Puts.{decimal_few, line_few}
use Rattle.sheet_replay.specs.declared.Message.{Message}
use Rattle.sheet_replay.specs.declared.Message.TheVariants.{ItemDiffers, ItemsRead, ItemIll}
use Rattle.sheet_replay.specs.Replay.{text_bytes, differs_text, counts_text, ill_text, message_text}

pub counted_few : (n : ℕ) (w : List ℕ) → length (decimal n ++ w) ≤ 20 + length w
counted_few n w = omega (arith, length-append (decimal n) w, decimal_few n)

differs_few : (k : ℕ) → length (differs_text k) ≤ text_bytes
unfolding differs_text
differs_few k = omega (arith, counted_few k (32 ∷ 100 ∷ 105 ∷ 102 ∷ 102 ∷ 101 ∷ 114 ∷ 115 ∷ 10 ∷ []))

counts_few : (items differ : ℕ) → length (counts_text items differ) ≤ text_bytes
unfolding counts_text
counts_few items differ =
    let sheets : List ℕ = 32 ∷ 115 ∷ 104 ∷ 101 ∷ 101 ∷ 116 ∷ 115 ∷ 44 ∷ 32 ∷ [] in
    let words : List ℕ = 32 ∷ 100 ∷ 105 ∷ 102 ∷ 102 ∷ 101 ∷ 114 ∷ 10 ∷ [] in
    omega (arith, length-append (decimal items ++ sheets) (decimal differ ++ words), counted_few items sheets, counted_few differ words)

ill_few : (k : ℕ) → length (ill_text k) ≤ text_bytes
unfolding ill_text
ill_few k = omega (arith, line_few (105 ∷ 108 ∷ 108 ∷ 32 ∷ 108 ∷ 105 ∷ 115 ∷ 116 ∷ 32 ∷ 97 ∷ 116 ∷ 32 ∷ 105 ∷ 116 ∷ 101 ∷ 109 ∷ []) false (k ∷ []))

pub message_few : (message : Message) → length (message_text message) ≤ text_bytes
unfolding message_text
message_few (ItemDiffers k) = differs_few k
message_few (ItemsRead counts) = counts_few counts.items counts.differ
message_few (ItemIll k) = ill_few k

-- room for the next
module _ {l m : List ℕ} {r : ℕ} (n : ℕ) (w : List ℕ) where
  pub counted_room : (at : ℕ) → Put l m at (decimal n) r → at + (20 + length w) ≤ length l → r + length w ≤ length m
  counted_room at p h = omega (arith, p.next, put_length p, decimal_few n)

  pub counts_room : Put l m 0 (decimal n ++ w) r → text_bytes ≤ length l → length w ≤ 9 → r + 28 ≤ length m
  counts_room p h k = omega (arith, p.next, put_length p, counted_few n w)

-- the bytes of a line from a slice's start
module _ {l m t : List ℕ} {r : ℕ} (p : Put l m 0 t r) (few : length t ≤ text_bytes) (room : length l ≡ text_bytes) where
  pub print_inside : r ≤ length m
  print_inside = omega (arith, p.next, put_length p)

  pub print_front : r ≡ length (take r m)
  print_front = sym (length-take-le r m print_inside)
