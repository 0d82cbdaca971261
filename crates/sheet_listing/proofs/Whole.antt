-- The whole state of a listing: what it has left at the start, and after a part.
-- Assumes nothing.
use mathlib.Core.Path.{◌≡◌, sym, ap, ◌∙◌}
use mathlib.Core.List.{List, [], ◌++◌}
use Prim.Native.Nat.{ℕ, ◌≤◌, min}
use lib.ListN.{length}
use Rattle.records.specs.declared.Device.{Device}
use Rattle.sheet_sections.specs.declared.Parts.{Parts}
use Rattle.std.specs.Prelude.{Ok, None}
use Rattle.sheet_sections.specs.Rows.{textures, buffers, places_of}
use Rattle.sheet_sections.specs.Sheet.{sheet_of}
use Rattle.sheet_copies.specs.declared.places.Places.{Places}
use Rattle.sheet_copies.specs.Answers.{starts_of, device_at}
use Rattle.sheet_copies.proofs.Placed.{textures_placed, buffers_placed}
use Rattle.sheet_listing.specs.declared.CopiesLeft.{CopiesLeft}
use Rattle.sheet_listing.specs.declared.GoodSheet.{GoodSheet}
use Rattle.sheet_listing.specs.declared.Listing.{Listing}
use Rattle.sheet_listing.specs.declared.Listing.TheVariants.{Good}
use Rattle.sheet_listing.specs.Listing.{regions_left, listing_from, listing_of, text_left, rest_of, Fills, Ends, Gives, ended, filled, Listed}

-- ---- the start

pub started_good :
    (s : List ℕ) (p : Parts) (ts bs : Places) (device : Device) → Ok p ≡ sheet_of s
    → starts_of ts ≡ places_of s textures (min p.textures.count 64) p.textures.first
    → starts_of bs ≡ places_of s buffers (min p.buffers.count 64) p.buffers.first
    → device ≡ device_at s p
    → rest_of s
    (Good
    (record { textures = ts; buffers = bs; device = device })
    (record { total = p.copies.count; left = p.copies.count; at = p.copies.first; plan = None }))
    ≡ listing_of s
unfolding rest_of text_left listing_of listing_from regions_left
started_good s p ts bs device good at-textures at-buffers its-device =
    rw (at-textures, at-buffers, textures_placed s p good, buffers_placed s p good, its-device, ← good)

-- ---- a part

module _ (s : List ℕ) (g : GoodSheet) (c : CopiesLeft) (ts bs : List ℕ) (of-textures : ts ≡ starts_of g.textures) (of-buffers : bs ≡ starts_of g.buffers) where
  pub part_filled :
      (q : CopiesLeft) (l k : List ℕ) (count : ℕ)
      → Fills l k count (text_left s ts bs g.device c) (text_left s ts bs g.device q) × ((count ≤ length k) × Ends (length l) count (text_left s ts bs g.device c))
      → Fills l k count (rest_of s (Good g c)) (rest_of s (Good g q)) × ((count ≤ length k) × Ends (length l) count (rest_of s (Good g c)))
  unfolding rest_of
  part_filled q l k count h = rw (← of-textures, ← of-buffers) h

-- ---- the texts put, in their order, are the listing

gives_rest : (s : List ℕ) (st : Listing) (t : List ℕ) → Gives s st t → t ≡ rest_of s st
gives_rest s st [] (ended e) = sym e
gives_rest s st t (filled {next = q} {rest = r} f g) = ap (λ (x : List ℕ). f.text ++ x) (gives_rest s q r g) ∙ sym f.left

pub listed : Listed
listed s t st whole g = gives_rest s st t g ∙ whole
