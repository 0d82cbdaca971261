-- The starred points of document 01, with the listings that it gives, but for an end past 32 bits, which is document 02's (its second request);
-- and a point of copies from memory (its first), whose listing was worked out by hand. One list.
use Rattle.std.specs.Prelude.{◌≡◌, Ok, List, [], ◌∷◌, map, ℕ, get_or}
use Prim.Native.String.{String}
use Rattle.measures.specs.declared.Extent3d.{Extent3d}
use Rattle.records.specs.declared.Device.{Device}
use Rattle.records.specs.declared.TextureSide.{TextureSide}
use Rattle.sheet_fields.specs.declared.Line.{Line}
use Rattle.sheet_sections.specs.declared.Parts.{Parts}
use Rattle.sheet_sections.specs.Rows.{textures, copies, section_line, places_of}
use Rattle.sheet_sections.specs.Sheet.{sheet_of}
use Rattle.copy_kinds.specs.Planned.{planned_textures}
use Rattle.sheet_records.specs.Records.{word_of, extent_of}
use Rattle.sheet_copies.specs.CopyLines.{texture_side_at, line_planned}
use Rattle.sheet_listing.specs.Listing.{listing_of}
use Rattle.claim_webgpu_rules.specs.WebGpu.{Reading}
use Rattle.claim_webgpu_copies.specs.WholeCopies.{PlansTextures, StandardTextures}
use Rattle.claim_webgpu_copies.specs.Examples.{extent, texture, side}
use Rattle.claim_points.specs.Bytes.{bytes}

pub record Point : Type 0 where
  pub sheet : String
  pub listing : String

unfoldable pub points : List Point
points =
    -- the sheet of the paper
    record {
      sheet = "1\n1 1\n1\n2 2 8 8 2 1 1 3\n1\n4096 12\n1\n2 0 0 256 8 0 0 0 0 0 0 8 8 2\n";
      listing = "copy 0 ok 2 2 3872\nt 0 0 0 2 0\nb 0 0 3872 1\nr 0 256 8 0 0 0 0 0 1 8 8 1\nr 2048 256 8 0 1 0 0 0 1 8 8 1\n";
    }
    -- r8unorm width 8: x 8, width 0 is accepted; x 9, width 0 is 9 with limit 8; x 4,294,967,295, width 2 is 9 with end 4,294,967,297
    ∷ record {
      sheet = "1\n1 1\n1\n0 2 8 8 1 1 1 3\n1\n64 12\n3\n2 0 0 - - 0 0 8 0 0 0 0 1 1\n2 0 0 - - 0 0 9 0 0 0 0 1 1\n2 0 0 - - 0 0 4294967295 0 0 0 2 1 1\n";
      listing = "copy 0 ok 0 0 0\ncopy 1 refused 9 2 1 9 9 8\ncopy 2 refused 9 2 1 4294967295 4294967297 8\n";
    }
    -- depth32float 8×8, 2 layers, z 1, depth 1, 256 bytes per row, to a buffer: 1,824 bytes; width 7 is 10
    ∷ record {
      sheet = "1\n1 1\n1\n19 2 8 8 2 1 1 3\n1\n4096 12\n2\n3 0 0 256 - 0 0 0 0 1 0 8 8 1\n3 0 0 256 - 0 0 0 0 1 0 7 8 1\n";
      listing = "copy 0 ok 1 2 1824\nt 0 0 1 2 1\nb 0 0 1824 1\nr 0 256 - 0 1 0 0 0 2 8 8 1\ncopy 1 refused 10 1 1 0 7 8\n";
    }
    -- bc1 8×8, level 2 of 4: 4×4 is accepted, kind 1 as destination; 2×2 is 16
    ∷ record {
      sheet = "1\n1 1\n1\n11 2 8 8 1 4 1 3\n1\n64 12\n2\n2 0 0 - - 0 2 0 0 0 0 4 4 1\n2 0 0 - - 0 2 0 0 0 0 2 2 1\n";
      listing = "copy 0 ok 1 2 8\nt 0 2 0 1 1\nb 0 0 8 1\nr 0 - - 2 0 0 0 0 1 4 4 1\ncopy 1 refused 16 0 0 0 0 0\n";
    }
    -- r8unorm into a buffer of 9 bytes at 1: of 1×1 needs 0..4, implicit 4..0, needs 0..4; of width 8 needs 0..4, implicit 4..8, needs 8..12
    ∷ record {
      sheet = "1\n1 1\n1\n0 2 8 1 1 1 1 3\n1\n9 8\n2\n3 0 1 - - 0 0 0 0 0 0 1 1 1\n3 0 1 - - 0 0 0 0 0 0 8 1 1\n";
      listing = "copy 0 ok 1 4 1\nt 0 0 0 1 1\nb 0 0 4 1\nb 0 4 0 0\nb 0 0 4 1\nr 1 - - 0 0 0 0 0 1 1 1 1\ncopy 1 ok 1 4 8\nt 0 0 0 1 1\nb 0 0 4 1\nb 0 4 8 0\nb 0 8 12 1\nr 1 - - 0 0 0 0 0 1 8 1 1\n";
    }
    -- three layers, 4,294,967,040 bytes per row, 4,294,967,295 rows: 25
    ∷ record {
      sheet = "1\n1 1\n1\n0 2 8 8 3 1 1 3\n1\n4096 12\n1\n2 0 0 4294967040 4294967295 0 0 0 0 0 0 8 8 3\n";
      listing = "copy 0 refused 25 0 0 0 0 0\n";
    }
    -- a buffer of 10 bytes from 4, size absent: 15 with 6
    ∷ record {
      sheet = "1\n1 1\n0\n2\n10 4\n16 8\n1\n1 0 4 1 0 -\n";
      listing = "copy 0 refused 15 0 0 6 0 0\n";
    }
    -- one 3D texture, z 0 to z 1, depth 2: accepted by the Rust, refused by the standard
    ∷ record {
      sheet = "1\n1 1\n1\n0 3 4 4 4 1 1 3\n0\n1\n4 0 0 0 0 0 0 0 0 0 0 1 0 4 4 2\n";
      listing = "copy 0 ok 1 2 0\nt 0 0 0 1 1\nt 0 0 0 1 1\nr 0 0 0 0 0 1 0 0 0 0 1 1 4 4 2\n";
    }
    -- three layers into a 3D texture: three regions of depth 1, layers 0, 1, 2 on both sides, z unmoved
    ∷ record {
      sheet = "1\n1 1\n2\n0 2 4 4 3 1 1 1\n0 3 4 4 3 1 1 2\n0\n1\n4 0 0 0 0 0 0 1 0 0 0 0 0 4 4 3\n";
      listing = "copy 0 ok 3 2 0\nt 0 0 0 3 1\nt 1 0 0 1 0\nr 0 0 0 0 0 1 0 0 0 0 0 1 4 4 1\nr 0 1 0 0 0 1 0 1 0 0 0 1 4 4 1\nr 0 2 0 0 0 1 0 2 0 0 0 1 4 4 1\n";
    }
    -- from memory: two layers of r8unorm 1×1 a stride of almost 2^64 apart; depth16unorm without the fact is 34; nothing has to be aligned
    ∷ record {
      sheet = "1\n0 1\n3\n0 2 1 1 2 1 1 2\n16 2 1 1 1 1 1 2\n2 2 8 8 2 1 1 2\n0\n3\n5 18446744073709551615 0 4294967295 4294967295 0 0 0 0 0 0 1 1 2\n5 2 0 - - 1 0 0 0 0 0 1 1 1\n5 513 1 32 8 2 0 0 0 0 0 8 8 2\n";
      listing = "copy 0 ok 2 1 18446744065119617026\nt 0 0 0 2 0\nr 0 4294967295 4294967295 0 0 0 0 0 1 1 1 1\nr 18446744065119617025 4294967295 4294967295 0 1 0 0 0 1 1 1 1\ncopy 1 refused 34 0 0 0 0 0\ncopy 2 ok 2 1 512\nt 2 0 0 2 0\nr 1 32 8 0 0 0 0 0 1 8 8 1\nr 257 32 8 0 1 0 0 0 1 8 8 1\n";
    }
    ∷ []

-- each sheet's listing is the one given
abbrev pub Starred : Type 0
Starred = map (λ (p : Point). listing_of (bytes p.sheet)) points ≡ map (λ (p : Point). bytes p.listing) points

-- ---- "accepted by the Rust, refused by the standard"

abbrev pub point : ℕ → Point
point n = get_or points n (record { sheet = ""; listing = "" })

-- a copy between textures, which are told apart by their indices
pub record Asked : Type 0 where
  pub src_index : ℕ
  pub src : TextureSide
  pub dst_index : ℕ
  pub dst : TextureSide
  pub size : Extent3d

-- the copy of one 3D texture onto itself, z 0 to z 1, depth 2
abbrev pub volume : Asked
volume = record { src_index = 0; src = side (texture 0 3 (extent 4 4 4)) 0; dst_index = 0; dst = side (texture 0 3 (extent 4 4 4)) 1; size = extent 4 4 2 }

-- the first copy line of a sheet, read as a copy between textures
module _ (s : List ℕ) (p : Parts) where
  abbrev pub line : Line
  line = section_line s copies p.copies.first

  abbrev pub places : List ℕ
  places = places_of s textures p.textures.count p.textures.first

  abbrev pub asks : Asked
  asks = record { src_index = word_of line 1; src = texture_side_at s places line 1; dst_index = word_of line 7; dst = texture_side_at s places line 7; size = extent_of line 13 }

-- it is what its sheet asks for and what is answered there, it is accepted, and the standard refuses it, however it is read
pub record RefusedByStandard : Type 0 where
  pub asked : (p : Parts) → sheet_of (bytes (point 7).sheet) ≡ Ok p → asks (bytes (point 7).sheet) p ≡ volume
  pub answered :
      (p : Parts) → sheet_of (bytes (point 7).sheet) ≡ Ok p → (buffers : List ℕ) (device : Device)
      → line_planned (bytes (point 7).sheet) (places (bytes (point 7).sheet) p) buffers device (line (bytes (point 7).sheet) p)
      ≡ planned_textures volume.src_index volume.src volume.dst_index volume.dst volume.size
  pub accepted : PlansTextures volume.src_index volume.dst_index volume.src volume.dst volume.size
  pub refused : (reading : Reading) → StandardTextures volume.src_index volume.dst_index volume.src volume.dst volume.size reading → ⊥
