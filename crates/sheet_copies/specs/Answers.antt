-- The answers to the copy lines of a good sheet, with the places of its records and its device.
use Rattle.std.specs.Prelude.{List, ℕ, Result, take}
use Rattle.records.specs.declared.Device.{Device}
use Rattle.sheet_sections.specs.declared.Parts.{Parts}
use Rattle.sheet_sections.specs.Rows.{devices, textures, buffers, copies, section_line, places_of}
use Rattle.sheet_records.specs.Records.{device_of}
use Rattle.sheet_copies.specs.declared.places.Places.{Places}
use Rattle.sheet_copies.specs.CopyLines.{line_planned}
use Rattle.copy_kinds.specs.declared.Ranges.{Ranges}
use Rattle.plan_kinds.specs.declared.Plan.{Plan}
use Rattle.refusals.specs.declared.TransferError.{TransferError}

-- where a good sheet's texture and buffer lines begin, and its device
unfoldable pub texture_places : List ℕ → Parts → List ℕ
texture_places s p = places_of s textures p.textures.count p.textures.first

unfoldable pub buffer_places : List ℕ → Parts → List ℕ
buffer_places s p = places_of s buffers p.buffers.count p.buffers.first

-- the places that were found
unfoldable pub starts_of : Places → List ℕ
starts_of p = take p.count p.starts

unfoldable pub device_at : List ℕ → Parts → Device
device_at s p = device_of (section_line s devices p.devices.first)

-- the answer to the copy line at a place
unfoldable pub answer_at : List ℕ → List ℕ → List ℕ → Device → ℕ → Result (Plan × Ranges) TransferError
answer_at s ts bs device at = line_planned s ts bs device (section_line s copies at)
