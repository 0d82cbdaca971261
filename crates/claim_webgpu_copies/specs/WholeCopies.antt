-- Whole copies: the planner answers a plan exactly where the standard's rules hold and nothing is excepted. An exception is in the
-- standard's words or document 01's.
use Rattle.std.specs.Prelude.{◌≡◌, true, false, ◌⊎◌, ◌↔◌, ℕ, ◌^◌, ◌<◌, eqb, Option, Result, Ok}
use Rattle.measures.specs.declared.Extent3d.{Extent3d}
use Rattle.formats.specs.declared.TextureAspect.TheVariants.{All}
use Rattle.refusals.specs.declared.TransferError.{TransferError}
use Rattle.records.specs.declared.Buffer.{Buffer}
use Rattle.records.specs.declared.Device.{Device}
use Rattle.plan_buffer_texture.specs.declared.BufferTexturePlan.{BufferTexturePlan}
use Rattle.copy_buffer_texture.specs.declared.UploadSource.TheVariants as S
use Rattle.copy_buffer_texture.specs.Copy.{Direction, Upload, Download, Copy}
use Rattle.records.specs.declared.TextureSide.{TextureSide}
use Rattle.claim_webgpu_rules.specs.Formats.{Known, is_depth_or_stencil}
use Rattle.claim_webgpu_rules.specs.WebGpu as W
use Rattle.claim_webgpu_rules.specs.Agreement.{SomeLayers, Fits32, MovesWithin}
use Rattle.claim_webgpu_copies.specs.Bounds.{BufferInBounds, TextureInBounds}
-- what is judged
use Rattle.copy_buffers.specs.Plan.{buffer_to_buffer}
use Rattle.copy_buffer_texture.specs.Plan.{buffer_to_texture, memory_to_texture, texture_to_buffer}
use Rattle.copy_textures.specs.Plan.{texture_to_texture}

-- the answer is a plan, of any kind of copy
abbrev pub GivesPlan : {P : Type 0} → Result P TransferError → Type 0
GivesPlan {P} r = (p : P) × (r ≡ Ok p)

-- ---- buffer to buffer

-- exception, 34: without the fact an INDEX buffer, where either buffer has VERTEX, UNIFORM, INDIRECT or STORAGE
abbrev pub Shared : Buffer → Type 0
Shared b = W.Has b.usage.0 32 ⊎ (W.Has b.usage.0 64 ⊎ (W.Has b.usage.0 256 ⊎ W.Has b.usage.0 128))

pub record IndexRestricted (device : Device) (src dst : Buffer) : Type 0 where
  pub fact : device.unrestricted_index_buffer ≡ false
  pub index : W.Has src.usage.0 16 ⊎ W.Has dst.usage.0 16
  pub shared : Shared src ⊎ Shared dst

-- what the planner refuses beyond the standard: records out of document 01's bounds, and 34
abbrev pub BuffersExcepted : Device → Buffer → Buffer → Type 0
BuffersExcepted device src dst = (BufferInBounds src → ⊥) ⊎ ((BufferInBounds dst → ⊥) ⊎ IndexRestricted device src dst)

abbrev pub BufferToBuffer : Type 0
BufferToBuffer =
    (device : Device) (i j : ℕ) (src dst : Buffer) (srcOffset dstOffset : ℕ) (size : Option ℕ)
    → GivesPlan (buffer_to_buffer device i src srcOffset j dst dstOffset size)
    ↔ (W.CopyBufferToBuffer (eqb i j) src dst srcOffset dstOffset (W.copy_size_of src srcOffset size) × (BuffersExcepted device src dst → ⊥))

-- ---- between a buffer, or memory, and a texture

abbrev pub planned_by : Direction → Copy → Result BufferTexturePlan TransferError
planned_by (Upload (S.Buffer b)) c = buffer_to_texture c.device b c.layout c.texture c.view c.size
planned_by (Upload (S.Memory length)) c = memory_to_texture c.device length c.layout c.texture c.view c.size
planned_by (Download b) c = texture_to_buffer c.device c.texture c.view b c.layout c.size

abbrev pub planned : Copy → Result BufferTexturePlan TransferError
planned c = planned_by c.direction c

-- the standard's rules by the way: copyBufferToTexture(), writeTexture(), copyTextureToBuffer()
abbrev pub StandardBy : W.Reading → Direction → Copy → Type 0
StandardBy reading (Upload (S.Buffer b)) c = W.CopyBufferTexture reading false b c.layout c.texture c.view c.size
StandardBy reading (Upload (S.Memory length)) c = W.WriteTexture reading length c.layout c.texture c.view c.size
StandardBy reading (Download b) c = W.CopyBufferTexture reading true b c.layout c.texture c.view c.size

abbrev pub StandardCopy : W.Reading → Copy → Type 0
StandardCopy reading c = StandardBy reading c.direction c

-- a block of memory has a length of 64 bits
abbrev pub LengthFits : Direction → Type 0
LengthFits (Upload (S.Buffer b)) = Unit {0}
LengthFits (Upload (S.Memory length)) = length < 2 ^ 64
LengthFits (Download b) = Unit {0}

-- what is compared: formats of the standard, and figures as their fields of 32 or 64 bits hold them
pub record Compared (c : Copy) : Type 0 where
  pub known : Known c.texture.format
  pub bytes_field : Fits32 c.layout.bytes_per_row
  pub rows_field : Fits32 c.layout.rows_per_image
  pub length_field : LengthFits c.direction

-- exception, 34: a depth-or-stencil format without the fact
abbrev pub DepthRestricted : Copy → Type 0
DepthRestricted c = (is_depth_or_stencil c.texture.format ≡ true) × (c.device.depth_texture_and_buffer_copies ≡ false)

-- exception, 12: a color format with an aspect that it lacks
abbrev pub AspectLacking : Copy → Type 0
AspectLacking c = (is_depth_or_stencil c.texture.format ≡ false) × (c.view.aspect ≡ All → ⊥)

-- exception, 3: a buffer out of document 01's bounds; memory has none
abbrev pub BufferExcepted : Direction → Type 0
BufferExcepted (Upload (S.Buffer b)) = BufferInBounds b → ⊥
BufferExcepted (Upload (S.Memory length)) = ⊥
BufferExcepted (Download b) = BufferInBounds b → ⊥

-- what the planner refuses beyond the standard
abbrev pub CopyExcepted : Copy → Type 0
CopyExcepted c = BufferExcepted c.direction ⊎ ((TextureInBounds c.texture → ⊥) ⊎ (DepthRestricted c ⊎ AspectLacking c))

-- the whole size of a texture that is copied whole is that of one layer
abbrev pub BufferTexture : Type 0
BufferTexture = (c : Copy) → Compared c → GivesPlan (planned c) ↔ (StandardCopy W.OneLayer c × (CopyExcepted c → ⊥))

-- it is that of all layers: then the standard refuses some of them, and that alone more
abbrev pub BufferTextureWithLayers : Type 0
BufferTextureWithLayers =
    (c : Copy) → Compared c
    → (GivesPlan (planned c) × (SomeLayers c.texture c.view c.size → ⊥)) ↔ (StandardCopy W.WithLayers c × (CopyExcepted c → ⊥))

-- ---- texture to texture

module _ (i j : ℕ) (src dst : TextureSide) (size : Extent3d) where
  abbrev pub PlansTextures : Type 0
  PlansTextures = GivesPlan (texture_to_texture i src j dst size)

  abbrev pub Rules : W.Reading → Type 0
  Rules reading = W.TextureCopyRules reading src.texture dst.texture src.view dst.view size

  abbrev pub StandardTextures : W.Reading → Type 0
  StandardTextures reading = W.CopyTextureToTexture reading (eqb i j) src.texture dst.texture src.view dst.view size

  -- what the planner refuses beyond the standard: records out of document 01's bounds
  abbrev pub OutOfBounds : Type 0
  OutOfBounds = (TextureInBounds src.texture → ⊥) ⊎ (TextureInBounds dst.texture → ⊥)

  -- the planner's last rule: one texture's parts are disjoint, or one level of a 1D or 3D texture goes to another z
  abbrev pub ApartOrMoved : Type 0
  ApartOrMoved = eqb i j ≡ true → W.Disjoint src.texture src.view dst.view size ⊎ MovesWithin src.texture src.view dst.view

  -- what the standard, read with layers, refuses beyond the planner
  abbrev pub LayersLeft : Type 0
  LayersLeft = SomeLayers src.texture src.view size ⊎ SomeLayers dst.texture dst.view size

-- formats of the standard; an aspect that a format lacks is refused by both
abbrev pub TextureToTexture : Type 0
TextureToTexture =
    (i j : ℕ) (src dst : TextureSide) (size : Extent3d) → Known src.texture.format → Known dst.texture.format
    → PlansTextures i j src dst size ↔ (Rules i j src dst size W.OneLayer × ApartOrMoved i j src dst size × (OutOfBounds i j src dst size → ⊥))

abbrev pub TextureToTextureWithLayers : Type 0
TextureToTextureWithLayers =
    (i j : ℕ) (src dst : TextureSide) (size : Extent3d) → Known src.texture.format → Known dst.texture.format
    → (PlansTextures i j src dst size × (LayersLeft i j src dst size → ⊥))
    ↔ (Rules i j src dst size W.WithLayers × ApartOrMoved i j src dst size × (OutOfBounds i j src dst size → ⊥))

-- onto itself at another z the standard refuses, however it is read
abbrev pub OntoItselfParts : Type 0
OntoItselfParts =
    (i j : ℕ) (src dst : TextureSide) (size : Extent3d) (reading : W.Reading) → eqb i j ≡ true → MovesWithin src.texture src.view dst.view
    → StandardTextures i j src dst size reading → ⊥
