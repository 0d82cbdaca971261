-- Demand 3, of every accepted copy.
-- Assumes nothing.
use Rattle.std.specs.Prelude.{Option, Some}
use mathlib.Core.Path.{◌≡◌, refl, ap, ◌∙◌}
use mathlib.Core.Bool.{Bool, true, false, cond}
use mathlib.Core.List.{List}
use mathlib.Core.Logic.{◌⊎◌, inl, inr}
use Prim.Native.Nat.{ℕ, ◌+◌, ◌/◌, ◌≤◌, ◌<◌}
use native.Mathlib.Omega.{arith}
use lib.Dec.{ltb}
use borrow.Author.Tests.{ltb-true, ltb-false}
use Rattle.rule_init_ranges.specs.declared.MemoryInitKind.TheVariants.{ImplicitlyInitialized, NeedsInitializedMemory}
use Rattle.rule_init_ranges.specs.declared.BufferInitRanges.{BufferInitRanges}
use Rattle.plan_buffer_texture.specs.declared.BufferTextureCopy.{BufferTextureCopy}
use Rattle.claim_ownership.specs.Asking.{Gives}
use Rattle.records.specs.declared.Buffer.{Buffer}
use Rattle.copy_buffer_texture.specs.declared.UploadSource.TheVariants as S
use Rattle.copy_buffer_texture.specs.Copy.{Direction, Upload, Download, Copy}
use Rattle.claim_ownership.specs.Copy.{depth, bytes, wide, high, row, rows, total, is_2d, count, regions_of}
use Rattle.claim_ownership.specs.Ranges.{contiguous, touched, filled, texture_range, ranges_by, buffer_ranges, listed}
use Rattle.claim_ownership.specs.Demand3.{Owned, Between, Beside, Reported, Demand3, EveryCopy}
use Rattle.claim_ownership.proofs.Blocks as blocks
use Rattle.claim_ownership.proofs.Accepted.{checks_of_lem}
use Rattle.claim_ownership.proofs.Sound.{Sound, sound_of}
use Rattle.claim_ownership.proofs.Planned.{plan_of_copy, plan_is}
use Rattle.claim_ownership.proofs.Owners as owners
use Rattle.claim_ownership.proofs.Asks as asks
use Rattle.claim_ownership.proofs.Named.{named_by, boxed}
use Rattle.claim_ownership.proofs.Runs as runs
use Rattle.rule_init_ranges.specs.declared.TextureInitRange.{TextureInitRange}

-- a second region is that of a layer, and each is that of an image
layered : (t : Bool) (d m : ℕ) → 0 < m → m < cond t d 1 → (t ≡ true) × (m < d)
layered true d m p h = (refl, h)
layered false d m p h = absurd (omega arith)

within : (t : Bool) (d m : ℕ) → 0 < d → m < cond t d 1 → m < d
within true d m p h = h
within false d m p h = omega arith

module _ (c : Copy) (s : Sound c) (pw : 0 < c.size.width.0) (ph : 0 < c.size.height.0) (pd : 0 < depth c) where
  -- ---- the regions

  -- no region's offset or layer wraps
  steady : (m : ℕ) → 0 < m → m < count c → asks.Steady c m
  steady m pos h =
      let l = layered (is_2d c) (depth c) m pos h in
      let i = blocks.image_inside c.layout.offset (bytes c) (wide c) (high c) (depth c) (rows c) (row c) m l.1 in
      let d = s.deep in
      let below = l.1 in
      record { layered = l.0; offset = omega (arith, owners.the_total c s pw ph pd, s.end, s.small); layer = omega arith }

  all_left : asks.next_regions (count c) (plan_of_copy c) ≡ regions_of c
  all_left = asks.the_copys c (count c) 0 (plan_of_copy c) refl (λ h. refl) (λ m pos l. steady m pos (omega arith))

  only : (rs : List BufferTextureCopy) → Gives (plan_of_copy c) rs → rs ≡ regions_of c
  only rs g = asks.gives_only (count c) g refl ∙ all_left

  -- ---- the bytes

  abbrev s₀ : ℕ
  s₀ = c.layout.offset

  abbrev e₀ : ℕ
  e₀ = c.layout.offset + total c

  abbrev ranges_of : BufferInitRanges → Option (TextureInitRange × BufferInitRanges)
  ranges_of r = Some ((texture_range c), r)

  -- a run that is written, padded or not
  abbrev run : Bool → BufferInitRanges
  run t = cond t (filled s₀ e₀) (touched s₀ e₀)

  filled_owned : (t : Bool) → contiguous c ≡ t → (byte : ℕ) → Reported ImplicitlyInitialized byte (listed (ranges_of (run t))) → Owned c byte
  filled_owned true e byte h = let r = runs.within (texture_range c) s₀ e₀ byte h in owners.full c s pw ph pd e byte r.0 r.1
  filled_owned false e byte h = runs.never (texture_range c) s₀ e₀ byte h

  implicit : (d : Direction) (byte : ℕ) → Reported ImplicitlyInitialized byte (listed (ranges_of (ranges_by d c))) → Owned c byte
  implicit (Upload (S.Buffer b)) byte h = runs.never (texture_range c) s₀ e₀ byte h
  implicit (Upload (S.Memory length)) byte h = runs.unreported (texture_range c) byte h
  implicit (Download b) byte h = filled_owned (contiguous c) refl byte h

  read : (b : Buffer) → c.direction ≡ Upload (S.Buffer b) → (byte : ℕ) → Owned c byte → Reported NeedsInitializedMemory byte (listed (ranges_of (buffer_ranges c)))
  read b e byte o =
      let i = owners.inside c s pw ph pd byte o.0 o.1 in
      let is : buffer_ranges c ≡ touched s₀ e₀ = ap (λ (d : Direction). ranges_by d c) e in
      rw is (runs.covered (texture_range c) s₀ e₀ byte byte i.0 i.1 refl)

  -- within the span: owned, or reported with the whole span
  between : (byte : ℕ) → (Owned c byte → ⊥) → s₀ ≤ byte → byte < e₀ → (t : Bool) → contiguous c ≡ t → Reported NeedsInitializedMemory byte (listed (ranges_of (run t)))
  between byte un lo hi true e = absurd (un (owners.full c s pw ph pd e byte lo hi))
  between byte un lo hi false e = runs.covered (texture_range c) s₀ e₀ byte byte lo hi refl

  -- before the run, after it, or in it and so owned
  beside :
      (byte near : ℕ) → (Owned c byte → ⊥) → near / 4 ≡ byte / 4 → s₀ ≤ near → near < e₀ → (t u v : Bool) → contiguous c ≡ t → ltb byte s₀ ≡ u → ltb byte e₀ ≡ v
      → Reported NeedsInitializedMemory byte (listed (ranges_of (run t)))
  beside byte near un w lo hi false u v e f g = runs.covered (texture_range c) s₀ e₀ byte near lo hi w
  beside byte near un w lo hi true true v e f g = runs.head (texture_range c) s₀ e₀ byte near (ltb-true _ _ f) lo w
  beside byte near un w lo hi true false false e f g = runs.tail (texture_range c) s₀ e₀ byte near (ltb-false _ _ g) hi w
  beside byte near un w lo hi true false true e f g = absurd (un (owners.full c s pw ph pd e byte (ltb-false _ _ f) (ltb-true _ _ g)))

  needs : (byte : ℕ) → (Owned c byte → ⊥) → Between c byte ⊎ Beside c byte → Reported NeedsInitializedMemory byte (listed (ranges_of (run (contiguous c))))
  needs byte un (inl (below, above, o, l, p, h)) =
      let i = owners.inside c s pw ph pd below o.0 o.1 in
      let j = owners.inside c s pw ph pd above p.0 p.1 in
      between byte un (omega arith) (omega arith) (contiguous c) refl
  needs byte un (inr (near, o, w)) =
      let i = owners.inside c s pw ph pd near o.0 o.1 in
      beside byte near un w i.0 i.1 (contiguous c) _ _ refl refl refl

  written : (b : Buffer) → c.direction ≡ Download b → (byte : ℕ) → (Owned c byte → ⊥) → Between c byte ⊎ Beside c byte → Reported NeedsInitializedMemory byte (listed (ranges_of (buffer_ranges c)))
  written b e byte un h = let is : buffer_ranges c ≡ run (contiguous c) = ap (λ (d : Direction). ranges_by d c) e in rw is (needs byte un h)

  demand : Demand3 c (plan_of_copy c)
  demand =
      record {
        one_owner = owners.owner c s pw ph pd;
        inside = λ byte o. owners.inside c s pw ph pd byte o.0 o.1;
        offsets = λ n h. owners.image_below c s pw ph pd n (within (is_2d c) (depth c) n pd h);
        asked = λ rs. (only rs, λ e. rw (e, ← all_left) (asks.gives (count c) (plan_of_copy c) refl));
        reported = refl;
        required = refl;
        named = λ rs g b h. rw (only rs g) (_, named_by c s b h);
        outside = λ rs g. rw (only rs g) (boxed c);
        implicit = implicit c.direction;
        read = read;
        written = written;
      }

pub every_copy : EveryCopy
every_copy c p fits e pw ph pd =
    let k = checks_of_lem c p e in
    rw (plan_is c p k pw ph pd) (demand c (sound_of c p k fits) pw ph pd)
