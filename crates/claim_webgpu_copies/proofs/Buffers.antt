-- Copies between buffers against the standard's.
-- Assumes nothing.
use Rattle.std.specs.Prelude.{Option, Some, None}
use Rattle.std.proofs.lemmas.Bool.{or_left, or_right, false_from_ne_true}
use mathlib.Core.Path.{◌≡◌, refl}
use mathlib.Core.Bool.{Bool, true, false, not, ◌&&◌, ◌||◌}
use mathlib.Core.Logic.{◌⊎◌, inl, inr, ⊎_elim}
use Prim.Native.Nat.{ℕ, ◌-◌}
use lib.Dec.{eqb}
use borrow.Author.Tests.{not-true}
use Rattle.conditions.proofs.Rules.{both_true, either}
use Rattle.flags.specs.Flags.{contains}
use Rattle.records.specs.declared.Buffer.{Buffer}
use Rattle.records.specs.declared.Device.{Device}
use Rattle.records.specs.Bounds.{buffer_in_bounds}
use Rattle.copy_buffers.specs.Copy.{Copy}
use Rattle.copy_buffers.specs.Plan.{bytes, is_shared, lacks_index_fact, size_or, buffer_to_buffer}
use Rattle.copy_buffers.specs.Laws.{Accepted}
use Rattle.copy_buffers.proofs.Accepted.{every_copy_law}
use Rattle.claim_webgpu_rules.specs.WebGpu.{Has, copy_size_of, CopyBufferToBuffer}
use Rattle.claim_webgpu_copies.specs.Bounds.{BufferInBounds}
use Rattle.claim_webgpu_copies.specs.WholeCopies.{Shared, IndexRestricted, BuffersExcepted, BufferToBuffer}
use Rattle.claim_webgpu_copies.proofs.Lines.{has_of, has_by, opposite, tested}
use Rattle.claim_webgpu_copies.proofs.Records.{record_bounds}

pub buffer_bounds : (b : Buffer) → ((BufferInBounds b → ⊥) → ⊥) → buffer_in_bounds b ≡ true
buffer_bounds b kept = tested (buffer_in_bounds b) (record_bounds.buffers b).1 kept

-- an absent size is what is left of the source, in both
size_is : (src : Buffer) (offset : ℕ) (size : Option ℕ) → size_or size (src.size - offset) ≡ copy_size_of src offset size
unfolding size_or
size_is src offset (Some n) = refl
size_is src offset None = refl

-- ---- 34, by its test and by its words

shared_of : (b : Buffer) → is_shared b.usage.0 ≡ true → Shared b
unfolding is_shared
shared_of b e =
    let u = b.usage.0 in
    ⊎_elim (λ h. inl (has_of u 5 h)) (λ r.
    ⊎_elim (λ h. inr (inl (has_of u 6 h))) (λ r.
    ⊎_elim (λ h. inr (inr (inl (has_of u 8 h)))) (λ h. inr (inr (inr (has_of u 7 h))))
    (either (contains u 256) (contains u 128) r))
    (either (contains u 64) _ r))
    (either (contains u 32) _ e)

shared_by : (b : Buffer) → Shared b → is_shared b.usage.0 ≡ true
unfolding is_shared
shared_by b (inl h) = or_left (contains b.usage.0 32) _ (has_by _ 5 h)
shared_by b (inr (inl h)) = or_right (contains b.usage.0 32) _ (or_left (contains b.usage.0 64) _ (has_by _ 6 h))
shared_by b (inr (inr (inl h))) = or_right (contains b.usage.0 32) _ (or_right (contains b.usage.0 64) _ (or_left (contains b.usage.0 256) _ (has_by _ 8 h)))
shared_by b (inr (inr (inr h))) = or_right (contains b.usage.0 32) _ (or_right (contains b.usage.0 64) _ (or_right (contains b.usage.0 256) _ (has_by _ 7 h)))

module _ (device : Device) (src dst : Buffer) where
  abbrev indexed : Bool
  indexed = contains src.usage.0 16 || contains dst.usage.0 16

  abbrev shares : Bool
  shares = is_shared src.usage.0 || is_shared dst.usage.0

  restricted_of : lacks_index_fact device src.usage.0 dst.usage.0 ≡ true → IndexRestricted device src dst
  unfolding lacks_index_fact
  restricted_of e =
      let p = both_true (not device.unrestricted_index_buffer) (indexed && shares) e in
      let q = both_true indexed shares p.1 in
      record {
        fact = not-true _ p.0;
        index = ⊎_elim (λ h. inl (has_of _ 4 h)) (λ h. inr (has_of _ 4 h)) (either (contains src.usage.0 16) _ q.0);
        shared = ⊎_elim (λ h. inl (shared_of src h)) (λ h. inr (shared_of dst h)) (either (is_shared src.usage.0) _ q.1);
      }

  restricted_by : IndexRestricted device src dst → lacks_index_fact device src.usage.0 dst.usage.0 ≡ true
  unfolding lacks_index_fact
  restricted_by r = rw (r.fact, index r.index) (shared r.shared)
    where
      index : Has src.usage.0 16 ⊎ Has dst.usage.0 16 → indexed ≡ true
      index (inl h) = or_left (contains src.usage.0 16) _ (has_by _ 4 h)
      index (inr h) = or_right (contains src.usage.0 16) _ (has_by _ 4 h)

      shared : Shared src ⊎ Shared dst → shares ≡ true
      shared (inl h) = or_left (is_shared src.usage.0) _ (shared_by src h)
      shared (inr h) = or_right (is_shared src.usage.0) _ (shared_by dst h)

  unrestricted : (IndexRestricted device src dst → ⊥) → lacks_index_fact device src.usage.0 dst.usage.0 ≡ false
  unrestricted kept = false_from_ne_true _ (λ e. kept (restricted_of e))

-- ---- the whole copy

module _ (device : Device) (i j : ℕ) (src dst : Buffer) (srcOffset dstOffset : ℕ) (size : Option ℕ) where
  abbrev copy : Copy
  copy = record { device = device; src_index = i; src = src; src_offset = srcOffset; dst_index = j; dst = dst; dst_offset = dstOffset; size = size }

  abbrev Rules : ℕ → Type 0
  Rules n = CopyBufferToBuffer (eqb i j) src dst srcOffset dstOffset n

  rules_of : Accepted copy → Rules (bytes copy)
  rules_of a =
      record {
        different = a.different;
        src_usage = has_of src.usage.0 2 a.src_usage;
        dst_usage = has_of dst.usage.0 3 a.dst_usage;
        size_aligned = a.size_aligned;
        src_aligned = a.src_aligned;
        dst_aligned = a.dst_aligned;
        src_inside = a.src_inside;
        dst_inside = a.dst_inside;
      }

  kept_by : Accepted copy → BuffersExcepted device src dst → ⊥
  kept_by a (inl out) = out ((record_bounds.buffers src).0 a.src_bounds)
  kept_by a (inr (inl out)) = out ((record_bounds.buffers dst).0 a.dst_bounds)
  kept_by a (inr (inr r)) = opposite _ (restricted_by device src dst r) a.index_fact

  accepted : (BuffersExcepted device src dst → ⊥) → Rules (bytes copy) → Accepted copy
  accepted kept v =
      record {
        src_bounds = buffer_bounds src (λ x. kept (inl x));
        dst_bounds = buffer_bounds dst (λ x. kept (inr (inl x)));
        different = v.different;
        src_usage = has_by src.usage.0 2 v.src_usage;
        dst_usage = has_by dst.usage.0 3 v.dst_usage;
        size_aligned = v.size_aligned;
        src_aligned = v.src_aligned;
        dst_aligned = v.dst_aligned;
        index_fact = unrestricted device src dst (λ x. kept (inr (inr x)));
        src_inside = v.src_inside;
        dst_inside = v.dst_inside;
      }

pub buffer_to_buffer_lem : BufferToBuffer
unfolding buffer_to_buffer
buffer_to_buffer_lem device i j src dst srcOffset dstOffset size =
    let c = copy device i j src dst srcOffset dstOffset size in
    let is = size_is src srcOffset size in (
      λ g.
          let a = ((every_copy_law c).is_accepted g.0 g.1).0 in
          (rw (← is) (rules_of device i j src dst srcOffset dstOffset size a), kept_by device i j src dst srcOffset dstOffset size a),
      λ v. (_, (every_copy_law c).has_plan (accepted device i j src dst srcOffset dstOffset size v.1 (rw is v.0))),
    )
