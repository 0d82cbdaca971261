-- The regions of a plan of a copy with a buffer, or from memory, by number.
-- Assumes nothing.
use mathlib.Core.Path.{◌≡◌, sym, ap, ◌∙◌}
use Prim.Native.Nat.{ℕ, zero, suc, ◌+◌, ◌*◌, ◌%◌, ◌^◌, ◌<◌}
use native.Mathlib.Omega.{arith}
use native.Mathlib.Nat.{zero-mul, suc-mul, one-mul, mod-eq_of_lt}
use Rattle.rule_selectors.specs.Selector.{next_layer}
use Rattle.plan_buffer_texture.specs.declared.BufferTextureCopy.{BufferTextureCopy}
use Rattle.plan_buffer_texture.specs.declared.BufferTexturePlan.{BufferTexturePlan}
use Rattle.plan_buffer_texture.specs.Asking.{moved, advanced}
use Rattle.claim_ownership.proofs.Asks.{next_regions}
use Rattle.claim_webgpu_effects.specs.Blocks.{In, first, later}
use Rattle.claim_webgpu_effects.proofs.Formats.{nowhere}

-- m strides and m layers on
abbrev pub numbered : BufferTexturePlan → ℕ → BufferTextureCopy
numbered p m =
    record {
      offset = p.region.offset + m * p.stride;
      bytes_per_row = p.region.bytes_per_row;
      rows_per_image = p.region.rows_per_image;
      base =
          record {
            mip_level = p.region.base.mip_level;
            array_layer = p.region.base.array_layer + m;
            origin = p.region.base.origin;
            aspect = p.region.base.aspect;
          };
      size = p.region.size;
    }

abbrev pub Unwrapped : BufferTexturePlan → ℕ → Type 0
Unwrapped p m = (p.region.offset + m * p.stride < 2 ^ 64) × (p.region.base.array_layer + m < 2 ^ 32)

at_first : (p : BufferTexturePlan) → p.region ≡ numbered p 0
at_first p =
    let o : p.region.offset ≡ p.region.offset + 0 * p.stride = omega (arith, zero-mul p.stride) in
    let l : p.region.base.array_layer ≡ p.region.base.array_layer + 0 = omega arith in
    rw (← o, ← l)

at_next : (p : BufferTexturePlan) (m : ℕ) → Unwrapped p 1 → numbered (advanced p) m ≡ numbered p (suc m)
unfolding advanced moved next_layer
at_next p m u =
    let s = p.stride in
    let a : (p.region.offset + s) % 2 ^ 64 ≡ p.region.offset + s = mod-eq_of_lt (omega (arith, u.0, one-mul s)) in
    let b : (p.region.base.array_layer + 1) % 2 ^ 32 ≡ p.region.base.array_layer + 1 = mod-eq_of_lt u.1 in
    let o : p.region.offset + s + m * s ≡ p.region.offset + suc m * s = omega (arith, suc-mul m s) in
    let l : p.region.base.array_layer + 1 + m ≡ p.region.base.array_layer + suc m = omega arith in
    rw (a, b, o, l)

unwrapped_next : (p : BufferTexturePlan) (m : ℕ) → Unwrapped p 1 → Unwrapped p (suc m) → Unwrapped (advanced p) m
unwrapped_next p m u w =
    let e = at_next p m u in
    (rw (ap (λ (r : BufferTextureCopy). r.offset) e) w.0, rw (ap (λ (r : BufferTextureCopy). r.base.array_layer) e) w.1)

pub number_of : (n : ℕ) (p : BufferTexturePlan) (r : BufferTextureCopy) → ((m : ℕ) → m < n → Unwrapped p m) → In r (next_regions n p) → (m : ℕ) × (m < n) × (numbered p m ≡ r)
number_of zero p r u h = nowhere h
number_of (suc n) p r u (first e) = (0, omega arith, sym (at_first p) ∙ e)
number_of (suc zero) p r u (later h) = nowhere h
number_of (suc (suc n)) p r u (later h) =
    let one = u 1 (omega arith) in
    let t = number_of (suc n) (advanced p) r (λ m l. unwrapped_next p m one (u (suc m) (omega arith))) h in
    (suc t.0, omega (arith, t.1), sym (at_next p t.0 one) ∙ t.2)

pub of_number : (n : ℕ) (p : BufferTexturePlan) (m : ℕ) → ((m : ℕ) → m < n → Unwrapped p m) → m < n → In (numbered p m) (next_regions n p)
of_number zero p m u h = absurd (omega arith)
of_number (suc n) p zero u h = first (at_first p)
of_number (suc zero) p (suc m) u h = absurd (omega arith)
of_number (suc (suc n)) p (suc m) u h =
    let one = u 1 (omega arith) in
    let i : In (numbered p (suc m)) (next_regions (suc n) (advanced p)) = rw (← at_next p m one) (of_number (suc n) (advanced p) m (λ i l. unwrapped_next p i one (u (suc i) (omega arith))) (omega arith)) in
    later i
