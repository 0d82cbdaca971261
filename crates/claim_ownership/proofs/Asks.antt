-- Asking a plan until none is left gives its regions and nothing else, and of an accepted copy's plan the copy's.
-- Assumes nothing.
use Rattle.std.specs.Prelude.{Some, None}
use mathlib.Core.Path.{◌≡◌, refl, ap, ◌∙◌}
use mathlib.Core.Bool.{true}
use mathlib.Core.List.{List, [], ◌∷◌}
use Prim.Native.Nat.{ℕ, zero, suc, ◌+◌, ◌*◌, ◌%◌, ◌^◌, ◌<◌}
use native.Mathlib.Omega.{arith}
use native.Mathlib.Nat.{suc-mul, mod-eq_of_lt}
use borrow.Author.Tests.{eq-eqb, ne_eqb}
use Rattle.conditions.specs.Conditions.{stop_if}
use Rattle.plan_buffer_texture.specs.declared.BufferTextureCopy.{BufferTextureCopy}
use Rattle.plan_buffer_texture.specs.declared.BufferTexturePlan.{BufferTexturePlan}
use Rattle.rule_selectors.specs.Selector.{next_layer}
use Rattle.plan_buffer_texture.specs.Asking.{moved, advanced, next_of}
use Rattle.claim_ownership.specs.Asking.{Gives, ended, gave}
use Rattle.copy_buffer_texture.specs.Copy.{Copy}
use Rattle.claim_ownership.specs.Copy.{image, is_2d, region_at, regions_from}

-- the next n regions of a plan
abbrev pub next_regions : ℕ → BufferTexturePlan → List BufferTextureCopy
next_regions zero p = []
next_regions (suc n) p = p.region ∷ next_regions n (advanced p)

at_end : (p : BufferTexturePlan) → p.left ≡ 0 → next_of p ≡ record { answer = None; plan = p }
unfolding next_of stop_if
at_end p e = rw (eq-eqb p.left 0 e)

at_more : (p : BufferTexturePlan) → 0 < p.left → next_of p ≡ record { answer = Some p.region; plan = advanced p }
unfolding next_of stop_if
at_more p h = rw (ne_eqb p.left 0 (λ e. omega arith))

pub gives : (n : ℕ) (p : BufferTexturePlan) → p.left ≡ n → Gives p (next_regions n p)
unfolding advanced
gives zero p e = let f = at_end p e in ended {p = p} (rw f) (rw f)
gives (suc n) p e =
    let f = at_more p (omega arith) in
    gave {p = p} {r = p.region} {rs = next_regions n (advanced p)} (rw f) (rw f (gives n (advanced p) (omega arith)))

pub gives_only : (n : ℕ) {p : BufferTexturePlan} {rs : List BufferTextureCopy} → Gives p rs → p.left ≡ n → rs ≡ next_regions n p
unfolding advanced
gives_only zero (ended h q) e = refl
gives_only zero {p} (gave h g) e = let f = rw (at_end p e) at h in let z : ◌≡◌ {A = ℕ} 0 1 = cc in absurd (omega arith)
gives_only (suc n) {p} (ended h q) e = let f = rw (at_more p (omega arith)) at h in let z : ◌≡◌ {A = ℕ} 0 1 = cc in absurd (omega arith)
gives_only (suc n) {p} (gave {r = r} {rs = rs} h g) e =
    let m = at_more p (omega arith) in
    let f : Some p.region ≡ Some r = rw m at h in
    let t : rs ≡ next_regions n (advanced p) = gives_only n (rw m at g) (omega arith) in
    cc

-- the region of image m is that of a layer, and neither its offset nor its layer wraps
pub record Steady (c : Copy) (m : ℕ) : Type 0 where
  pub layered : is_2d c ≡ true
  pub offset : c.layout.offset + m * image c < 2 ^ 64
  pub layer : c.view.origin.z + m < 2 ^ 32

module _ (c : Copy) where
  -- one stride on and one layer on is the next region, where nothing wraps
  moved_on : (k : ℕ) → Steady c (suc k) → moved (region_at c k) (image c) ≡ region_at c (suc k)
  unfolding moved next_layer
  moved_on k s =
      let e : c.layout.offset + k * image c + image c ≡ c.layout.offset + suc k * image c = omega (arith, suc-mul k (image c)) in
      let f : c.view.origin.z + k + 1 ≡ c.view.origin.z + suc k = omega arith in
      let p : (c.layout.offset + k * image c + image c) % 2 ^ 64 ≡ c.layout.offset + suc k * image c = ap (λ (n : ℕ). n % 2 ^ 64) e ∙ mod-eq_of_lt s.offset in
      let q : (c.view.origin.z + k + 1) % 2 ^ 32 ≡ c.view.origin.z + suc k = ap (λ (n : ℕ). n % 2 ^ 32) f ∙ mod-eq_of_lt s.layer in
      rw (s.layered, p, q)

  pub the_copys :
      (n k : ℕ) (p : BufferTexturePlan) → p.stride ≡ image c → (0 < n → p.region ≡ region_at c k) → ((m : ℕ) → 0 < m → m < k + n → Steady c m)
      → next_regions n p ≡ regions_from c k n
  unfolding advanced
  the_copys zero k p s r b = refl
  the_copys (suc n) k p s r b =
      let h : p.region ≡ region_at c k = r (omega arith) in
      let on : 0 < n → moved p.region p.stride ≡ region_at c (suc k) = λ pos. rw (h, s) (moved_on k (b (suc k) (omega arith) (omega arith))) in
      let t : next_regions n (advanced p) ≡ regions_from c (suc k) n = the_copys n (suc k) (advanced p) s on (λ m l h. b m l (omega arith)) in
      cc
