-- Each block of the box is named by one region of the copy's, which puts it at its bytes, and no region names a place outside.
-- Assumes nothing.
use mathlib.Core.Path.{◌≡◌, refl, ap, ◌∙◌}
use mathlib.Core.Bool.{Bool, true, false, cond}
use Prim.Native.Nat.{ℕ, zero, suc, ◌+◌, ◌-◌, ◌*◌, ◌/◌, ◌≤◌, ◌<◌}
use native.Mathlib.Omega.{arith}
use native.Mathlib.Nat.{suc-mul, zero-mul, add-zero, zero-add, add-sub_cancel_left, mul-div_cancel, mul-le-mul_right, le_of_suc-le-suc, not-suc-le-zero}
use lib.ListN.{length, get_or}
use Rattle.plan_buffer_texture.specs.declared.BufferTextureCopy.{BufferTextureCopy}
use Rattle.claim_ownership.specs.Regions.{Place, Within, Names, puts}
use Rattle.copy_buffer_texture.specs.Copy.{Copy}
use Rattle.claim_ownership.specs.Copy.{depth, bytes, block, wide, high, image, is_2d, count, region_at, regions_from, regions_of}
use Rattle.claim_ownership.specs.Demand3.{Block, InBox, Boxed, NamedBy, place_of, first_byte}
use Rattle.claim_ownership.proofs.Sound.{Sound}

length_regions : (c : Copy) (n k : ℕ) → length (regions_from c k n) ≡ n
length_regions c zero k = refl
length_regions c (suc n) k = ap suc (length_regions c n (suc k))

region_at_lem : (c : Copy) (r : BufferTextureCopy) (n k m : ℕ) → m < n → get_or (regions_from c k n) m r ≡ region_at c (k + m)
region_at_lem c r zero k m h = absurd (not-suc-le-zero h)
region_at_lem c r (suc n) k zero h = rw (add-zero k)
region_at_lem c r (suc n) k (suc m) h = region_at_lem c r n (suc k) m (le_of_suc-le-suc h) ∙ ap (λ (i : ℕ). region_at c i) (omega arith)

-- ---- the region of image k: in 2D its own, else the only one

abbrev index : Bool → ℕ → ℕ
index layered k = cond layered k 0

index_in : (t : Bool) (d k : ℕ) → k < d → index t k < cond t d 1
index_in true d k h = h
index_in false d k h = omega arith

index_layer : (t : Bool) (z k : ℕ) → cond t (z + k) 0 ≡ cond t (z + index t k) 0
index_layer true z k = refl
index_layer false z k = refl

index_only : (t : Bool) (z d k m : ℕ) → m < cond t d 1 → cond t (z + k) 0 ≡ cond t (z + m) 0 → m ≡ index t k
index_only true z d k m h e = omega arith
index_only false z d k m h e = omega arith

in_depth : (t : Bool) (z d k : ℕ) → k < d → Within (cond t 0 (z + k)) (cond t 0 (z + index t k)) (cond t 1 d)
in_depth true z d k h = omega arith
in_depth false z d k h = omega arith

-- region strides and depth strides add up to the image's
strides : (t : Bool) (z k s : ℕ) → index t k * s + (cond t 0 (z + k) - cond t 0 (z + index t k)) * s ≡ k * s
strides true z k s = rw zero-mul (add-zero _)
strides false z k s = rw zero-mul (zero-add _ ∙ ap (λ (n : ℕ). n * s) (omega arith))

-- the image of a place that a region names
image_of :
    (t : Bool) (z d n layer at : ℕ) → n < cond t d 1 → layer ≡ cond t (z + n) 0 → Within at (cond t 0 (z + n)) (cond t 1 d)
    → (k : ℕ) × (k < d) × (layer ≡ cond t (z + k) 0) × (at ≡ cond t 0 (z + k))
image_of true z d n layer at h l w = (n, h, l, omega arith)
image_of false z d n layer at h l w = (at - z, omega arith, l, omega arith)

-- ---- a block's side: inside the box, and counted back

starts_in : (x n b i w : ℕ) → n * b ≡ w → 0 < b → i < n → Within (x + i * b) x w
starts_in x n b i w e pos h = let a : suc i * b ≤ n * b = mul-le-mul_right b h in omega (arith, suc-mul i b)

counted : (x i b : ℕ) → 0 < b → (x + i * b - x) / b ≡ i
counted x i b pos = ap (λ (n : ℕ). n / b) (add-sub_cancel_left x (i * b)) ∙ mul-div_cancel i pos

the_region : (c : Copy) (n : ℕ) → n < count c → get_or (regions_of c) n (region_at c 0) ≡ region_at c n
the_region c n h = region_at_lem c (region_at c 0) (count c) 0 n h ∙ ap (λ (i : ℕ). region_at c i) (zero-add n)

module _ (c : Copy) (s : Sound c) (b : Block) (h : InBox c b) where
  abbrev z : ℕ
  z = c.view.origin.z

  abbrev n : ℕ
  n = index (is_2d c) b.k

  names : Names (region_at c n) (place_of c b)
  names =
      record {
        level = refl;
        aspects = refl;
        layer = index_layer (is_2d c) z b.k;
        x = starts_in c.view.origin.x.0 (wide c) (block c) b.i c.size.width.0 s.w_whole s.block_pos h.0;
        y = starts_in c.view.origin.y.0 (high c) (block c) b.j c.size.height.0 s.h_whole s.block_pos h.1;
        z = in_depth (is_2d c) z (depth c) b.k h.2;
      }

  placed : puts (block c) (block c) (bytes c) (region_at c n) (place_of c b) ≡ first_byte c b
  unfolding puts first_byte
  placed =
      rw (counted c.view.origin.y.0 b.j (block c) s.block_pos, counted c.view.origin.x.0 b.i (block c) s.block_pos)
      (omega (arith, strides (is_2d c) z b.k (image c)))

  pub named_by : NamedBy c (regions_of c) b n
  named_by =
      let there : n < count c = index_in (is_2d c) (depth c) b.k h.2 in
      record {
        there = rw (length_regions c (count c) 0) there;
        named = rw (the_region c n there) names;
        put = rw (the_region c n there) placed;
        only = λ m l q. let l' : m < count c = rw (length_regions c (count c) 0) at l in index_only (is_2d c) z (depth c) b.k m l' (rw (the_region c m l') at q).layer;
      }

pub boxed : (c : Copy) (n : ℕ) → n < length (regions_of c) → (q : Place) → Names (get_or (regions_of c) n (region_at c 0)) q → Boxed c q
boxed c n l q h =
    let l' : n < count c = rw (length_regions c (count c) 0) at l in
    let m : Names (region_at c n) q = rw (the_region c n l') at h in
    record {
      level = m.level;
      aspects = m.aspects;
      x = m.x;
      y = m.y;
      image = image_of (is_2d c) c.view.origin.z (depth c) n q.layer q.z l' m.layer m.z;
    }
