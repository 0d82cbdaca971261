-- Laws of the regions that are written. Assumes nothing.
use Rattle.std.specs.Prelude.{Option, None, unwrap_or}
use mathlib.Core.Path.{◌≡◌, refl, sym, ap, ◌∙◌}
use mathlib.Core.List.{List, [], ◌++◌}
use Prim.Native.Nat.{ℕ, zero, suc, ◌+◌, ◌-◌, ◌*◌, ◌^◌, ◌≤◌, ◌<◌}
use native.Mathlib.Omega.{arith}
use native.Mathlib.Nat.{suc-mul, add_comm, mul-le-mul_left}
use borrow.Author.Tests.{ne_eqb}
use lib.ListN.{length, get_or, get_or-append}
use lib.Seq.{sets, get_or-append-add}
use Rattle.conditions.specs.Conditions.{stop_if}
use Rattle.slices.specs.Put.{Put}
use Rattle.slices.proofs.Puts.{sets_append, put_as, put_length}
use Rattle.plan_rows.specs.Rows.{buffer_copy_numbers, buffer_texture_copy_numbers, texture_copy_numbers}
use Rattle.plan_buffers.specs.Asking as K
use Rattle.plan_buffer_texture.specs.Asking as L
use Rattle.plan_textures.specs.declared.TexturePlan.{TexturePlan}
use Rattle.plan_textures.specs.Asking as X
use Rattle.plan_kinds.specs.declared.Plan.{Plan}
use Rattle.plan_kinds.specs.declared.Plan.TheVariants.{Buffers, BufferTexture, Textures}
use Rattle.plan_kinds.specs.Regions.{left_of, fields_of, next_numbers, region_numbers, behind_of, textures_with}
use Rattle.plan_kinds.proofs.Behind.{behind_left}
use Rattle.plan_kinds.proofs.Ranges.{numbers_with, next_with, behind_with}
use Rattle.plan_writer.specs.Writing.{numbers_from, numbers_left, behind_all, EveryEntry}
use Rattle.rule_init_ranges.specs.declared.TextureInitRange.{TextureInitRange}

-- ---- one region

some : {n : ℕ} → 0 < n → n ≡ 0 → ⊥
some h e = omega arith

module _ where
  -- a plan that has a region left gives as many numbers as a region has
  pub numbers_count : (p : Plan) → 0 < left_of p → length (region_numbers p) ≡ fields_of p
  unfolding left_of fields_of region_numbers next_numbers K.next_of L.next_of X.next_of stop_if buffer_copy_numbers buffer_texture_copy_numbers texture_copy_numbers
  numbers_count (Buffers p) h = rw (ne_eqb p.left 0 (some h))
  numbers_count (BufferTexture p) h = rw (ne_eqb p.left 0 (some h))
  numbers_count (Textures p) h = rw (ne_eqb p.left 0 (some h))

  pub behind_fields : (p : Plan) → fields_of (behind_of p) ≡ fields_of p
  unfolding fields_of behind_of
  behind_fields (Buffers p) = refl
  behind_fields (BufferTexture p) = refl
  behind_fields (Textures p) = refl

  pub fields_few : (p : Plan) → fields_of p ≤ 15
  unfolding fields_of
  fields_few (Buffers p) = omega arith
  fields_few (BufferTexture p) = omega arith
  fields_few (Textures p) = omega arith

-- ---- a loop: finishing from here gives what the whole gives

module _ (l₀ l : List ℕ) (p₀ p : Plan) (at : ℕ) where
  pub record Underway : Type 0 where
    pub room : at + left_of p * fields_of p ≤ length l
    pub same : length l ≡ length l₀
    pub plan : behind_all (left_of p) p ≡ behind_all (left_of p₀) p₀
    pub slots : sets l at (numbers_left p) ≡ sets l₀ 0 (numbers_left p₀)

module _ {l₀ l : List ℕ} {p₀ p : Plan} {at : ℕ} (u : Underway l₀ l p₀ p at) (h : 0 < left_of p) where
  one_of : left_of p * fields_of p ≡ fields_of p + (left_of p - 1) * fields_of p
  one_of = let e : left_of p ≡ suc (left_of p - 1) = omega arith in ap (λ (n : ℕ). n * fields_of p) e ∙ suc-mul (left_of p - 1) (fields_of p) ∙ add_comm ((left_of p - 1) * fields_of p) (fields_of p)

  pub fewer : {next : Plan} → next ≡ behind_of p → left_of next < left_of p
  fewer e = rw e (omega (arith, behind_left p h))

  -- the answer holds the region's numbers
  module _ (answer : Option (List ℕ)) (is : answer ≡ next_numbers p) where
    numbers : unwrap_or answer [] ≡ region_numbers p
    unfolding region_numbers
    numbers = ap (λ (o : Option (List ℕ)). unwrap_or o []) is

    pub answer_room : at + length (unwrap_or answer []) ≤ length l
    answer_room = rw numbers (omega (arith, numbers_count p h, one_of, u.room))

    pub again : (m : List ℕ) (next : Plan) (r : ℕ) → next ≡ behind_of p → Put l m at (unwrap_or answer []) r → Underway l₀ m p₀ next r
    unfolding numbers_left numbers_from behind_all
    again m next r on put =
        let o : Put l m at (region_numbers p) r = put_as put numbers in
        let less : left_of (behind_of p) ≡ left_of p - 1 = behind_left p h in
        let n : left_of p ≡ suc (left_of (behind_of p)) = omega (arith, less) in
        let b : behind_all (left_of p) p ≡ behind_all (left_of (behind_of p)) (behind_of p) = ap (λ (k : ℕ). behind_all k p) n in
        let f : numbers_left p ≡ region_numbers p ++ numbers_left (behind_of p) = ap (λ (k : ℕ). numbers_from k p) n in
        rw on
        (record {
          room = rw (behind_fields p, less) (omega (arith, numbers_count p h, one_of, u.room, o.next, put_length o));
          same = put_length o ∙ u.same;
          plan = sym b ∙ u.plan;
          slots = rw (o.next, o.numbers) (sym (sets_append (region_numbers p) (numbers_left (behind_of p)) l at) ∙ sym (ap (λ (ns : List ℕ). sets l at ns) f) ∙ u.slots);
        })

pub ended : {l₀ l : List ℕ} {p₀ p : Plan} {at : ℕ} → Underway l₀ l p₀ p at → left_of p ≤ 0 → (p ≡ behind_all (left_of p₀) p₀) × (l ≡ sets l₀ 0 (numbers_left p₀))
unfolding numbers_left numbers_from behind_all
ended {l = l} {p = p} {at = at} u h =
    let z : left_of p ≡ 0 = omega arith in
    let b : behind_all (left_of p) p ≡ p = ap (λ (k : ℕ). behind_all k p) z in
    let f : numbers_left p ≡ [] = ap (λ (k : ℕ). numbers_from k p) z in
    (sym b ∙ u.plan, sym (ap (λ (ns : List ℕ). sets l at ns) f) ∙ u.slots)

-- all regions of a plan between textures, and the plan after them, whatever the ranges
textures_behind : ℕ → TexturePlan → TexturePlan
textures_behind zero p = p
textures_behind (suc n) p = textures_behind n (X.next_of p).plan

module _ (ranges : Option (TextureInitRange × TextureInitRange)) where
  all_with : (n : ℕ) (p : TexturePlan) → behind_all n (Textures (textures_with ranges p)) ≡ Textures (textures_with ranges (textures_behind n p))
  unfolding behind_all textures_behind
  all_with zero p = refl
  all_with (suc n) p = rw (behind_with ranges p) (all_with n (X.next_of p).plan)

  pub numbers_from_with : (n : ℕ) (p : TexturePlan) → numbers_from n (Textures (textures_with ranges p)) ≡ numbers_from n (Textures p)
  unfolding numbers_from behind_of
  numbers_from_with zero p = refl
  numbers_from_with (suc n) p = rw (numbers_with ranges p, behind_with ranges p, numbers_from_with n (X.next_of p).plan)

-- the ranges that were left out can be put back
with_ranges : Option (TextureInitRange × TextureInitRange) → Plan → Plan
with_ranges ranges (Buffers p) = Buffers p
with_ranges ranges (BufferTexture p) = BufferTexture p
with_ranges ranges (Textures p) = Textures (textures_with ranges p)

-- the loop that leaves them out, seen with any
module _ (ranges : Option (TextureInitRange × TextureInitRange)) (p : TexturePlan) where
  pub answer_with : (answer : Option (List ℕ)) → answer ≡ next_numbers (Textures p) → answer ≡ next_numbers (Textures (textures_with ranges p))
  answer_with answer e = e ∙ sym (next_with ranges p)

  pub plan_with : (q : TexturePlan) → Textures q ≡ behind_of (Textures p) → Textures (textures_with ranges q) ≡ behind_of (Textures (textures_with ranges p))
  unfolding with_ranges behind_of
  plan_with q e = ap (with_ranges ranges) e ∙ sym (behind_with ranges p)

pub restored : (n : ℕ) (p q : TexturePlan) → Textures (textures_with None q) ≡ behind_all n (Textures (textures_with None p)) → Textures (textures_with p.ranges q) ≡ behind_all n (Textures p)
unfolding with_ranges
restored n p q e = ap (with_ranges p.ranges) (e ∙ all_with None n p) ∙ sym (all_with p.ranges n p)

-- ---- room

pub product_fits : (p : Plan) → left_of p < 2 ^ 32 → left_of p * fields_of p < 2 ^ 64
product_fits p h = let few : left_of p * fields_of p ≤ left_of p * 15 = mul-le-mul_left (left_of p) (fields_few p) in omega arith

-- ---- where each number stands

entry :
    (n k f : ℕ) (p : Plan) → left_of p ≡ n → k < n → f < fields_of p
    → get_or (numbers_from n p) (k * fields_of p + f) 0 ≡ get_or (region_numbers (behind_all k p)) f 0
unfolding numbers_from behind_all
entry zero k f p e h g = absurd (omega arith)
entry (suc n) zero f p e h g =
    let c : length (region_numbers p) ≡ fields_of p = numbers_count p (omega (arith, e)) in
    let z : 0 * fields_of p + f ≡ f = omega arith in
    rw z (get_or-append (region_numbers p) (numbers_from n (behind_of p)) 0 f (omega (arith, c)))
entry (suc n) (suc k) f p e h g =
    let some : 0 < left_of p = omega (arith, e) in
    let c : length (region_numbers p) ≡ fields_of p = numbers_count p some in
    let z : suc k * fields_of p + f ≡ length (region_numbers p) + (k * fields_of p + f) = omega (arith, c, suc-mul k (fields_of p)) in
    let left : left_of (behind_of p) ≡ n = behind_left p some ∙ omega (arith, e) in
    let on = entry n k f (behind_of p) left (omega arith) (rw (behind_fields p) g) in
    rw z (get_or-append-add (region_numbers p) (numbers_from n (behind_of p)) (k * fields_of p + f) 0 ∙ ap (λ (w : ℕ). get_or (numbers_from n (behind_of p)) (k * w + f) 0) (sym (behind_fields p)) ∙ on)

pub every_entry : EveryEntry
unfolding numbers_left
every_entry p k f h g = entry (left_of p) k f p refl h g
