-- What asking a plan gives, beside the plan's own count and numbers.
-- Assumes nothing.
use Rattle.std.specs.Prelude.{Option, Some, None}
use mathlib.Core.Path.{◌≡◌, refl, sym, ap, ◌∙◌}
use mathlib.Core.Bool.{Bool, true, false}
use mathlib.Core.List.{List, [], ◌∷◌, flat_map}
use Prim.Native.Nat.{ℕ, zero, suc, ◌*◌, ◌<◌}
use native.Mathlib.Omega.{arith}
use native.Mathlib.Nat.{suc-mul}
use borrow.Author.Tests.{eq-eqb, ne_eqb, eqb-true, eqb-false}
use lib.Dec.{eqb}
use lib.ListN.{length, length-append}
use Rattle.conditions.specs.Conditions.{stop_if}
use Rattle.plan_rows.specs.Rows.{or_absent, buffer_copy_numbers, buffer_texture_copy_numbers, texture_copy_numbers}
use Rattle.plan_buffers.specs.Asking as K
use Rattle.plan_buffer_texture.specs.Asking as L
use Rattle.plan_textures.specs.Asking as X
use Rattle.plan_kinds.specs.declared.Plan.{Plan}
use Rattle.plan_kinds.specs.declared.Plan.TheVariants.{Buffers, BufferTexture, Textures}
use Rattle.plan_kinds.specs.Regions.{left_of, fields_of, next_numbers, region_numbers, behind_of}
use Rattle.plan_kinds.proofs.Behind.{behind_left}
use Rattle.plan_writer.specs.Writing.{numbers_from, behind_all}
use Rattle.plan_writer.proofs.Writes.{numbers_count, behind_fields}
use Rattle.claim_region_output.specs.Asking.{Region, buffers, buffer_texture, textures, region, none_left, buffers_answer, buffer_texture_answer, textures_answer, answer, handed_back, Gives, ended, gave, EveryPlanEnds}
use Rattle.claim_region_output.specs.Numbers.{optional, numbers, slot, row, slots}

-- ---- one region

pub some : {n : ℕ} → 0 < n → n ≡ 0 → ⊥
some h e = omega arith

above : (n : ℕ) → eqb n 0 ≡ false → 0 < n
above n e = let not_None : n ≡ 0 → ⊥ = eqb-false n 0 e in omega arith

unequal : {r : Region} → region r ≡ none_left → ⊥
unequal e = let z : ◌≡◌ {A = ℕ} 0 1 = cc in absurd (omega arith)

pub handed : (p : Plan) → handed_back p ≡ behind_of p
unfolding handed_back behind_of
handed (Buffers p) = refl
handed (BufferTexture p) = refl
handed (Textures p) = refl

at_end : (p : Plan) → left_of p ≡ 0 → (answer p ≡ none_left) × (handed_back p ≡ p)
unfolding left_of answer handed_back buffers_answer buffer_texture_answer textures_answer K.next_of L.next_of X.next_of stop_if
at_end (Buffers p) e = rw (eq-eqb p.left 0 e) (refl, refl)
at_end (BufferTexture p) e = rw (eq-eqb p.left 0 e) (refl, refl)
at_end (Textures p) e = rw (eq-eqb p.left 0 e) (refl, refl)

-- the region that a plan answers while one is left
abbrev pub next : Plan → Region
next (Buffers p) = buffers p.region
next (BufferTexture p) = buffer_texture p.region
next (Textures p) = textures (X.region_of p.parts p)

slot_optional : (o : Option ℕ) → or_absent o ≡ slot (optional o)
unfolding or_absent slot optional
slot_optional (Some n) = refl
slot_optional None = refl

at_more : (p : Plan) → 0 < left_of p → (answer p ≡ region (next p)) × (region_numbers p ≡ row (next p))
unfolding left_of answer region_numbers next_numbers buffers_answer buffer_texture_answer textures_answer K.next_of L.next_of X.next_of stop_if buffer_copy_numbers buffer_texture_copy_numbers texture_copy_numbers row numbers slot
at_more (Buffers p) h = rw (ne_eqb p.left 0 (some h)) (refl, refl)
at_more (BufferTexture p) h =
    rw (ne_eqb p.left 0 (some h), slot_optional p.region.bytes_per_row, slot_optional p.region.rows_per_image) (refl, refl)
at_more (Textures p) h = rw (ne_eqb p.left 0 (some h)) (refl, refl)

-- a region is answered where one is left, and with its numbers
pub none_left_lem : (p : Plan) → answer p ≡ none_left → left_of p ≡ 0
none_left_lem p e = by (eqb (left_of p) 0) refl
  where
    by : (t : Bool) → eqb (left_of p) 0 ≡ t → left_of p ≡ 0
    by true t = eqb-true _ _ t
    by false t = absurd (unequal (sym (at_more p (above (left_of p) t)).0 ∙ e))

module _ (p : Plan) (r : Region) (e : answer p ≡ region r) where
  pub some_left : 0 < left_of p
  some_left = by (eqb (left_of p) 0) refl
    where
      by : (t : Bool) → eqb (left_of p) 0 ≡ t → 0 < left_of p
      by true t = absurd (unequal (sym e ∙ (at_end p (eqb-true _ _ t)).0))
      by false t = above (left_of p) t

  pub its_region : next p ≡ r
  its_region = let f : region (next p) ≡ region r = sym (at_more p some_left).0 ∙ e in cc

  pub its_numbers : region_numbers p ≡ row r
  its_numbers = (at_more p some_left).1 ∙ ap row its_region

  pub one_fewer : left_of p ≡ suc (left_of (handed_back p))
  one_fewer = rw (handed p) (omega (arith, behind_left p some_left, some_left))

-- ---- all regions

pub counted : {p : Plan} {rs : List Region} → Gives p rs → left_of p ≡ length rs
counted {p} (ended e f) = none_left_lem p e
counted {p} (gave {r = r} e g) = one_fewer p r e ∙ ap suc (counted g)

pub all_numbers : {p : Plan} {rs : List Region} → Gives p rs → numbers_from (length rs) p ≡ slots rs
unfolding numbers_from slots flat_map
all_numbers (ended e f) = refl
all_numbers {p} (gave {r = r} e g) = rw (its_numbers p r e, ← handed p, all_numbers g)

-- as many numbers as regions × numbers each
each : {p : Plan} {rs : List Region} → Gives p rs → length rs * fields_of p ≡ length (slots rs)
unfolding slots flat_map
each (ended e f) = omega arith
each {p} (gave {r = r} {rs = rs} e g) =
    let n : length (row r) ≡ fields_of p = ap length (sym (its_numbers p r e)) ∙ numbers_count p (some_left p r e) in
    let f : fields_of (handed_back p) ≡ fields_of p = ap fields_of (handed p) ∙ behind_fields p in
    let more : length rs * fields_of p ≡ length (slots rs) = ap (λ (k : ℕ). length rs * k) (sym f) ∙ each g in
    omega (arith, suc-mul (length rs) (fields_of p), length-append (row r) (slots rs), n, more)

pub sized : {p : Plan} {rs : List Region} → Gives p rs → left_of p * fields_of p ≡ length (slots rs)
sized {p} g = ap (λ (n : ℕ). n * fields_of p) (counted g) ∙ each g

-- after all of them none is left
pub all_behind : {p : Plan} {rs : List Region} → Gives p rs → Gives (behind_all (length rs) p) []
unfolding behind_all
all_behind (ended e f) = ended e f
all_behind {p} (gave {rs = rs} e g) =
    let on : behind_all (length rs) (behind_of p) ≡ behind_all (length rs) (handed_back p) = ap (behind_all (length rs)) (sym (handed p)) in
    rw on (all_behind g)

-- ---- asking ends, in one way

asks : (n : ℕ) (p : Plan) → left_of p ≡ n → (rs : List Region) × Gives p rs
asks zero p e = let a = at_end p e in ([], ended a.0 a.1)
asks (suc n) p e =
    let a = (at_more p (omega (arith, e))).0 in
    let t = asks n (handed_back p) (omega (arith, one_fewer p (next p) a, e)) in
    (next p ∷ t.0, gave a t.1)

same : {p : Plan} {rs qs : List Region} → Gives p rs → Gives p qs → rs ≡ qs
same (ended e f) (ended e' f') = refl
same (ended e f) (gave e' g') = absurd (unequal (sym e' ∙ e))
same (gave e g) (ended e' f') = absurd (unequal (sym e ∙ e'))
same (gave {r = r} {rs = rs} e g) (gave {r = q} {rs = qs} e' g') =
    let f : region r ≡ region q = sym e ∙ e' in
    let t : rs ≡ qs = same g g' in
    cc

pub every_plan_ends : EveryPlanEnds
every_plan_ends p = let t = asks (left_of p) p refl in record { regions = t.0; gives = t.1; only = λ rs g. same g t.1 }
