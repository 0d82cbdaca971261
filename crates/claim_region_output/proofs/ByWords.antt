-- A plan's words give the regions that asking the plan gives.
-- Assumes nothing.
use Rattle.std.specs.Prelude.{Option, Some, None}
use Prim.{tt}
use mathlib.Core.Path.{◌≡◌, refl, sym, ap, ◌∙◌}
use mathlib.Core.List.{List, [], ◌∷◌, ◌++◌, map, flat_map}
use Prim.Native.Nat.{ℕ, zero, suc, ◌^◌, ◌≤◌, ◌<◌}
use native.Mathlib.Omega.{arith}
use borrow.Author.Tests.{eq-eqb, ne_eqb, le-leb, lt-leb}
use lib.ListN.{length}
use Rattle.plan_rows.specs.Rows.{base_numbers as baseRow, size_numbers}
use Rattle.plan_kinds.specs.declared.Plan.{Plan}
use Rattle.plan_kinds.specs.declared.Plan.TheVariants.{Buffers, BufferTexture, Textures}
use Rattle.plan_kinds.specs.Regions.{left_of, behind_of, regions_from, regions_left}
use Rattle.plan_writer.specs.Writing.{numbers_from, numbers_left, behind_all, fits}
use Rattle.c_plans.specs.Laws.{read_back, Narrow, given_numbers, narrow_numbers}
use Rattle.c_plans.proofs.Reading.{every_plan}
use Rattle.c_regions.specs.Regions.{words_of, left_in, if_left, next_number, written_number, written_words}
use Rattle.c_regions.specs.Laws.{region_from, words_behind}
use Rattle.c_regions.proofs.Steps.{every_step}
use Rattle.claim_region_output.specs.Asking.{Region, handed_back, Gives, ended, gave}
use Rattle.claim_region_output.specs.Numbers.{Number, given, optional, base_numbers, sides, row, slots, written, Below}
use Rattle.claim_region_output.specs.Words.{WordsGive, stop, step, GiveAs, words, EveryPlanSteps, plan_from, narrow, EveryPlanWritesByWords}
use Rattle.claim_region_output.proofs.Asks.{handed, none_left_lem, some_left, its_numbers, counted, sized, every_plan_ends}
use Rattle.claim_region_output.proofs.Slices.{left_numbers, left_behind, every_plan_writes}

-- ---- asking by words

module _ (fields : ℕ) (next behind : List ℕ → List ℕ) (w : List ℕ) where
  stops : left_in w ≡ 0 → WordsGive fields next behind w []
  unfolding next_number if_left
  stops e = let z = eq-eqb (left_in w) 0 e in stop {w = w} (rw z) (rw z) (rw z)

  steps : (r on : List ℕ) (rows : List (List ℕ)) → (left_in w ≡ 0 → ⊥) → next w ≡ r → behind w ≡ on → WordsGive fields next behind on rows → WordsGive fields next behind w (r ∷ rows)
  unfolding next_number if_left
  steps r on rows h e f g = let z = ne_eqb (left_in w) 0 h in step {w = w} {r = r} {rows = rows} (rw z) (rw (z, e)) (rw (z, f) g)

same_words : (p : Plan) → words_of p ≡ words p
unfolding words_of words
same_words (Buffers p) = refl
same_words (BufferTexture p) = refl
same_words (Textures p) = refl

last_words : (p : Plan) → left_in (words p) ≡ 0 → GiveAs p (words p) []
unfolding words
last_words (Buffers p) e = stops _ _ _ _ e
last_words (BufferTexture p) e = stops _ _ _ _ e
last_words (Textures p) e = stops _ _ _ _ e

more_words :
    (p : Plan) (r : List ℕ) (rows : List (List ℕ)) → (left_in (words p) ≡ 0 → ⊥) → region_from p ≡ r → words_behind p ≡ words (handed_back p)
    → GiveAs (handed_back p) (words (handed_back p)) rows → GiveAs p (words p) (r ∷ rows)
unfolding words region_from words_behind handed_back
more_words (Buffers p) r rows h e f g = steps _ _ _ _ r _ rows h e f g
more_words (BufferTexture p) r rows h e f g = steps _ _ _ _ r _ rows h e f g
more_words (Textures p) r rows h e f g = steps _ _ _ _ r _ rows h e f g

left_in_lem : (p : Plan) → left_of p < 2 ^ 32 → left_in (words p) ≡ left_of p
left_in_lem p h = ap left_in (sym (same_words p)) ∙ (every_step p h).0

asked : {p : Plan} {rs : List Region} → Gives p rs → length rs < 2 ^ 32 → GiveAs p (words p) (map row rs)
asked {p} (ended e f) h =
    let z = none_left_lem p e in
    last_words p (left_in_lem p (omega (arith, z)) ∙ z)
asked {p} (gave {r = r} {rs = rs} e g) h =
    let n : left_of p ≡ suc (length rs) = counted (gave e g) in
    let few : left_of p < 2 ^ 32 = omega (arith, n, h) in
    let agrees = (every_step p few).1 (some_left p r e) in
    more_words p (row r) (map row rs) (λ z. omega (arith, z, left_in_lem p few, n)) (agrees.0 ∙ its_numbers p r e)
    (agrees.1 ∙ ap words_of (sym (handed p)) ∙ same_words (handed_back p)) (asked g (omega arith))

pub every_plan_steps : EveryPlanSteps
every_plan_steps p rs g h = asked g h

-- ---- numbers of 32 bits

narrow_given : (ns rest : List ℕ) → Below (2 ^ 32) (map given ns) → Narrow rest → Narrow (ns ++ rest)
narrow_given [] rest h r = r
narrow_given (n ∷ ns) rest h r = (h.0, narrow_given ns rest h.1 r)

narrow_options : (a b : Option ℕ) (ns : List Number) → Below (2 ^ 32) (optional a ∷ optional b ∷ ns) → Narrow (given_numbers a ++ given_numbers b) × Below (2 ^ 32) ns
unfolding optional
narrow_options (Some a) (Some b) ns h = ((h.0, (h.1.0, tt)), h.1.1)
narrow_options (Some a) None ns h = ((h.0, tt), h.1)
narrow_options None (Some b) ns h = ((h.0, tt), h.1)
narrow_options None None ns h = (tt, h)

narrowed : (p : Plan) → Below (2 ^ 32) (narrow p) → Narrow (narrow_numbers p)
unfolding narrow narrow_numbers
narrowed (Buffers p) h = h
narrowed (BufferTexture p) h =
    let r = p.region in
    let o = narrow_options r.bytes_per_row r.rows_per_image (base_numbers r.base ++ sides r.size) h.1 in
    (h.0, narrow_given (baseRow r.base ++ size_numbers r.size) (given_numbers r.bytes_per_row ++ given_numbers r.rows_per_image) o.1 o.0)
narrowed (Textures p) h = h

-- ---- writing by words

-- the plan that is read has the same numbers left
read_again : (p : Plan) → read_back p ≡ plan_from p
unfolding read_back plan_from
read_again (Buffers p) = refl
read_again (BufferTexture p) = refl
read_again (Textures p) = refl

by_regions : (n : ℕ) (p : Plan) → numbers_from n p ≡ flat_map (λ (ns : List ℕ). ns) (regions_from n p)
unfolding numbers_from regions_from flat_map
by_regions zero p = refl
by_regions (suc n) p = rw (by_regions n (behind_of p))

left_by_regions : (p : Plan) → numbers_left p ≡ flat_map (λ (ns : List ℕ). ns) (regions_left p)
unfolding numbers_left regions_left
left_by_regions p = by_regions (left_of p) p

same_left : (p : Plan) → Below (2 ^ 32) (narrow p) → numbers_left (plan_from p) ≡ numbers_left p
same_left p h =
    let e = every_plan p (narrowed p h) in
    let regions : regions_left (plan_from p) ≡ regions_left p = ap regions_left (sym (read_again p) ∙ e.0) ∙ e.1 in
    left_by_regions (plan_from p) ∙ ap (flat_map (λ (ns : List ℕ). ns)) regions ∙ sym (left_by_regions p)

-- the kind stays
kind_from : (p : Plan) (w : List ℕ) (rows : List (List ℕ)) → GiveAs (plan_from p) w rows → GiveAs p w rows
unfolding plan_from
kind_from (Buffers p) w rows g = g
kind_from (BufferTexture p) w rows g = g
kind_from (Textures p) w rows g = g

kind_behind : (p : Plan) (w : List ℕ) (rows : List (List ℕ)) → GiveAs (behind_of p) w rows → GiveAs p w rows
unfolding behind_of
kind_behind (Buffers p) w rows g = g
kind_behind (BufferTexture p) w rows g = g
kind_behind (Textures p) w rows g = g

kind_all : (n : ℕ) (p : Plan) (w : List ℕ) (rows : List (List ℕ)) → GiveAs (behind_all n p) w rows → GiveAs p w rows
unfolding behind_all
kind_all zero p w rows g = g
kind_all (suc n) p w rows g = kind_behind p w rows (kind_all n (behind_of p) w rows g)

module _ (p : Plan) (rs : List Region) (g : Gives p rs) (h : Below (2 ^ 32) (narrow p)) where
  abbrev q : Plan
  q = plan_from p

  abbrev qs : List Region
  qs = (every_plan_ends q).regions

  from_words : Gives q qs
  from_words = (every_plan_ends q).gives

  same_slots : slots qs ≡ slots rs
  same_slots = sym (left_numbers from_words) ∙ same_left p h ∙ left_numbers g

  same_written : (slice : List ℕ) → written qs slice ≡ written rs slice
  unfolding written
  same_written slice = rw same_slots

  last_left : GiveAs p (words_of (behind_all (left_of q) q)) []
  last_left =
      let z = behind_all (left_of q) q in
      rw (same_words z) (kind_from p (words z) [] (kind_all (left_of q) q (words z) [] (asked (left_behind from_words) (omega arith))))

  module _ (slice : List ℕ) where
    fitting : length (slots rs) ≤ length slice → (written_number q (length slice) ≡ 0) × GiveAs p (written_words (words p) q (length slice)) []
    unfolding written_number written_words fits
    fitting room = rw (sized from_words, same_slots, le-leb (length (slots rs)) (length slice) room) (refl, last_left)

    too_short : length slice < length (slots rs) → (written_number q (length slice) ≡ 38) × (written_words (words p) q (length slice) ≡ words p)
    unfolding written_number written_words fits
    too_short short = rw (sized from_words, same_slots, lt-leb (length (slots rs)) (length slice) short) (refl, refl)

pub every_plan_writes_by_words : EveryPlanWritesByWords
every_plan_writes_by_words p rs g h slice =
    let w = every_plan_writes (plan_from p) (qs p rs g h) (from_words p rs g h) slice in
    let e = same_slots p rs g h in
    record {
      room = λ room. let f = fitting p rs g h slice room in ((w.room (rw e room)).0 ∙ same_written p rs g h slice, f.0, f.1);
      short = λ short. let f = too_short p rs g h slice short in ((w.short (rw e short)).0, f.0, f.1);
    }
