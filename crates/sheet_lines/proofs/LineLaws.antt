-- Lengths of lines, and lines that are put one after the other.
-- Assumes nothing.
use Rattle.std.specs.Prelude.{Option, Some, None, Result, Ok, Err, option_map, unwrap_or}
use mathlib.Core.Path.{◌≡◌, refl, sym, ap, ◌∙◌}
use mathlib.Core.Bool.{Bool, true, false}
use mathlib.Core.List.{List, [], ◌∷◌, ◌++◌, append-nil}
use Prim.Native.Nat.{ℕ, ◌+◌, ◌-◌, ◌*◌, ◌≤◌, ◌<◌}
use native.Mathlib.Omega.{arith}
use native.Mathlib.Numerals.{add-one}
use lib.ListN.{length, drop, get_or, length-append, drop_of_length-le}
use lib.Seq.{drop-cons}
use Rattle.refusals.specs.declared.TransferError.{TransferError}
use Rattle.rule_init_ranges.specs.declared.TextureInitRange.{TextureInitRange}
use Rattle.rule_init_ranges.specs.declared.BufferInitRange.{BufferInitRange}
use Rattle.slices.specs.Put.{Put}
use Rattle.sheet_text.specs.Text.{spaced, line_text}
use Rattle.slices.proofs.Puts.{put_none, put_as, put_then, put_length}
use Rattle.sheet_text.proofs.Puts.{spaced_few, line_few}
use Rattle.plan_rows.specs.Rows.{buffer_copy_numbers, buffer_texture_copy_numbers, texture_copy_numbers, texture_range_numbers, buffer_range_numbers, refusal_numbers}
use Rattle.plan_kinds.specs.declared.Plan.{Plan}
use Rattle.plan_kinds.specs.declared.Plan.TheVariants.{Buffers, BufferTexture, Textures}
use Rattle.copy_kinds.specs.declared.InitRange.{InitRange}
use Rattle.copy_kinds.specs.declared.InitRange.TheVariants.{Texture, Buffer}
use Rattle.copy_kinds.specs.declared.Ranges.{Ranges}
use Rattle.plan_asked.specs.declared.Asked.{Asked}
use Rattle.copy_kinds.specs.Ranges.{range_at, count_of}
use Rattle.plan_kinds.specs.Regions.{left_of, checked_bytes_of, next_numbers, region_numbers, behind_of, next_of}
use Rattle.sheet_lines.specs.Lines.{sheet_word, texture_word, buffer_word, ok_word, refused_word, region_word, sheet_text, range_text, ranges_text, copy_text, plan_text, refusal_text, answer_text, region_text}

-- ---- counts of numbers

pub texture_range_count : (i : ℕ) (r : TextureInitRange) → length (texture_range_numbers i r) ≡ 5
unfolding texture_range_numbers
texture_range_count i r = refl

pub buffer_range_count : (i : ℕ) (r : BufferInitRange) → length (buffer_range_numbers i r) ≡ 4
unfolding buffer_range_numbers
buffer_range_count i r = refl

pub refusal_count : (why : TransferError) → length (refusal_numbers why) ≡ 6
unfolding refusal_numbers
refusal_count why = refl

few : {T : Type 0} (f : T → List ℕ) (o : Option T) → ((x : T) → length (f x) ≤ 15) → length (unwrap_or (option_map f o) []) ≤ 15
few f (Some x) h = h x
few f None h = omega arith

pub numbers_few : (p : Plan) → length (region_numbers p) ≤ 15
unfolding region_numbers next_numbers buffer_copy_numbers buffer_texture_copy_numbers texture_copy_numbers
numbers_few (Buffers p) = few buffer_copy_numbers _ (λ r. omega arith)
numbers_few (BufferTexture p) = few buffer_texture_copy_numbers _ (λ r. omega arith)
numbers_few (Textures p) = few texture_copy_numbers _ (λ r. omega arith)

pub asked_numbers : (p : Plan) (a : Asked (List ℕ) Plan) → a ≡ next_of p → unwrap_or a.answer [] ≡ region_numbers p
unfolding next_of region_numbers
asked_numbers p a e = ap (λ (q : Asked (List ℕ) Plan). unwrap_or q.answer []) e

pub asked_plan : (p : Plan) (a : Asked (List ℕ) Plan) → a ≡ next_of p → a.plan ≡ behind_of p
unfolding next_of
asked_plan p a e = ap (λ (q : Asked (List ℕ) Plan). q.plan) e

pub region_fits : (p : Plan) → 1 + (21 * length (region_numbers p) + 1) ≤ 1024
region_fits p = omega (arith, numbers_few p)

-- ---- lengths

pub range_few : (slot : Option InitRange) → length (range_text slot) ≤ 107
unfolding range_text
range_few (Some (Texture i r)) = omega (arith, line_few texture_word false (texture_range_numbers i r), texture_range_count i r)
range_few (Some (Buffer i r)) = omega (arith, line_few buffer_word false (buffer_range_numbers i r), buffer_range_count i r)
range_few None = omega arith

pub copy_few : (k : ℕ) → length (copy_text k) ≤ 25
unfolding copy_text
copy_few k = rw (length-append (99 ∷ 111 ∷ 112 ∷ 121 ∷ []) (spaced false (k ∷ []))) (omega (arith, spaced_few false (k ∷ [])))

pub refusal_few : (k : ℕ) (why : TransferError) → length (refusal_text k why) ≤ 1024
unfolding refusal_text
refusal_few k why =
    omega (arith, length-append (copy_text k) (line_text refused_word false (refusal_numbers why)), copy_few k, line_few refused_word false (refusal_numbers why), refusal_count why)

-- ---- lines one after the other

-- the lines of the slots from the i-th on
pub texts : List (Option InitRange) → List ℕ
texts [] = []
texts (slot ∷ ss) = range_text slot ++ texts ss

module _ (l₀ l : List ℕ) (at next : ℕ) (ss : List (Option InitRange)) (i : ℕ) where
  pub record Underway : Type 0 where
    pub room : next + 128 * (4 - i) ≤ length l
    pub same : length l ≡ length l₀
    pub rest : (m : List ℕ) (r : ℕ) → Put l m next (texts (drop i ss)) r → Put l₀ m at (texts ss) r

texts_on : (ss : List (Option InitRange)) (i : ℕ) → i < length ss → texts (drop i ss) ≡ range_text (get_or ss i None) ++ texts (drop (i + 1) ss)
unfolding texts
texts_on ss i h = rw (drop-cons ss i None h, add-one i)

texts_end : (ss : List (Option InitRange)) (i : ℕ) → length ss ≤ i → texts (drop i ss) ≡ []
unfolding texts
texts_end ss i h = rw (drop_of_length-le ss h)

pub underway_on :
    (l₀ l m : List ℕ) (at next : ℕ) (ss : List (Option InitRange)) (i r : ℕ) → Underway l₀ l at next ss i → length ss ≡ 4 → i < 4
    → Put l m next (range_text (get_or ss i None)) r → Underway l₀ m at r ss (i + 1)
underway_on l₀ l m at next ss i r u four h p =
    record {
      room = omega (arith, p.next, put_length p, u.room, range_few (get_or ss i None));
      same = put_length p ∙ u.same;
      rest = λ m' r' q. u.rest m' r' (put_as (put_then p q) (sym (texts_on ss i (omega (arith, four)))));
    }

pub underway_end : (l₀ l : List ℕ) (at next : ℕ) (ss : List (Option InitRange)) (i : ℕ) → Underway l₀ l at next ss i → length ss ≡ 4 → 4 ≤ i → Put l₀ l at (texts ss) next
underway_end l₀ l at next ss i u four h = u.rest l next (put_as (put_none l next) (sym (texts_end ss i (omega (arith, four)))))

pub texts_all : (r : Ranges) → length r.slots ≡ 4 → texts r.slots ≡ ranges_text r
unfolding texts ranges_text
texts_all r h = by r.slots h
  where
    by : (ss : List (Option InitRange)) → length ss ≡ 4 → texts ss ≡ range_text (get_or ss 0 None) ++ (range_text (get_or ss 1 None) ++ (range_text (get_or ss 2 None) ++ range_text (get_or ss 3 None)))
    by [] e = absurd (omega arith)
    by (a ∷ []) e = absurd (omega arith)
    by (a ∷ b ∷ []) e = absurd (omega arith)
    by (a ∷ b ∷ c ∷ []) e = absurd (omega arith)
    by (a ∷ b ∷ c ∷ d ∷ []) e = rw (append-nil (range_text d)) refl
    by (a ∷ b ∷ c ∷ d ∷ x ∷ xs) e = absurd (omega arith)

pub plan_put :
    {l m n o : List ℕ} {at a b q : ℕ} (k : ℕ) (p : Plan) (r : Ranges) (x y z : ℕ) → Put l m at (copy_text k) a
    → Put m n a (line_text ok_word false (x ∷ y ∷ z ∷ [])) b → Put n o b (ranges_text r) q
    → x ≡ left_of p → y ≡ count_of r → z ≡ checked_bytes_of p → Put l o at (plan_text k p r) q
unfolding plan_text
plan_put k p r x y z c h g ex ey ez = put_then c (rw (← ex, ← ey, ← ez) (put_then h g))

-- ---- no piece is longer than a piece's room, and none is empty

pub sheet_few : (n : ℕ) → length (sheet_text n) ≤ 1024
unfolding sheet_text
sheet_few n = omega (arith, line_few sheet_word false (n ∷ []))

pub region_few : (p : Plan) → length (region_text p) ≤ 1024
unfolding region_text
region_few p = omega (arith, line_few region_word true (region_numbers p), numbers_few p)

ranges_few : (r : Ranges) → length (ranges_text r) ≤ 428
unfolding ranges_text
ranges_few r =
    let a = length-append (range_text (range_at r 0)) (range_text (range_at r 1) ++ (range_text (range_at r 2) ++ range_text (range_at r 3))) in
    let b = length-append (range_text (range_at r 1)) (range_text (range_at r 2) ++ range_text (range_at r 3)) in
    let c = length-append (range_text (range_at r 2)) (range_text (range_at r 3)) in
    omega (arith, a, b, c, range_few (range_at r 0), range_few (range_at r 1), range_few (range_at r 2), range_few (range_at r 3))

pub answer_few : (k : ℕ) (a : Result (Plan × Ranges) TransferError) → length (answer_text k a) ≤ 1024
unfolding answer_text plan_text refusal_text
answer_few k (Ok (p, r)) =
    let line = line_text ok_word false (left_of p ∷ count_of r ∷ checked_bytes_of p ∷ []) in
    omega (arith, length-append (copy_text k) (line ++ ranges_text r), length-append line (ranges_text r), copy_few k, line_few ok_word false (left_of p ∷ count_of r ∷ checked_bytes_of p ∷ []), ranges_few r)
answer_few k (Err why) =
    omega (arith, length-append (copy_text k) (line_text refused_word false (refusal_numbers why)), copy_few k, line_few refused_word false (refusal_numbers why), refusal_count why)

line_some : (w : List ℕ) (d : Bool) (ns : List ℕ) → 0 < length (line_text w d ns)
unfolding line_text
line_some w d ns = rw (length-append w (spaced d ns ++ (10 ∷ [])), length-append (spaced d ns) (10 ∷ [])) (omega arith)

pub sheet_some : (n : ℕ) → 0 < length (sheet_text n)
unfolding sheet_text
sheet_some n = line_some _ _ _

pub region_some : (p : Plan) → 0 < length (region_text p)
unfolding region_text
region_some p = line_some _ _ _

pub answer_some : (k : ℕ) (a : Result (Plan × Ranges) TransferError) → 0 < length (answer_text k a)
unfolding answer_text plan_text refusal_text
answer_some k (Ok (p, r)) =
    let line = line_text ok_word false (left_of p ∷ count_of r ∷ checked_bytes_of p ∷ []) in
    omega (arith, length-append (copy_text k) (line ++ ranges_text r), length-append line (ranges_text r), line_some ok_word false (left_of p ∷ count_of r ∷ checked_bytes_of p ∷ []))
answer_some k (Err why) =
    omega (arith, length-append (copy_text k) (line_text refused_word false (refusal_numbers why)), line_some refused_word false (refusal_numbers why))
