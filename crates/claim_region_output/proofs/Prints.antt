-- The listing prints the regions that asking gives.
-- Assumes nothing.
use Rattle.std.specs.Prelude.{Option, Some, None}
use mathlib.Core.Path.{◌≡◌, refl, sym, ◌∙◌}
use mathlib.Core.Bool.{Bool, true, false, cond}
use mathlib.Core.List.{List, [], ◌∷◌, ◌++◌, map, flat_map, append_assoc, append-nil}
use Prim.Native.Nat.{ℕ, zero, suc, ◌+◌, ◌-◌, ◌/◌, ◌%◌, ◌^◌, ◌<◌}
use native.Mathlib.Omega.{arith}
use borrow.Author.Tests.{ne_eqb}
use lib.Dec.{ltb}
use lib.ListN.{length, take, get_or, length-append}
use Rattle.conditions.specs.Conditions.{pick}
use Rattle.rule_init_ranges.specs.declared.MemoryInitKind.{MemoryInitKind}
use Rattle.rule_init_ranges.specs.declared.MemoryInitKind.TheVariants.{ImplicitlyInitialized, NeedsInitializedMemory}
use Rattle.rule_init_ranges.specs.Init.{kind_number}
use Rattle.plan_rows.specs.Rows.{texture_range_numbers, buffer_range_numbers}
use Rattle.sheet_text.specs.Text.{digits_in, decimal, is_absent, number_text, line_text}
use Rattle.sheet_text.specs.Text as D
use Rattle.plan_kinds.specs.declared.Plan.{Plan}
use Rattle.plan_kinds.specs.declared.Plan.TheVariants.{Buffers, BufferTexture, Textures}
use Rattle.plan_kinds.specs.Regions.{checked_bytes_of as planBytes, region_numbers}
use Rattle.copy_kinds.specs.declared.InitRange.{InitRange}
use Rattle.copy_kinds.specs.declared.InitRange.TheVariants.{Texture, Buffer}
use Rattle.copy_kinds.specs.declared.Ranges.{Ranges}
use Rattle.copy_kinds.specs.Ranges.{range_at, slot_count, count_of}
use Rattle.sheet_lines.specs.Lines.{range_text, ranges_text, copy_text, plan_text, answer_text, region_text}
use Rattle.sheet_listing.specs.Listing.{regions_text, regions_left, plan_answered, copy_answer}
use Rattle.claim_region_output.specs.Asking.{Region, Gives, ended, gave}
use Rattle.claim_region_output.specs.Numbers.{Number, given, absent, numbers, slot, row, Below}
use Rattle.claim_region_output.specs.Text.{text, digits, shown, spaced, line, region_lines, kind, range_line, range_lines, checked_bytes_of, accepted}
use Rattle.claim_region_output.specs.Printed.{Told, EveryPlanPrints}
use Rattle.claim_region_output.proofs.Asks.{handed, its_numbers, counted}

-- ---- numbers

one_digit : (t : Bool) (n : ℕ) (first rest more : List ℕ) → (first ++ ((48 + n % 10) ∷ [])) ++ rest ≡ more → pick t ((48 + n) ∷ []) (first ++ ((48 + n % 10) ∷ [])) ++ rest ≡ cond t ((48 + n) ∷ rest) more
one_digit true n first rest more e = refl
one_digit false n first rest more e = e

digits_before : (f n : ℕ) (rest : List ℕ) → digits_in f n ++ rest ≡ digits f n rest
unfolding digits_in digits
digits_before zero n rest = refl
digits_before (suc f) n rest =
    one_digit (ltb n 10) n (digits_in f (n / 10)) rest (digits f (n / 10) ((48 + n % 10) ∷ rest))
    (append_assoc (digits_in f (n / 10)) ((48 + n % 10) ∷ []) rest ∙ digits_before f (n / 10) ((48 + n % 10) ∷ rest))

decimal_shown : (n : ℕ) → decimal n ≡ shown (given n)
unfolding decimal shown
decimal_shown n = sym (append-nil (digits_in 20 n)) ∙ digits_before 20 n []

-- a number that is not the one for an absent one, or any where none may be absent
given_shown : (dash : Bool) (n : ℕ) → is_absent dash n ≡ false → number_text dash n ≡ shown (given n)
unfolding number_text
given_shown dash n told = rw told (decimal_shown n)

absent_shown : number_text true (2 ^ 64 - 1) ≡ shown absent
unfolding number_text is_absent shown text
absent_shown = refl

told : (ns : List Number) → Below (2 ^ 64 - 1) ns → D.spaced true (map slot ns) ≡ spaced ns
unfolding D.spaced spaced flat_map text is_absent slot
told [] h = refl
told (given n ∷ ns) h = rw (given_shown true n (other n h.0), told ns h.1)
  where
    other : (n : ℕ) → n < 2 ^ 64 - 1 → is_absent true n ≡ false
    other n less = ne_eqb n (2 ^ 64 - 1) (λ e. omega (arith, e, less))
told (absent ∷ ns) h = rw (absent_shown, told ns h)

pub plain : (ns : List ℕ) → D.spaced false ns ≡ spaced (map given ns)
unfolding D.spaced spaced flat_map text is_absent
plain [] = refl
plain (n ∷ ns) = rw (given_shown false n refl, plain ns)

-- ---- regions

region_line : (p : Plan) (r : Region) → region_numbers p ≡ row r → Below (2 ^ 64 - 1) (numbers r) → region_text p ≡ line "r" (numbers r)
unfolding region_text line_text line text row
region_line p r e h = rw (e, told (numbers r) h)

region_lines_lem : {p : Plan} {rs : List Region} → Gives p rs → Told rs → regions_text (length rs) p ≡ region_lines rs
unfolding regions_text region_lines flat_map
region_lines_lem (ended e f) h = refl
region_lines_lem {p} (gave {r = r} e g) h = rw (region_line p r (its_numbers p r e) h.0, ← handed p, region_lines_lem g h.1)

-- ---- ranges

kind_same : (k : MemoryInitKind) → kind_number k ≡ kind k
unfolding kind_number kind
kind_same ImplicitlyInitialized = refl
kind_same NeedsInitializedMemory = refl

-- lines one after the other
abbrev joined : List (List ℕ) → List ℕ
joined ls = flat_map (λ (l : List ℕ). l) ls

joined_both : (ks ls : List (List ℕ)) → joined (ks ++ ls) ≡ joined ks ++ joined ls
unfolding flat_map
joined_both [] ls = refl
joined_both (k ∷ ks) ls = rw (joined_both ks ls) (sym (append_assoc k (joined ks) (joined ls)))

range_line_lem : (slot : Option InitRange) → (range_text slot ≡ joined (range_line slot)) × (slot_count slot ≡ length (range_line slot))
unfolding range_text range_line slot_count line_text line text texture_range_numbers buffer_range_numbers flat_map
range_line_lem (Some (Texture i r)) = rw (append-nil, kind_same r.kind, plain) (refl, refl)
range_line_lem (Some (Buffer i r)) = rw (append-nil, kind_same r.kind, plain) (refl, refl)
range_line_lem None = (refl, refl)

-- the four slots, each by its place
by_place : (ss : List (Option InitRange)) → flat_map range_line (take 4 ss) ≡ flat_map (λ (k : ℕ). range_line (get_or ss k None)) (0 ∷ 1 ∷ 2 ∷ 3 ∷ [])
unfolding flat_map range_line
by_place [] = refl
by_place (a ∷ []) = refl
by_place (a ∷ b ∷ []) = refl
by_place (a ∷ b ∷ c ∷ []) = refl
by_place (a ∷ b ∷ c ∷ d ∷ more) = refl

module _ (r : Ranges) where
  range_lines_lem : ranges_text r ≡ joined (range_lines r)
  unfolding ranges_text flat_map
  range_lines_lem =
      rw (by_place r.slots, (range_line_lem (range_at r 0)).0, (range_line_lem (range_at r 1)).0, (range_line_lem (range_at r 2)).0, (range_line_lem (range_at r 3)).0, joined_both (range_line (range_at r 0)), joined_both (range_line (range_at r 1)), joined_both (range_line (range_at r 2)), append-nil (range_line (range_at r 3)))

  range_count : count_of r ≡ length (range_lines r)
  unfolding count_of flat_map
  range_count =
      rw (by_place r.slots, append-nil (range_line (range_at r 3)), length-append (range_line (range_at r 0)), length-append (range_line (range_at r 1)), length-append (range_line (range_at r 2)))
      (omega (arith, (range_line_lem (range_at r 0)).1, (range_line_lem (range_at r 1)).1, (range_line_lem (range_at r 2)).1, (range_line_lem (range_at r 3)).1))

-- ---- a copy

bytes_same : (p : Plan) → planBytes p ≡ checked_bytes_of p
unfolding planBytes checked_bytes_of
bytes_same (Buffers p) = refl
bytes_same (BufferTexture p) = refl
bytes_same (Textures p) = refl

in_turn : (a b c d e : List ℕ) → ((a ++ b) ++ (c ++ d)) ++ e ≡ a ++ (b ++ (c ++ (d ++ e)))
in_turn a b c d e = simp append_assoc

pub every_plan_prints : EveryPlanPrints
unfolding copy_answer answer_text plan_text copy_text plan_answered regions_left accepted line line_text text
every_plan_prints p rs g h k r =
    rw (counted g, bytes_same p, range_count r, range_lines_lem r, region_lines_lem g h, plain (k ∷ []), plain (length rs ∷ length (range_lines r) ∷ checked_bytes_of p ∷ []))
    (in_turn (text "copy") (spaced (given k ∷ [])) (line " ok" (given (length rs) ∷ given (length (range_lines r)) ∷ given (checked_bytes_of p) ∷ [])) (joined (range_lines r)) (region_lines rs))
