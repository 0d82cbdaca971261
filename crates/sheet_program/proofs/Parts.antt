-- A listing that is written part by part.
-- Assumes nothing.
use mathlib.Core.Path.{◌≡◌, ap, subst, ◌∙◌}
use mathlib.Core.Bool.{Bool, true, false}
use mathlib.Core.List.{List, [], ◌++◌}
use Prim.Native.Nat.{ℕ, ◌+◌, ◌≤◌, ◌<◌}
use native.Mathlib.Omega.{arith}
use native.Mathlib.Nat.{pos_of_ne-zero}
use lib.ListN.{length, take, length-append}
use Rattle.std.specs.Prelude.{Result, Ok, Err, IsErr, IfOk, OnErr, is_ok}
use Rattle.sheet_calls.specs.declared.Error.{Error}
use Rattle.sheet_lines.specs.Lines.{piece_bytes}
use Rattle.slices.proofs.Puts.{put_take, put_length}
use Rattle.sheet_listing.specs.declared.Listing.{Listing}
use Rattle.sheet_listing.specs.Listing.{rest_of, listing_of, Fills, Ends}
use Rattle.sheet_calls.specs.Calls.{Sends}
use Rattle.sheet_calls.specs.Delivery.{Delivered}
use Rattle.sheet_calls.proofs.WrittenParts.{Onto, onto_same, onto_end, onto_stop, onto_on}
use Rattle.sheet_outcome.specs.declared.Outcome.{Outcome}
use Rattle.sheet_outcome.specs.declared.Outcome.TheVariants.{Accepted, Refused, Ill}
use Rattle.sheet_program.specs.declared.Status.{Status}
use Rattle.sheet_program.specs.declared.Status.TheVariants.{Listed, NotWritten, NotRead}
use Rattle.sheet_outcome.specs.Outcome.{status_of}
use Rattle.sheet_program.specs.declared.Report.{Report}
use Rattle.sheet_program.specs.Program.{report_text, report_outcome, number_of, StatusFor, no_heading, no_report, listed}

-- ---- one part

-- the next part of a listing was written; it is empty only where nothing is left
pub record PartSent (s : List ℕ) (st next : Listing) (n : ℕ) (whole : Bool) : Type 0 where
  pub text : List ℕ
  pub left : rest_of s st ≡ text ++ rest_of s next
  pub count : n ≡ length text
  pub sent : Sends text whole
  pub none : n ≡ 0 → rest_of s st ≡ []

-- what filling a buffer says of it
abbrev pub FilledWith : List ℕ → Listing → Listing → List ℕ → List ℕ → ℕ → Type 0
FilledWith s st next l m n = Fills l m n (rest_of s st) (rest_of s next) × ((n ≤ length m) × Ends (length l) n (rest_of s st))

pub part_sent :
    {s : List ℕ} {st next : Listing} {l m : List ℕ} {n : ℕ} {whole : Bool} → piece_bytes ≤ length l → FilledWith s st next l m n → Sends (take n m) whole
    → PartSent s st next n whole
part_sent {s} {st} {next} {l} {m} {n} {whole} room h sent =
    let f = h.0 in
    let c : n ≡ length f.text = f.put.next ∙ omega arith in
    let fits : 0 + length f.text ≤ length l = omega (arith, c, h.1.0, put_length f.put) in
    let e : take n m ≡ f.text = put_take f.put fits in
    record { text = f.text; left = f.left; count = c; sent = subst (λ (t : List ℕ). Sends t whole) e sent; none = h.1.1 room }

part_less : {s : List ℕ} {st next : Listing} {n : ℕ} {whole : Bool} → PartSent s st next n whole → (n ≡ 0 → ⊥) → length (rest_of s next) < length (rest_of s st)
part_less {s} {st} {next} part some =
    let k : length (rest_of s st) ≡ length part.text + length (rest_of s next) =
    ap (λ (l : List ℕ). length l) part.left ∙ length-append part.text (rest_of s next) in
    omega (arith, k, part.count, pos_of_ne-zero some)

-- ---- a turn of the loop, over a buffer that has room for a piece

pub record ListingOn (s : List ℕ) (st : Listing) : Type 0 where
  pub goes : Onto (listing_of s) (rest_of s st)

pub listing_start : (s : List ℕ) (st : Listing) → rest_of s st ≡ listing_of s → ListingOn s st
listing_start s st e = record { goes = onto_same (listing_of s) (rest_of s st) e }

module _ {s l m : List ℕ} {st : Listing} (next : Listing) {n : ℕ} (i : ListingOn s st) (filled : FilledWith s st next l m n) (room : piece_bytes ≤ length l) where
  pub turn_stops : Sends (take n m) false → Delivered (listing_of s) false
  turn_stops sent = let part = part_sent room filled sent in onto_stop i.goes part.text (rest_of s next) part.left part.sent

  module _ (sent : Sends (take n m) true) where
    pub turn_ends : n ≡ 0 → Delivered (listing_of s) true
    turn_ends e = onto_end i.goes ((part_sent room filled sent).none e)

    pub turn_less : (n ≡ 0 → ⊥) → length (rest_of s next) < length (rest_of s st)
    turn_less some = part_less (part_sent room filled sent) some

    pub turn_goes_on : ListingOn s next
    turn_goes_on = let part = part_sent room filled sent in record { goes = onto_on i.goes part.text (rest_of s next) part.left part.sent }

-- ---- what was written is whole just where no error is answered

pub delivered_err : {text : List ℕ} {A : Type 0} (r : Result A Error) → IsErr r → Delivered text false → Delivered text (is_ok r)
delivered_err (Ok a) is l = cc
delivered_err (Err e) is l = l

-- ---- the status

module _ (report : Report) (s heading : List ℕ) where
  pub unheaded : {A : Type 0} (r : Result A Error) → Sends heading false → OnErr r (StatusFor report s heading NotWritten)
  unheaded (Ok a) h = tt
  unheaded (Err e) h = no_heading h

  module _ (h : Sends heading true) where
    pub reported :
        (r : Result Outcome Error) → IfOk r (λ o. (o ≡ report_outcome report s) × Delivered (report_text report s) true)
        → IfOk r (λ o. StatusFor report s heading (Listed o))
    reported (Ok o) w = rw w.0 (listed h w.1)
    reported (Err e) w = tt

    pub unreported : (r : Result Outcome Error) → OnErr r (Delivered (report_text report s) false) → OnErr r (StatusFor report s heading NotWritten)
    unreported (Ok o) b = tt
    unreported (Err e) b = no_report h b

outcome_few : (o : Outcome) → status_of o ≤ 2
unfolding status_of
outcome_few Accepted = omega arith
outcome_few Refused = omega arith
outcome_few Ill = omega arith

pub number_few : (status : Status) → number_of status ≤ 4
unfolding number_of
number_few (Listed o) = omega (arith, outcome_few o)
number_few NotWritten = omega arith
number_few NotRead = omega arith
