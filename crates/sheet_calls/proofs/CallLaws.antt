-- Bytes that are written call by call.
-- Assumes nothing.
use mathlib.Core.Path.{◌≡◌, sym, ap, ◌∙◌}
use mathlib.Core.Bool.{Bool, true, false, not}
use mathlib.Core.List.{List, []}
use Prim.Native.Nat.{ℕ, ◌≤◌, ◌<◌}
use native.Mathlib.Omega.{arith}
use lib.ListN.{length}
use borrow.Rule.Slice.PartMut.{mid_of, put_mid, same_len_mid}
use Rattle.std.specs.Prelude.{is_ok}
use Rattle.sheet_calls.specs.declared.Received.{Received}
use Rattle.sheet_io.specs.declared.Progress.{Progress}
use Rattle.sheet_io.specs.Progress.{written_of, got_of, has_failed, start_of, goes_on, place_of}
use Rattle.sheet_io.specs.Output.{Writes, none, call, calls_left}
use Rattle.sheet_io.proofs.OutputProofs.{output_laws}
use Rattle.sheet_calls.specs.Calls as R
use Rattle.sheet_calls.specs.Calls.{Wrote, Got, Sends, Receives}

-- calls from the start came this far
pub record Reached (bytes : List ℕ) (q : Progress) : Type 0 where
  pub taken : List ℕ
  pub writes : Writes bytes (start_of (length bytes)) taken q

-- whatever calls follow, they follow others that began at the start
pub record Sending (bytes : List ℕ) (p : Progress) : Type 0 where
  pub left : p.left ≤ length bytes
  pub onto : (taken : List ℕ) (q : Progress) → Writes bytes p taken q → Reached bytes q

module _ (bytes : List ℕ) (p : Progress) where
  module _ (inv : Sending bytes p) where
    pub sending_on : (t : Bool) (r : Progress) → t ≡ goes_on p → t ≡ true → Wrote p r → Sending bytes r
    sending_on t r test go w =
        let fewer = output_laws.fewer p (written_of w.outcome) in
        record {
          left = rw w.after (omega (arith, inv.left, fewer));
          onto = λ taken q ws. inv.onto _ q (call {rest = taken} (sym test ∙ go) w.outcome (rw (← w.after) ws));
        }

    pub sending_ends : (t whole : Bool) → t ≡ goes_on p → t ≡ false → whole ≡ not (has_failed p.stage) → Sends bytes whole
    sending_ends t whole test stop told =
        let r = inv.onto [] p none in
        record { taken = r.taken; last = p; writes = r.writes; ended = sym test ∙ stop; told = told }

module _ (p : Progress) (t : Bool) (r : Progress) (test : t ≡ goes_on p) (go : t ≡ true) where
  pub sending_less : Wrote p r → calls_left r < calls_left p
  sending_less w = rw w.after (output_laws.writes_end p w.outcome (sym test ∙ go))

  pub receiving_less : Got p r → calls_left r < calls_left p
  receiving_less w = rw w.after (output_laws.reads_end p w.outcome (sym test ∙ go))

-- bytes that are read call by call: the room keeps its length, no more of it is left, and whatever calls follow, they follow others that began
-- at the start
pub record Receiving (room₀ room : List ℕ) (p : Progress) : Type 0 where
  pub same : length room ≡ length room₀
  pub left : p.left ≤ length room
  pub onto : (q : Progress) → R.Reads p q → R.Reads (start_of (length room₀)) q

pub receiving_on :
    {room₀ room : List ℕ} {p r : Progress} (from k : ℕ) (got : List ℕ) (t : Bool) → Receiving room₀ room p → t ≡ goes_on p → t ≡ true → Got p r
    → length got ≡ length (mid_of from k room) → Receiving room₀ (put_mid from k room got) r
receiving_on {room₀} {room} {p} {r} from k got t i test go w e =
    let n : length (put_mid from k room got) ≡ length room = same_len_mid from k room got e in
    let fewer : r.left ≤ p.left = rw w.after (output_laws.fewer p (got_of w.outcome)) in
    record {
      same = n ∙ i.same;
      left = omega (arith, i.left);
      onto = λ q ws. i.onto q (R.call (sym test ∙ go) w.outcome (rw (← w.after) ws));
    }

module _ {room₀ room : List ℕ} {p : Progress} (t : Bool) (i : Receiving room₀ room p) (test : t ≡ goes_on p) (stop : t ≡ false) where
  pub received : (r : Received) → r.count ≡ place_of (length room) p → is_ok r.outcome ≡ not (has_failed p.stage) → Receives (length room₀) r
  received r is told =
      record { last = p; reads = i.onto p R.none; ended = sym test ∙ stop; count = is ∙ ap (λ (n : ℕ). place_of n p) i.same; told = told }
