-- Texts that are written part by part.
-- Assumes nothing.
use mathlib.Core.Path.{◌≡◌, refl, sym, ap, subst, ◌∙◌}
use mathlib.Core.Bool.{Bool, true, false, not, false≢true}
use mathlib.Core.List.{List, [], ◌++◌, append_assoc, append-nil}
use Prim.Native.Nat.{ℕ}
use borrow.Author.Tests.{not-true}
use lib.ListN.{length, take, drop, take-append-drop}
use Rattle.sheet_io.specs.Progress.{place_of, has_failed}
use Rattle.sheet_io.proofs.OutputProofs.{output_laws}
use Rattle.sheet_calls.specs.Calls.{Sends}
use Rattle.sheet_calls.specs.Delivery.{Delivers, all, stop, on, Delivered, Written, EveryDelivery}

-- ---- what was taken

not_failed : (b : Bool) → true ≡ not b → b ≡ false
not_failed b e = not-true b (sym e)

written : {text taken : List ℕ} {whole : Bool} → Delivers text taken whole → Written text taken whole
written all = record { rest = []; front = refl; all = λ z. refl }
written (stop {text = text} rest left o) =
    let w = output_laws.output text o.taken o.last o.writes in
    let k = place_of (length text) o.last in
    record {
      rest = drop k text ++ rest;
      front = left ∙ ap (λ (l : List ℕ). l ++ rest) (sym (take-append-drop k text)) ∙ append_assoc (take k text) (drop k text) rest ∙ ap (λ (l : List ℕ). l ++ (drop k text ++ rest)) (sym w.front);
      all = λ z. absurd (false≢true z);
    }
written (on {text = text} {rest = rest} {taken = taken} {whole = whole} left o d) =
    let w = (output_laws.output text o.taken o.last o.writes).whole o.ended (not_failed (has_failed o.last.stage) o.told) in
    let f = written d in
    record {
      rest = f.rest;
      front = left ∙ ap (λ (l : List ℕ). text ++ l) f.front ∙ ap (λ (l : List ℕ). l ++ (taken ++ f.rest)) (sym w) ∙ sym (append_assoc o.taken taken f.rest);
      all = λ z. ap (λ (l : List ℕ). l ++ taken) w ∙ ap (λ (l : List ℕ). text ++ l) (f.all z) ∙ sym left;
    }

pub every_delivery : EveryDelivery
every_delivery text whole d = written d.delivers

-- ---- one after another

-- whatever follows what is left, it follows what was written of all
pub record Onto (all_of left : List ℕ) : Type 0 where
  pub onto : (taken : List ℕ) (whole : Bool) → Delivers left taken whole → Delivered all_of whole

pub onto_start : (text : List ℕ) → Onto text text
onto_start text = record { onto = λ taken whole d. record { taken = taken; delivers = d } }

pub onto_same : (all_of left : List ℕ) → left ≡ all_of → Onto all_of left
onto_same all_of left e = subst (λ (l : List ℕ). Onto all_of l) (sym e) (onto_start all_of)

module _ {all_of left : List ℕ} (i : Onto all_of left) where
  pub onto_end : left ≡ [] → Delivered all_of true
  onto_end e = i.onto [] true (subst (λ (l : List ℕ). Delivers l [] true) (sym e) all)

  module _ (text rest : List ℕ) (e : left ≡ text ++ rest) where
    pub onto_stop : Sends text false → Delivered all_of false
    onto_stop o = i.onto o.taken false (stop rest e o)

    pub onto_on : Sends text true → Onto all_of rest
    onto_on o = record { onto = λ taken whole d. i.onto (o.taken ++ taken) whole (on e o d) }

-- ---- two texts

then_on : {a ta : List ℕ} {w : Bool} (b : List ℕ) → Delivers a ta w → w ≡ true → (tb : List ℕ) (whole : Bool) → Delivers b tb whole → Delivers (a ++ b) (ta ++ tb) whole
then_on b all e tb whole d = d
then_on b (stop rest left o) e tb whole d = absurd (false≢true e)
then_on b (on {left = l} {text = text} {rest = rest} {taken = taken} left o more) e tb whole d =
    subst (λ (t : List ℕ). Delivers (l ++ b) t whole) (sym (append_assoc o.taken taken tb)) (on (ap (λ (t : List ℕ). t ++ b) left ∙ append_assoc text rest b) o (then_on b more e tb whole d))

then_stop : {a ta : List ℕ} {w : Bool} (b : List ℕ) → Delivers a ta w → w ≡ false → Delivers (a ++ b) ta w
then_stop b all e = absurd (false≢true (sym e))
then_stop b (stop {text = text} rest left o) e = stop (rest ++ b) (ap (λ (l : List ℕ). l ++ b) left ∙ append_assoc text rest b) o
then_stop b (on {text = text} {rest = rest} left o more) e = on (ap (λ (l : List ℕ). l ++ b) left ∙ append_assoc text rest b) o (then_stop b more e)

module _ (a b : List ℕ) where
  pub delivered_then : {whole : Bool} → Delivered a true → Delivered b whole → Delivered (a ++ b) whole
  delivered_then {whole} p q = record { taken = p.taken ++ q.taken; delivers = then_on b p.delivers refl q.taken whole q.delivers }

  pub delivered_stop : Delivered a false → Delivered (a ++ b) false
  delivered_stop p = record { taken = p.taken; delivers = then_stop b p.delivers refl }

-- one part is a text
pub delivered_one : (text : List ℕ) (whole : Bool) → Sends text whole → Delivered text whole
delivered_one text true o = record { taken = o.taken ++ []; delivers = on (sym (append-nil text)) o all }
delivered_one text false o = record { taken = o.taken; delivers = stop [] (sym (append-nil text)) o }
