-- How a listing is compared part by part, and a list is replayed item by item.
-- Assumes nothing.
use mathlib.Core.Path.{◌≡◌, sym, ap, subst, ◌∙◌}
use mathlib.Core.Bool.{Bool, true, false, ◌&&◌}
use mathlib.Core.List.{List}
use Prim.Native.Nat.{ℕ, ◌+◌, ◌-◌, ◌≤◌, ◌<◌}
use native.Mathlib.Omega.{arith}
use lib.Dec.{eqb}
use lib.ListN.{length, take, drop, length-append, length-drop}
use Rattle.conditions.specs.Conditions.{pick}
use Rattle.slices.proofs.Puts.{put_take, put_length}
use Rattle.sheet_listing.specs.Listing.{Fills, Ends}
use Rattle.std.proofs.lemmas.List.{drop-drop}
use Rattle.std.specs.Prelude.{Some, None, Result, Ok, Err}
use Rattle.sheet_replay.specs.declared.Counts.{Counts}
use Rattle.sheet_replay.specs.declared.IllItem.{IllItem}
use Rattle.sheet_replay.specs.declared.Item.{Item}
use Rattle.sheet_replay.specs.Replay.{starts, same, Compares, Differs, differs, end_line, head_of, sheet_in, recorded_in, Replays, ended, broken, replayed}
use Rattle.sheet_replay.proofs.Bytes.{same_parts, starts_inside, same_none, take_rest}
use Rattle.sheet_replay.proofs.Items.{head_inside}

-- ---- one part

pub compares :
    (l m before after recorded : List ℕ) (count : ℕ) (agrees : Bool) → length l ≡ 65536
    → Fills l m count before after → count ≤ length m → Ends (length l) count before → agrees ≡ starts (take count m) recorded
    → Compares before after recorded count agrees
compares l m before after recorded count agrees room f h e is =
    let k : 0 + length f.text ≤ length l = omega (arith, f.put.next, put_length f.put) in
    record {
      text = f.text;
      left = f.left;
      counted = f.put.next ∙ omega arith;
      is = is ∙ ap (λ (t : List ℕ). starts t recorded) (put_take f.put k);
      ends = e (omega arith);
    }

-- ---- all parts

-- what is left of the listing and of the record agree just where the whole does
pub record Comparing (whole left recorded : List ℕ) (at : ℕ) : Type 0 where
  pub inside : at ≤ length recorded
  pub same_left : same left (drop at recorded) ≡ same whole recorded

pub comparing_starts : (whole recorded : List ℕ) (left : List ℕ) → left ≡ whole → Comparing whole left recorded 0
comparing_starts whole recorded left e = record { inside = omega arith; same_left = rw e }

module _ {whole left recorded : List ℕ} {at : ℕ} (c : Comparing whole left recorded at) where
  module _ {after : List ℕ} {count : ℕ} {agrees : Bool} (given : Compares left after (take (length recorded - at) (drop at recorded)) count agrees) where
    p : Compares left after (drop at recorded) count agrees
    p = subst (λ (t : List ℕ). Compares left after t count agrees) (take_rest recorded at) given

    parted : same whole recorded ≡ (agrees && same after (drop (at + count) recorded))
    parted =
        sym c.same_left
        ∙ ap (λ (t : List ℕ). same t (drop at recorded)) p.left
        ∙ same_parts p.text after (drop at recorded)
        ∙ rw (← p.is, ← p.counted, drop-drop count at recorded)

  pub comparing_off : Differs left (take (length recorded - at) (drop at recorded)) → false ≡ same whole recorded
  comparing_off d = sym (parted d.compared)

  module _ {after : List ℕ} {count : ℕ} (given : Compares left after (take (length recorded - at) (drop at recorded)) count true) where
    pub comparing_inside : at + count ≤ length recorded
    comparing_inside =
        let q = p given in
        let k = starts_inside q.text (drop at recorded) (sym q.is) in
        omega (arith, q.counted, length-drop at recorded, c.inside)

    pub comparing_on : Comparing whole after recorded (at + count)
    comparing_on = record { inside = comparing_inside; same_left = sym (parted given) }

    pub comparing_ends : count ≡ 0 → eqb at (length recorded) ≡ same whole recorded
    comparing_ends z = same_none recorded at c.inside ∙ ap (λ (t : List ℕ). same t (drop at recorded)) (sym (given.ends z)) ∙ c.same_left

    pub comparing_less : (count ≡ 0 → ⊥) → length after < length left
    comparing_less n = omega (arith, ap length given.left, length-append given.text after, given.counted)

-- ---- item by item

-- what the rest of the list gives, the whole gives
pub record Replaying (s l : List ℕ) (items differ : ℕ) : Type 0 where
  pub few : items + length l ≤ length s
  pub fewer : differ ≤ items
  pub rest : (v : Result Counts IllItem) → Replays l items differ v → Replays s 0 0 v

pub replaying_starts : (s : List ℕ) → Replaying s s 0 0
replaying_starts s = record { few = omega arith; fewer = omega arith; rest = λ v r. r }

module _ {s l : List ℕ} {items differ : ℕ} (r : Replaying s l items differ) where
  pub replaying_ends : true ≡ same end_line l → Replays s 0 0 (Ok (record { items = items; differ = differ })) × (items ≤ length s)
  replaying_ends e = (r.rest _ (ended (sym e)), omega (arith, r.few))

  module _ (goes_on : false ≡ same end_line l) where
    pub replaying_breaks : None ≡ head_of l → Replays s 0 0 (Err (record { before = record { items = items; differ = differ } })) × (items ≤ length s)
    replaying_breaks e = (r.rest _ (broken (sym goes_on) (sym e)), omega (arith, r.few))

    pub replaying_on :
        (i : Item) → Some i ≡ head_of l → (d : Bool) → d ≡ differs (sheet_in l i) (recorded_in l i)
        → Replaying s (take (length l - i.next) (drop i.next l)) (items + 1) (pick d (differ + 1) differ)
    replaying_on i e d f =
        let k = head_inside l i (sym e) in
        rw (take_rest l i.next)
        (record {
          few = omega (arith, r.few, k.behind, k.sheet, k.text, k.end, length-drop i.next l);
          fewer = fewer_on d;
          rest = λ v q. r.rest v (replayed (sym goes_on) (sym e) (subst (λ (t : Bool). Replays (drop i.next l) (items + 1) (pick t (differ + 1) differ) v) f q));
        })
      where
        fewer_on : (d : Bool) → pick d (differ + 1) differ ≤ items + 1
        fewer_on true = omega (arith, r.fewer)
        fewer_on false = omega (arith, r.fewer)

pub rest_less : (l : List ℕ) (i : Item) → Some i ≡ head_of l → length (take (length l - i.next) (drop i.next l)) < length l
rest_less l i e =
    let k = head_inside l i (sym e) in
    rw (take_rest l i.next) (omega (arith, length-drop i.next l, k.behind, k.sheet, k.text, k.end))
