-- After a range that ends at layer 4 layer 4 is left, whether the next one begins at it or after it.
-- Assumes nothing.
use Rattle.std.specs.Prelude.{Ok}
use Rattle.std.proofs.lemmas.Bool.{false_from_ne_true}
use mathlib.Core.Path.{◌≡◌, refl, ap, ◌∙◌}
use mathlib.Core.Bool.{false}
use mathlib.Core.List.{List, [], ◌∷◌, ◌++◌}
use mathlib.Core.Logic.{inl, ⊎_elim}
use Prim.Native.Nat.{ℕ, zero, suc, ◌*◌, ◌≤◌, ◌<◌}
use native.Mathlib.Omega.{arith}
use lib.ListN.{length, replicate, length-replicate, drop, get_or}
use Rattle.records.specs.declared.Texture.{Texture}
use Rattle.rule_init_ranges.specs.declared.MemoryInitKind.{MemoryInitKind}
use Rattle.rule_init_ranges.specs.declared.MemoryInitKind.TheVariants.{NeedsInitializedMemory}
use Rattle.rule_init_ranges.specs.declared.TextureInitRange.{TextureInitRange}
use Rattle.book_marks.specs.declared.Book.{Book}
use Rattle.book_marks.specs.Book.{is_filled}
use Rattle.book_marks.specs.Update.{updated}
use Rattle.claim_webgpu_copies.specs.Bounds.{TextureInBounds}
use Rattle.claim_book.specs.History.{History, creation, applied, with_marks, Holds, HeldBy, Marked}
use Rattle.claim_book.specs.Clearing.{Among, Rising, places}
use Rattle.claim_book.specs.Answers.{Inside, unset, needed}
use Rattle.claim_book.specs.Created.{layers_of}
use Rattle.claim_book.specs.LayerFour.{layers, layer_4, lower, upper, two_ranges, Happens, Meets, FourFirst, LayerFour}
use Rattle.claim_book.proofs.Created.{few_layers, every_creation}
use Rattle.claim_book.proofs.Answers.{every_answer}
use Rattle.claim_book.proofs.History.{Kept, kept}
use Rattle.claim_book.proofs.Clearing.{every_clearing}
use Rattle.claim_book.proofs.Filled.{every_filled, levels_few}

unset_of : (mark : ℕ) → (0 < mark → ⊥) → unset mark ≡ 1
unset_of zero h = refl
unset_of (suc mark) h = absurd (h (omega arith))

only_one : (zs : List ℕ) (z : ℕ) → 1 ≡ length zs → Among zs z → zs ≡ z ∷ []
only_one [] z n m = absurd m
only_one (y ∷ []) z n m = ⊎_elim (λ e. ap (λ (k : ℕ). let l : List ℕ = k ∷ [] in l) e) (λ no. absurd no) m
only_one (y ∷ x ∷ zs) z n m = absurd (omega (arith, n))

module _ (t : Texture) (b : Book) (one other : MemoryInitKind) (h : History t b (two_ranges one other)) where
  k : Kept t b (two_ranges one other)
  k = kept t b (two_ranges one other) h

  not_held : HeldBy (two_ranges one other) 0 4 → ⊥
  not_held held =
      ⊎_elim
      (λ (q : Holds (upper other) 0 4). omega (arith, q.from))
      (λ (q : HeldBy (lower one ∷ []) 0 4). ⊎_elim (λ (p : Holds (lower one) 0 4). omega (arith, p.below)) (λ no. absurd no) q)
      held

  not_marked : Marked b 0 4 → ⊥
  not_marked m = not_held ((k.exact 0 4 (omega arith) (omega arith)).0 m)

  enough : (0 < t.mip_level_count) × (8 < layers_of t)
  enough = k.there 0 8 (inl (record { level_is = refl; from = omega arith; below = omega arith }))

  not_filled : is_filled b ≡ false
  not_filled = false_from_ne_true _ (λ e. not_held ((every_filled t b (two_ranges one other) h).filled.0 e 0 4 (record { level_there = enough.0; layer_there = omega (arith, enough.1) })))

  inside : Inside b layer_4
  inside = record {
    levels_few = omega (arith, k.levels, levels_few t b (two_ranges one other) k);
    layers_few = omega (arith, k.layers, (few_layers t k.bounds).1);
    level = omega (arith, k.levels, enough.0);
    rising = omega arith;
    ending = omega (arith, k.layers, enough.1);
  }

  needs_one : needed b layer_4 ≡ 1
  needs_one = omega (arith, unset_of (get_or b.marks 4 0) not_marked)

  one_answered : (out : List ℕ) → 2 ≤ length out → (updated b layer_4 out).answer ≡ Ok 1
  one_answered out fits = (every_answer b layer_4 out).room inside (omega (arith, needs_one, fits)) ∙ ap Ok needs_one

  four_written : (out : List ℕ) → 2 ≤ length out → (updated b layer_4 out).out ≡ 0 ∷ 4 ∷ drop 2 out
  four_written out fits =
      let c = every_clearing.of_textures t b (two_ranges one other) h layer_4 out 1 (one_answered out fits) in
      let among : Among c.zs 4 = (c.needed refl 4).1 (record { level_is = refl; from = omega arith; below = omega arith }, not_held) in
      c.written ∙ ap (λ (zs : List ℕ). places 0 zs ++ drop 2 out) (only_one c.zs 4 c.counted among)

-- ---- adjacent ranges

first_four : (zs : List ℕ) → Rising zs → ((z : ℕ) → Among zs z → 4 ≤ z) → Among zs 4 → (ys : List ℕ) × (zs ≡ 4 ∷ ys)
first_four [] rising low m = absurd m
first_four (y ∷ ys) rising low m =
    let e : y ≡ 4 = ⊎_elim (λ e. e) (λ (q : Among ys 4). let under : y < 4 = rising.0 4 q in let over : 4 ≤ y = low y (inl refl) in absurd (omega arith)) m in
    (ys, ap (λ (z : ℕ). let l : List ℕ = z ∷ ys in l) e)

module _ (t : Texture) (b : Book) (one : MemoryInitKind) (h : History t b (lower one ∷ [])) where
  not_held_once : HeldBy (lower one ∷ []) 0 4 → ⊥
  not_held_once held = ⊎_elim (λ (p : Holds (lower one) 0 4). omega (arith, p.below)) (λ no. absurd no) held

  not_marked_once : Marked b 0 4 → ⊥
  not_marked_once m = not_held_once (((kept t b (lower one ∷ []) h).exact 0 4 (omega arith) (omega arith)).0 m)

  four_first :
      (end : ℕ) (out : List ℕ) (n : ℕ) → 4 < end → (updated b (layers 4 end NeedsInitializedMemory) out).answer ≡ Ok n
      → FourFirst b (layers 4 end NeedsInitializedMemory) out n
  four_first end out n more a =
      let c = every_clearing.of_textures t b (lower one ∷ []) h (layers 4 end NeedsInitializedMemory) out n a in
      let among : Among c.zs 4 = (c.needed refl 4).1 (record { level_is = refl; from = omega arith; below = more }, not_held_once) in
      let z = first_four c.zs c.rising (λ z q. ((c.needed refl z).0 q).0.from) among in
      record {
        some = omega (arith, c.counted, ap (λ (zs : List ℕ). length zs) z.1);
        rest = places 0 z.0 ++ drop (2 * n) out;
        told = c.written ∙ ap (λ (zs : List ℕ). places 0 zs ++ drop (2 * n) out) z.1;
      }

-- ---- it happens

record Next (t : Texture) (r : TextureInitRange) (rs : List TextureInitRange) : Type 0 where
  pub book : Book
  pub history : History t book (r ∷ rs)

next :
    (t : Texture) (b : Book) (rs : List TextureInitRange) → History t b rs → (r : TextureInitRange)
    → r.mip_level < t.mip_level_count → r.layers.start ≤ r.layers.end → r.layers.end ≤ layers_of t → Next t r rs
next t b rs h r level rising ending =
    let k = kept t b rs h in
    let n = needed b r in
    let out : List ℕ = replicate (2 * n) 0 in
    let long : length out ≡ 2 * n = length-replicate {A = ℕ} (2 * n) 0 in
    let i : Inside b r = record {
      levels_few = omega (arith, k.levels, levels_few t b rs k);
      layers_few = omega (arith, k.layers, (few_layers t k.bounds).1);
      level = omega (arith, k.levels, level);
      rising = rising;
      ending = omega (arith, k.layers, ending);
    } in
    record {
      book = with_marks b (updated b r out).marks;
      history = applied b rs h r out n ((every_answer b r out).room i (omega (arith, long)));
    }

happens : (t : Texture) (one other : MemoryInitKind) → TextureInBounds t → 9 ≤ layers_of t → Happens t one other
happens t one other bounds nine =
    let some = bounds.levels in
    let m = every_creation.made t bounds in
    let a = next t m.0 [] (creation m.0 m.1) (lower one) (omega (arith, some)) (omega arith) (omega (arith, nine)) in
    let c = next t a.book (lower one ∷ []) a.history (upper other) (omega (arith, some)) (omega arith) (omega (arith, nine)) in
    record { book = c.book; history = c.history }

meets : (t : Texture) (one : MemoryInitKind) → TextureInBounds t → 8 ≤ layers_of t → Meets t one
meets t one bounds eight =
    let some = bounds.levels in
    let m = every_creation.made t bounds in
    let a = next t m.0 [] (creation m.0 m.1) (lower one) (omega (arith, some)) (omega arith) (omega (arith, eight)) in
    let k = kept t a.book (lower one ∷ []) a.history in
    let r = layers 4 8 NeedsInitializedMemory in
    let n = needed a.book r in
    let long : length (replicate {A = ℕ} (2 * n) 0) ≡ 2 * n = length-replicate {A = ℕ} (2 * n) 0 in
    let i : Inside a.book r = record {
      levels_few = omega (arith, k.levels, levels_few t a.book (lower one ∷ []) k);
      layers_few = omega (arith, k.layers, (few_layers t k.bounds).1);
      level = omega (arith, k.levels, some);
      rising = omega arith;
      ending = omega (arith, k.layers, eight);
    } in
    record { book = a.book; history = a.history; out = replicate (2 * n) 0; n = n; answered = (every_answer a.book r (replicate (2 * n) 0)).room i (omega (arith, long)) }

pub layer_four : LayerFour
layer_four = record {
  happens = λ t one other bounds nine. happens t one other bounds (omega (arith, nine));
  meets = λ t one bounds eight. meets t one bounds (omega (arith, eight));
  adjacent = λ t b one h. record { unmarked = not_marked_once t b one h; first = four_first t b one h };
  left = λ t b one other h.
      record {
        unmarked = not_marked t b one other h;
        unfilled = not_filled t b one other h;
        answered = one_answered t b one other h;
        written = four_written t b one other h;
      };
}
