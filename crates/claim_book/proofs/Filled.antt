-- What a book says is written was written, and it is filled when all is.
-- Assumes nothing.
use Rattle.std.specs.Prelude.{◌↔◌}
use Rattle.std.specs.List.{range_with_len, list_all}
use mathlib.Core.Path.{◌≡◌, refl}
use mathlib.Core.Bool.{true, not}
use mathlib.Core.List.{List, [], ◌∷◌}
use Prim.Native.Nat.{ℕ, zero, suc, ◌+◌, ◌*◌, ◌≤◌, ◌<◌}
use native.Mathlib.Omega.{arith}
use borrow.Author.Tests.{ltb-true, lt-ltb, le-leb, ne_eqb}
use lib.Dec.{eqb, leb, ltb}
use lib.ListN.{get_or}
use Rattle.conditions.proofs.Rules.{all_true}
use Rattle.records.specs.declared.Texture.{Texture}
use Rattle.records.specs.Bounds.{within}
use Rattle.records.proofs.Bounded.{texture_laws}
use Rattle.rule_init_ranges.specs.declared.TextureInitRange.{TextureInitRange}
use Rattle.book_marks.specs.declared.Book.{Book}
use Rattle.book_marks.specs.Book.{is_marked, place_of, is_written, is_level_filled, is_filled}
use Rattle.book_marks.specs.Update.{updated, missing}
use Rattle.claim_book.specs.Created.{layers_of}
use Rattle.claim_book.specs.History.{HeldBy}
use Rattle.claim_book.specs.Filled.{Has, whole, EveryFilled}
use Rattle.claim_book.proofs.Lists.{all_test, all_by}
use Rattle.claim_book.proofs.Created.{few_layers}
use Rattle.claim_book.proofs.History.{Kept, kept}

set_is : (mark : ℕ) → (not (eqb mark 0) ≡ true) ↔ (0 < mark)
set_is zero = (λ e. absurd (let z : ◌≡◌ {A = ℕ} 0 1 = cc in omega arith), λ l. absurd (omega (arith, l)))
set_is (suc mark) = (λ e. omega arith, λ l. rw (ne_eqb (suc mark) 0 (λ e. omega (arith, e))) refl)

marked_is : (marks : List ℕ) (level layer : ℕ) → (is_marked marks level layer ≡ true) ↔ (0 < get_or marks (level * 256 + layer) 0)
unfolding is_marked place_of
marked_is marks level layer = set_is (get_or marks (level * 256 + layer) 0)

module _ (t : Texture) (b : Book) (rs : List TextureInitRange) (k : Kept t b rs) where
  pub levels_few : t.mip_level_count ≤ 14
  levels_few = (texture_laws t k.in_bounds).levels_few

  layers_few : layers_of t ≤ 256
  layers_few = (few_layers t k.bounds).1

  held_of : (level layer : ℕ) → Has t level layer → is_marked b.marks level layer ≡ true → HeldBy rs level layer
  held_of level layer h m =
      (k.exact level layer (omega (arith, h.level_there, levels_few)) (omega (arith, h.layer_there, layers_few))).0 ((marked_is b.marks level layer).0 m)

  marked_by : (level layer : ℕ) → Has t level layer → HeldBy rs level layer → is_marked b.marks level layer ≡ true
  marked_by level layer h m =
      (marked_is b.marks level layer).1 ((k.exact level layer (omega (arith, h.level_there, levels_few)) (omega (arith, h.layer_there, layers_few))).1 m)

  written_of : (level layer : ℕ) → is_written b level layer ≡ true → Has t level layer × HeldBy rs level layer
  unfolding is_written
  written_of level layer e =
      let p =
      all_true
      (leb b.mip_level_count 14
      ∷ leb b.array_layer_count 256
      ∷ ltb level b.mip_level_count
      ∷ ltb layer b.array_layer_count
      ∷ is_marked b.marks level layer
      ∷ [])
      e in
      let has : Has t level layer = record {
        level_there = omega (arith, ltb-true level b.mip_level_count p.1.1.0, k.levels);
        layer_there = omega (arith, ltb-true layer b.array_layer_count p.1.1.1.0, k.layers);
      } in
      (has, held_of level layer has p.1.1.1.1.0)

  written_by : (level layer : ℕ) → Has t level layer × HeldBy rs level layer → is_written b level layer ≡ true
  unfolding is_written
  written_by level layer h =
      rw (
        le-leb b.mip_level_count 14 (omega (arith, k.levels, levels_few)),
        le-leb b.array_layer_count 256 (omega (arith, k.layers, layers_few)),
        lt-ltb level b.mip_level_count (omega (arith, k.levels, h.0.level_there)),
        lt-ltb layer b.array_layer_count (omega (arith, k.layers, h.0.layer_there)),
      )
      (marked_by level layer h.0 h.1)

  filled_of : is_filled b ≡ true → (level layer : ℕ) → Has t level layer → HeldBy rs level layer
  unfolding is_filled is_level_filled
  filled_of e level layer h =
      let p =
      all_true
      (within 1 b.mip_level_count 14
      ∷ within 1 b.array_layer_count 256
      ∷ list_all (λ level. is_level_filled b.marks b.array_layer_count level) (range_with_len 0 b.mip_level_count)
      ∷ [])
      e in
      let q = all_test (λ level. is_level_filled b.marks b.array_layer_count level) 0 b.mip_level_count p.1.1.0 level (omega arith) (omega (arith, h.level_there, k.levels)) in
      held_of level layer h (all_test (λ layer. is_marked b.marks level layer) 0 b.array_layer_count q layer (omega arith) (omega (arith, h.layer_there, k.layers)))

  filled_by : ((level layer : ℕ) → Has t level layer → HeldBy rs level layer) → is_filled b ≡ true
  unfolding is_filled is_level_filled within
  filled_by h =
      let some = k.bounds.levels in
      let thin = few_layers t k.bounds in
      rw (
        le-leb 1 b.mip_level_count (omega (arith, k.levels, some)),
        le-leb b.mip_level_count 14 (omega (arith, k.levels, levels_few)),
        le-leb 1 b.array_layer_count (omega (arith, k.layers, thin.0)),
        le-leb b.array_layer_count 256 (omega (arith, k.layers, thin.1)),
      )
      (all_by (λ level. is_level_filled b.marks b.array_layer_count level) 0 b.mip_level_count (
      λ level low high.
      all_by (λ layer. is_marked b.marks level layer) 0 b.array_layer_count (
      λ layer least most.
      let has : Has t level layer = record {
        level_there = omega (arith, high, k.levels);
        layer_there = omega (arith, most, k.layers);
      } in
      marked_by level layer has (h level layer has)
      )
      ))

  missing_is : (level : ℕ) (out : List ℕ) → missing b level out ≡ updated b (whole t level) out
  missing_is level out = rw k.layers refl

pub every_filled : EveryFilled
every_filled t b rs h =
    let k = kept t b rs h in
    record {
      written = λ level layer. (written_of t b rs k level layer, written_by t b rs k level layer);
      missed = λ level out. missing_is t b rs k level out;
      filled = (filled_of t b rs k, filled_by t b rs k);
    }
