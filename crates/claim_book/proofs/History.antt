-- A level and layer is marked exactly when some earlier applied range held it.
-- Assumes nothing.
use Rattle.std.specs.Prelude.{Ok, Err, ◌↔◌}
use mathlib.Core.Path.{◌≡◌, sym, ap, subst, ◌∙◌}
use mathlib.Core.Bool.{true}
use mathlib.Core.List.{List, [], ◌∷◌}
use mathlib.Core.Logic.{◌⊎◌, inl, inr, ⊎_elim}
use Prim.Native.Nat.{ℕ, ◌+◌, ◌*◌, ◌-◌, ◌<◌}
use native.Mathlib.Omega.{arith}
use lib.ListN.{length, get_or, replicate}
use lib.Seq.{length-sets}
use Rattle.records.specs.declared.Texture.{Texture}
use Rattle.records.specs.Bounds.{texture_in_bounds}
use Rattle.rule_init_ranges.specs.declared.TextureInitRange.{TextureInitRange}
use Rattle.book_marks.specs.declared.Book.{Book}
use Rattle.book_marks.specs.declared.BookError.{BookError}
use Rattle.book_marks.specs.Book.{created, place_of}
use Rattle.book_marks.specs.Update.{marked, updated}
use Rattle.claim_webgpu_copies.specs.Bounds.{TextureInBounds}
use Rattle.claim_book.specs.Answers.{Inside}
use Rattle.claim_book.specs.Created.{layers_of}
use Rattle.claim_book.specs.History.{History, creation, applied, refused, with_marks, Holds, HeldBy, Marked, EveryMark}
use Rattle.claim_book.proofs.Lists.{below_or_not, outside_row, inside_row}
use Rattle.claim_book.proofs.Updates as U
use Rattle.claim_book.proofs.Created.{made_of}

-- ---- a level and layer, over a range that is marked

module _ (level layer : ℕ) (few : level < 14) (thin : layer < 256) where
  abbrev place : ℕ
  place = level * 256 + layer

  abbrev is_set : List ℕ → Type 0
  is_set marks = 0 < get_or marks place 0

  module _ (b : Book) (r : TextureInitRange) (i : Inside b r) (long : length b.marks ≡ 3584) where
    abbrev at : ℕ
    at = r.mip_level * 256 + r.layers.start

    abbrev size : ℕ
    size = r.layers.end - r.layers.start

    set_or_held : is_set (marked b.marks r) → is_set b.marks ⊎ Holds r level layer
    unfolding marked place_of
    set_or_held h =
        let few_levels = i.levels_few in let few_layers = i.layers_few in let there = i.level in let up = i.rising in let hi = i.ending in
        ⊎_elim
        (λ l. inl (omega (arith, h, outside_row b.marks at size place (inl l))))
        (λ l.
        ⊎_elim
        (λ k. inr (record { level_is = omega (arith, k, l); from = omega (arith, k, l); below = omega (arith, k, l) }))
        (λ k. inl (omega (arith, h, outside_row b.marks at size place (inr k))))
        (below_or_not place (at + size)))
        (below_or_not place at)

    held_set : Holds r level layer → is_set (marked b.marks r)
    unfolding marked place_of
    held_set h =
        let few_levels = i.levels_few in let few_layers = i.layers_few in let there = i.level in let up = i.rising in let hi = i.ending in
        let same = h.level_is in let from = h.from in let below = h.below in
        omega (arith, inside_row b.marks at size place (omega arith) (omega arith) (omega arith))

    set_stays : is_set b.marks → is_set (marked b.marks r)
    unfolding marked place_of
    set_stays h =
        let few_levels = i.levels_few in let few_layers = i.layers_few in let there = i.level in let up = i.rising in let hi = i.ending in
        ⊎_elim
        (λ l. omega (arith, h, outside_row b.marks at size place (inl l)))
        (λ l.
        ⊎_elim
        (λ k. omega (arith, inside_row b.marks at size place l k (omega arith)))
        (λ k. omega (arith, h, outside_row b.marks at size place (inr k)))
        (below_or_not place (at + size)))
        (below_or_not place at)

  pub marked_after :
      (b : Book) (r : TextureInitRange) (out : List ℕ) (n : ℕ) → (updated b r out).answer ≡ Ok n → length b.marks ≡ 3584
      → is_set (updated b r out).marks ↔ (is_set b.marks ⊎ Holds r level layer)
  marked_after b r out n e long =
      let a = U.applied b r out n e in (
        λ h. set_or_held b r a.inside long (subst is_set a.marks_are h),
        λ h. subst is_set (sym a.marks_are) (⊎_elim (λ q. set_stays b r a.inside long q) (λ q. held_set b r a.inside long q) h),
      )

-- ---- what holds over any sequence of updates

pub record Kept (t : Texture) (b : Book) (rs : List TextureInitRange) : Type 0 where
  pub bounds : TextureInBounds t
  pub in_bounds : texture_in_bounds t ≡ true
  pub levels : b.mip_level_count ≡ t.mip_level_count
  pub layers : b.array_layer_count ≡ layers_of t
  pub long : length b.marks ≡ 3584
  pub exact : (level layer : ℕ) → level < 14 → layer < 256 → Marked b level layer ↔ HeldBy rs level layer
  pub there : (level layer : ℕ) → HeldBy rs level layer → (level < t.mip_level_count) × (layer < layers_of t)

kept_new : (t : Texture) (b : Book) → created t ≡ Ok b → Kept t b []
kept_new t b e =
    let m = made_of t b e in
    record {
      bounds = m.bounds;
      in_bounds = m.in_bounds;
      levels = m.is_blank.levels;
      layers = m.is_blank.layers;
      long = m.is_blank.marks;
      exact = λ level layer few thin. (λ h. absurd (omega (arith, h, m.is_blank.unset (level * 256 + layer))), λ h. absurd h);
      there = λ level layer h. absurd h;
    }

long_marked : (marks : List ℕ) (r : TextureInitRange) → length (marked marks r) ≡ length marks
unfolding marked
long_marked marks r = length-sets marks (place_of r.mip_level r.layers.start) (replicate (r.layers.end - r.layers.start) 1)

module _ (t : Texture) (b : Book) (rs : List TextureInitRange) (k : Kept t b rs) (r : TextureInitRange) (out : List ℕ) where
  abbrev next : Book
  next = with_marks b (updated b r out).marks

  abbrev set_in : ℕ → ℕ → List ℕ → Type 0
  set_in level layer marks = 0 < get_or marks (level * 256 + layer) 0

  kept_applied : (n : ℕ) → (updated b r out).answer ≡ Ok n → Kept t next (r ∷ rs)
  kept_applied n e =
      let a = U.applied b r out n e in
      record {
        bounds = k.bounds;
        in_bounds = k.in_bounds;
        levels = k.levels;
        layers = k.layers;
        long = ap length a.marks_are ∙ long_marked b.marks r ∙ k.long;
        exact = λ level layer few thin.
            let before = k.exact level layer few thin in
            let one = marked_after level layer few thin b r out n e k.long in (
              λ h. ⊎_elim (λ m. inr (before.0 m)) (λ q. inl q) (one.0 h),
              λ h. one.1 (⊎_elim (λ q. inr q) (λ q. inl (before.1 q)) h),
            );
        there = λ level layer h.
            ⊎_elim
            (λ (q : Holds r level layer). (
              omega (arith, q.level_is, a.inside.level, k.levels),
              omega (arith, q.below, a.inside.ending, k.layers),
            ))
            (λ q. k.there level layer q)
            h;
      }

  kept_refused : (x : BookError) → (updated b r out).answer ≡ Err x → Kept t next rs
  kept_refused x e =
      let same = (U.unchanged b r out x e).0 in
      record {
        bounds = k.bounds;
        in_bounds = k.in_bounds;
        levels = k.levels;
        layers = k.layers;
        long = ap length same ∙ k.long;
        exact = λ level layer few thin.
            let before = k.exact level layer few thin in (
              λ h. before.0 (subst (set_in level layer) same h),
              λ h. subst (set_in level layer) (sym same) (before.1 h),
            );
        there = k.there;
      }

pub kept : (t : Texture) (b : Book) (rs : List TextureInitRange) → History t b rs → Kept t b rs
kept t b rs (creation c e) = kept_new t c e
kept t b rs (applied c ss h r out n e) = kept_applied t c ss (kept t c ss h) r out n e
kept t b rs (refused c ss h r out x e) = kept_refused t c ss (kept t c ss h) r out x e

pub every_mark : EveryMark
every_mark t b rs h level layer few thin = (kept t b rs h).exact level layer (omega (arith, few)) (omega (arith, thin))
