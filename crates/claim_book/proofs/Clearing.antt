-- An update writes the layers that have to be cleared.
-- Assumes nothing.
use Rattle.std.specs.Prelude.{Ok, ◌↔◌}
use Rattle.std.specs.List.{range_with_len, filter}
use mathlib.Core.Path.{◌≡◌, refl, sym, ap, subst, ◌∙◌}
use mathlib.Core.Bool.{Bool, true, not}
use mathlib.Core.List.{List, [], ◌++◌}
use Prim.Native.Nat.{ℕ, zero, suc, ◌+◌, ◌*◌, ◌-◌, ◌<◌}
use native.Mathlib.Omega.{arith}
use borrow.Author.Tests.{ne_eqb}
use lib.Dec.{eqb}
use lib.ListN.{drop, get_or}
use Rattle.records.specs.declared.Texture.{Texture}
use Rattle.rule_init_ranges.specs.declared.MemoryInitKind.{MemoryInitKind}
use Rattle.rule_init_ranges.specs.declared.MemoryInitKind.TheVariants.{ImplicitlyInitialized, NeedsInitializedMemory}
use Rattle.rule_init_ranges.specs.declared.TextureInitRange.{TextureInitRange}
use Rattle.book_marks.specs.declared.Book.{Book}
use Rattle.book_marks.specs.Book.{is_marked, place_of}
use Rattle.book_marks.specs.Update.{unmarked, if_needed, cleared, updated}
use Rattle.claim_book.specs.History.{History, HeldBy, Marked}
use Rattle.claim_book.specs.Clearing.{Among, Rising, places, Clears, EveryClearing}
use Rattle.claim_book.proofs.Lists.{among_kept, kept_among, kept_rising, places_put}
use Rattle.claim_book.proofs.Updates.{applied}
use Rattle.claim_book.proofs.History.{kept}

unset_is : (mark : ℕ) → (not (not (eqb mark 0)) ≡ true) ↔ (0 < mark → ⊥)
unset_is zero = (λ e l. omega (arith, l), λ no. refl)
unset_is (suc mark) = let set = ne_eqb (suc mark) 0 (λ e. omega (arith, e)) in (λ e. absurd (let z : ◌≡◌ {A = ℕ} 0 1 = cc in omega arith), λ no. absurd (no (omega arith)))

free : (marks : List ℕ) (level z : ℕ) → (not (is_marked marks level z) ≡ true) ↔ (0 < get_or marks (level * 256 + z) 0 → ⊥)
unfolding is_marked place_of
free marks level z = unset_is (get_or marks (level * 256 + z) 0)

module _ (marks : List ℕ) (r : TextureInitRange) where
  abbrev is_free : ℕ → Bool
  is_free z = not (is_marked marks r.mip_level z)

  abbrev free_layers : List ℕ
  free_layers = filter is_free (range_with_len r.layers.start (r.layers.end - r.layers.start))

  cleared_needed : r.kind ≡ NeedsInitializedMemory → cleared marks r ≡ free_layers
  unfolding cleared unmarked
  cleared_needed h = rw h refl

  cleared_none : r.kind ≡ ImplicitlyInitialized → cleared marks r ≡ []
  unfolding cleared
  cleared_none h = rw h refl

  cleared_rising : Rising (cleared marks r)
  unfolding cleared unmarked
  cleared_rising = go r.kind
    where
      go : (kind : MemoryInitKind) → Rising (if_needed kind free_layers)
      go ImplicitlyInitialized = tt
      go NeedsInitializedMemory = kept_rising is_free r.layers.start (r.layers.end - r.layers.start)

module _ (b : Book) (r : TextureInitRange) (out : List ℕ) (n : ℕ) (e : (updated b r out).answer ≡ Ok n) where
  pub of_book : Clears (Marked b r.mip_level) r out (updated b r out).out n
  of_book =
      let a = applied b r out n e in
      let i = a.inside in
      let zs = cleared b.marks r in
      let fits = a.fit in
      let test = is_free b.marks r in
      record {
        zs = zs;
        counted = omega (arith, a.counted);
        rising = cleared_rising b.marks r;
        fit = a.fit;
        written = a.out_is ∙ places_put out r.mip_level zs (omega (arith, a.counted, fits)) ∙ ap (λ (m : ℕ). places r.mip_level zs ++ drop (2 * m) out) (sym a.counted);
        needed = λ needs z. (
          λ m.
              let p = among_kept test r.layers.start (r.layers.end - r.layers.start) z (subst (λ (l : List ℕ). Among l z) (cleared_needed b.marks r needs) m) in
              let below : z < r.layers.end = omega (arith, p.0, p.1, i.rising) in
              (record { level_is = refl; from = p.0; below = below }, (free b.marks r.mip_level z).0 p.2),
          λ p.
              subst (λ (l : List ℕ). Among l z) (sym (cleared_needed b.marks r needs))
              (kept_among test r.layers.start (r.layers.end - r.layers.start) z p.0.from (omega (arith, p.0.below, p.0.from))
              ((free b.marks r.mip_level z).1 p.1)),
        );
        implicit = cleared_none b.marks r;
      }

  pub of_texture : (t : Texture) (rs : List TextureInitRange) → History t b rs → Clears (HeldBy rs r.mip_level) r out (updated b r out).out n
  of_texture t rs h =
      let k = kept t b rs h in
      let i = (applied b r out n e).inside in
      let c = of_book in
      let few : r.mip_level < 14 = omega (arith, i.level, i.levels_few) in
      record {
        zs = c.zs;
        counted = c.counted;
        rising = c.rising;
        fit = c.fit;
        written = c.written;
        needed = λ needs z. (
          λ m.
              let p = (c.needed needs z).0 m in
              let thin : z < 256 = omega (arith, p.0.below, i.ending, i.layers_few) in
              (p.0, λ held. p.1 ((k.exact r.mip_level z few thin).1 held)),
          λ p.
              let thin : z < 256 = omega (arith, p.0.below, i.ending, i.layers_few) in
              (c.needed needs z).1 (p.0, λ m. p.1 ((k.exact r.mip_level z few thin).0 m)),
        );
        implicit = c.implicit;
      }

pub every_clearing : EveryClearing
every_clearing = record {
  of_textures = λ t b rs h r out n e. of_texture b r out n e t rs h;
  of_books = λ b r out n e. of_book b r out n e;
}
