-- A new book is of its texture, and nothing is marked.
-- Assumes nothing.
use Rattle.std.specs.Prelude.{Result, Ok, Err}
use Rattle.std.proofs.lemmas.Bool.{false_from_ne_true}
use mathlib.Core.Path.{◌≡◌, refl, sym, subst, ◌∙◌}
use mathlib.Core.Bool.{Bool, true, false, cond}
use Prim.Native.Nat.{ℕ, ◌≤◌}
use native.Mathlib.Omega.{arith}
use lib.Dec.{eqb}
use lib.ListN.{length-replicate, replicate}
use borrow.Author.Tests.{eqb-true, eqb-false}
use Rattle.conditions.specs.Conditions.{stop_if}
use Rattle.measures.specs.declared.Extent3d.{Extent3d}
use Rattle.mip_levels.specs.declared.TextureDimension.TheVariants.{D1, D2, D3}
use Rattle.mip_levels.specs.Level.{texture_dimension}
use Rattle.records.specs.declared.Texture.{Texture}
use Rattle.records.specs.Bounds.{texture_in_bounds}
use Rattle.book_marks.specs.declared.Book.{Book}
use Rattle.book_marks.specs.declared.BookError.{BookError}
use Rattle.book_marks.specs.declared.BookError.TheVariants.{InvalidTextureRecord}
use Rattle.book_marks.specs.Book.{layer_count, book_with, created}
use Rattle.claim_webgpu_rules.specs.Formats.{dimension_of}
use Rattle.claim_webgpu_copies.specs.Bounds.{Between, SizeInBounds, TextureInBounds}
use Rattle.claim_webgpu_copies.proofs.Records.{record_bounds}
use Rattle.claim_book.specs.Created.{layers_of, Blank, EveryCreation}
use Rattle.claim_book.proofs.Lists.{no_mark}

-- ---- layers

other : (n : ℕ) → 1 ≤ n → n ≤ 3 → (n ≡ 1 → ⊥) → (n ≡ 2 → ⊥) → (n ≡ 3 → ⊥) → ⊥
other n some few a b c = omega arith

by_number : (n : ℕ) (size : Extent3d) → 1 ≤ n → n ≤ 3 → layer_count (texture_dimension n) size ≡ cond (eqb n 2) size.depth_or_array_layers 1
unfolding layer_count texture_dimension stop_if
by_number n size some few = go (eqb n 1) (eqb n 3) (eqb n 2) refl refl refl
  where
    go :
        (one three two : Bool) → eqb n 1 ≡ one → eqb n 3 ≡ three → eqb n 2 ≡ two
        → layer_count (stop_if one D1 (stop_if three D3 D2)) size ≡ cond two size.depth_or_array_layers 1
    go true three false a b c = refl
    go false true false a b c = refl
    go false false true a b c = refl
    go true three true a b c = absurd (omega (arith, eqb-true n 1 a, eqb-true n 2 c))
    go false true true a b c = absurd (omega (arith, eqb-true n 3 b, eqb-true n 2 c))
    go false false false a b c = absurd (other n some few (eqb-false n 1 a) (eqb-false n 2 c) (eqb-false n 3 b))

within_256 : (n : ℕ) (size : Extent3d) → SizeInBounds (dimension_of n) size → Between 1 (cond (eqb n 2) size.depth_or_array_layers 1) 256
unfolding dimension_of
within_256 n size = go (eqb n 1) (eqb n 3) (eqb n 2) refl refl refl
  where
    go :
        (one three two : Bool) → eqb n 1 ≡ one → eqb n 3 ≡ three → eqb n 2 ≡ two → SizeInBounds (cond one D1 (cond three D3 D2)) size
        → Between 1 (cond two size.depth_or_array_layers 1) 256
    go one three false a b c h = (omega arith, omega arith)
    go false false true a b c h = h.2
    go true three true a b c h = absurd (omega (arith, eqb-true n 1 a, eqb-true n 2 c))
    go false true true a b c h = absurd (omega (arith, eqb-true n 3 b, eqb-true n 2 c))

pub few_layers : (t : Texture) → TextureInBounds t → Between 1 (layers_of t) 256
few_layers t h = within_256 t.dimension t.size h.size

pub layers_are : (t : Texture) → TextureInBounds t → layer_count (texture_dimension t.dimension) t.size ≡ layers_of t
layers_are t h = by_number t.dimension t.size h.dimension.0 h.dimension.1

abbrev pub blank : Texture → Book
blank t = book_with t.mip_level_count (layer_count (texture_dimension t.dimension) t.size) (replicate 3584 0)

every_made : (t : Texture) → texture_in_bounds t ≡ true → created t ≡ Ok (blank t)
unfolding created stop_if
every_made t h = rw h refl

pub blank_is : (t : Texture) → TextureInBounds t → Blank t (blank t)
blank_is t h = record { levels = refl; layers = layers_are t h; marks = length-replicate {A = ℕ} 3584 0; unset = no_mark 3584 }

refused : (t : Texture) → texture_in_bounds t ≡ false → created t ≡ Err InvalidTextureRecord
unfolding created stop_if
refused t h = rw h refl

-- what was made of a record
pub record Made (t : Texture) (b : Book) : Type 0 where
  pub bounds : TextureInBounds t
  pub in_bounds : texture_in_bounds t ≡ true
  pub is_blank : Blank t b

made_by : (t : Texture) (b : Book) (u : Bool) → texture_in_bounds t ≡ u → created t ≡ Ok b → Made t b
made_by t b false e h = let z : ◌≡◌ {A = Result Book BookError} (Err InvalidTextureRecord) (Ok b) = sym (refused t e) ∙ h in absurd (let z : ◌≡◌ {A = ℕ} 0 1 = cc in omega arith)
made_by t b true e h =
    let bounds = (record_bounds.textures t).0 e in
    let same : ◌≡◌ {A = Result Book BookError} (Ok (blank t)) (Ok b) = sym (every_made t e) ∙ h in
    let is : blank t ≡ b = cc in
    record { bounds = bounds; in_bounds = e; is_blank = subst (λ (c : Book). Blank t c) is (blank_is t bounds) }

pub made_of : (t : Texture) (b : Book) → created t ≡ Ok b → Made t b
made_of t b h = made_by t b (texture_in_bounds t) refl h

pub every_creation : EveryCreation
every_creation = record {
  made = λ t h. (blank t, every_made t ((record_bounds.textures t).1 h), blank_is t h);
  refused = λ t no. refused t (false_from_ne_true _ (λ e. no ((record_bounds.textures t).0 e)));
}
