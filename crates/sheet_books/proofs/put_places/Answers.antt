use Rattle.std.proofs.Common.{arith}
use mathlib.Core.Path.{◌≡◌, ap}
use Prim.Native.Nat.{ℕ}
use Rattle.std.specs.List.{range_with_len, flat_map}
use Rattle.slices.proofs.Puts.{put_as}
use Rattle.sheet_books.specs.Books.{place_text, places_text}
use Rattle.sheet_books.proofs.Lines.{place_few, places_bound, underway_on}
use Rattle.sheet_books.proofs.put_places.Goals as goal

pub loop-place-preserved : goal.loop-place-preserved
loop-place-preserved c =
    let a = c.args in
    (underway_on (place_text a.word.now a.texture a.numbers.now) (places_bound a.word.now) (place_few a.word.now a.texture a.numbers.now) _ _ _ _ _ _ _ c.loop-place.invariant.0 c.put_line-next.ensures, omega (arith, c.loop-place-test.true))

pub returns : goal.returns
unfolding places_text
returns c =
    let e : c.loop-place.place ≡ c.args.count = omega (arith, c.loop-place-test.false, c.loop-place.invariant.1) in
    put_as c.loop-place.invariant.0.put (ap (λ (n : ℕ). flat_map (place_text c.args.word.now c.args.texture c.args.numbers.now) (range_with_len 0 n)) e)
