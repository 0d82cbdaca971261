use Rattle.std.proofs.Common.{arith, ◌≡◌, ◌+◌, ◌*◌, ◌-◌}
use Rattle.book_marks.specs.Book.{place_of}
use Rattle.book_marks.specs.Update.{marked}
use Rattle.book_marks.proofs.Marks.{filled}
use Rattle.book_marks.proofs.checked_range.CheckedRange.mark.Goals as goal

pub returns : goal.returns
unfolding marked place_of
returns c =
    let a = c.args.self in
    let start : c.level-row.result * 256 + c.first.result ≡ a.range.mip_level * 256 + a.range.layers.start = omega (arith, c.level-row.ensures, c.first.ensures) in
    rw (← start) (filled _ _ _ _ (a.range.layers.end - a.range.layers.start) (c.fill.ensures.after (λ y h. h)) (omega (arith, c.level-row.ensures, c.first.ensures, c.end.ensures)) (omega (arith, c.level-row.ensures, c.first.ensures, a.level_few, a.rising, a.layers_few, c.told-marks)))
