use Rattle.std.proofs.Common.{arith}
use Rattle.sheet_books.proofs.Created.{one_created, all_created}
use Rattle.sheet_books.proofs.create.Goals as goal

pub loop-i-init : goal.loop-i-init
loop-i-init c = (c.requires, λ k d h. absurd (omega arith))

pub loop-i-preserved : goal.loop-i-preserved
loop-i-preserved c = one_created _ _ _ _ c.loop-i.invariant (omega (arith, c.loop-i-test.true)) _ c.book_at.ensures

pub returns : goal.returns
returns c = all_created _ _ _ _ c.loop-i.invariant (omega (arith, c.loop-i-test.false))
