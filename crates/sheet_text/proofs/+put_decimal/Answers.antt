-- What the check does not find alone for `put_decimal`.
use native.Mathlib.Omega.{arith}
use lib.ListN.{length-set}
use Rattle.sheet_text.proofs.Puts.{decimal_first, decimal_last, decimal_room}
use Rattle.sheet_text.proofs.+put_decimal.Goals as goal

pub returns-then-n-lt10 : goal.returns-then-n-lt10
returns-then-n-lt10 t c = decimal_first _ _ _ _ c.if-n-lt10.true c.figure.ensures

pub bounds-out-next : goal.bounds-out-next
bounds-out-next t c = decimal_room _ c.if-n-lt10.false c.ranges.n.fits c.put_decimal-next.ensures c.requires

pub overflow_add-result-2 : goal.overflow_add-result-2
overflow_add-result-2 t c = omega (arith, c.put_decimal-next.auto, bounds-out-next t c)

pub shape_of-out : goal.shape_of-out
shape_of-out t c = simp length-set c.put_decimal-next.auto.out

pub returns : goal.returns
returns t c = decimal_last _ c.if-n-lt10.false c.ranges.n.fits c.put_decimal-next.ensures _ c.figure-2.ensures
