use Rattle.sheet_program.proofs.Parts.{delivered_err}
use Rattle.sheet_program.proofs.Copies.{sent_text, copying_none, copying_on, copying_stop, copying_end, copying_books}
use Rattle.sheet_program.proofs.books.write_copies.Goals as goal

pub loop-k-init : goal.loop-k-init
loop-k-init g c =
    copying_none _ _ _ _ _ _ _

pub loop-k-preserved : goal.loop-k-preserved
loop-k-preserved g c =
    copying_on _ _ _ _ _ _ _ _ _ _ c.loop-k.invariant c.loop-k-test.true _ _ c.read_row-line.ensures c.plan_line-answer.ensures (sent_text c.put_copy-n.ensures.put c.put_copy-n.ensures.within c.in_ok-send.ensures) _ c.put_copy-n.ensures.books_after

pub returns-in_err-send-clause-delivered : goal.returns-in_err-send-clause-delivered
returns-in_err-send-clause-delivered g c =
    delivered_err _ c.from_residual.ensures.0 (copying_stop _ _ _ _ _ _ _ _ _ _ c.loop-k.invariant c.loop-k-test.true _ _ c.read_row-line.ensures c.plan_line-answer.ensures (sent_text c.put_copy-n.ensures.put c.put_copy-n.ensures.within c.in_err-send.ensures))

pub returns-clause-delivered : goal.returns-clause-delivered
returns-clause-delivered g c =
    copying_end _ _ _ _ _ _ _ _ _ _ c.loop-k.invariant c.loop-k-test.false

pub returns-clause-books_then : goal.returns-clause-books_then
returns-clause-books_then g c =
    copying_books _ _ _ _ _ _ _ _ _ _ c.loop-k.invariant c.loop-k-test.false
