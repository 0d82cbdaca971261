use Rattle.sheet_program.proofs.Parts.{unheaded, reported, unreported}
use Rattle.sheet_program.proofs.write_headed.Goals as goal

pub returns-in_err-send-clause-broken : goal.returns-in_err-send-clause-broken
returns-in_err-send-clause-broken g c =
    unheaded c.args.report c.args.s.now c.args.heading.now _ c.in_err-send.ensures

pub returns-clause-whole : goal.returns-clause-whole
returns-clause-whole g c =
    reported c.args.report c.args.s.now c.args.heading.now c.in_ok-send.ensures _ c.write_report.ensures.whole

pub returns-clause-broken : goal.returns-clause-broken
returns-clause-broken g c =
    unreported c.args.report c.args.s.now c.args.heading.now c.in_ok-send.ensures _ c.write_report.ensures.broken
