use Rattle.scr_replies.specs.declared.received.Received.TheVariants.{Bad}
use Rattle.scr_replies.proofs.ReceivedLemmas.{unread_at}
use Rattle.scr_replies.proofs.received.receive.Goals as goal

pub returns-in_ok-line-in-Err-clause-only : goal.returns-in_ok-line-in-Err-clause-only
returns-in_ok-line-in-Err-clause-only c = λ other is.
    let bytes = c.args.bytes.now in
    c.one_received.ensures c.args.season c.args.airport bytes (Bad c.in_ok-line-in-Err.line) other c.requires.message
    (unread_at c.args.season c.args.airport bytes c.in-Err.fault c.in_ok-line-in-Err.line
    (λ h. (c.one_run.ensures.fault bytes c.in-Err.fault c.requires.message).0 h) c.in-Err.ensures.fault c.in_ok-line-in-Err.ensures)
    is
