use Rattle.slot_text.specs.Lines.{lines_of}
use Rattle.scr_replies.specs.Received.{IsGoodMessage, IsBadAt}
use Rattle.session_desk.specs.Begun.{ledger_caller}
use Rattle.session_desk.specs.Seen.{IsLedgerHistory}
use Rattle.session_desk.proofs.AmendLemmas.{fit_all, if_ok, bad_answered}
use Rattle.session_desk.proofs.SeenLemmas.{seen_same}
use Rattle.session_desk.proofs.amending.AmendingResponder.answer.Goals as goal

pub reply-requires-clause-items : goal.reply-requires-clause-items
reply-requires-clause-items g c =
    let lines = c.args.lines.now in
    let message = c.in-Ok-Good.message in
    let good : IsGoodMessage c.args.self.now.season c.args.self.now.airport (lines_of lines) message = rw c.in-Ok-Good.field-0-is at c.in-Ok-Good.ensures.received in
    let reads = (c.one_run.ensures.read lines message c.requires.message).1 good.read in
    fit_all message.season message.items (c.read_items_can_be_asked.ensures.message lines message reads).items (c.read_lines_fit.ensures.message lines message reads)

pub returns-in-Ok-Bad-clause-ok : goal.returns-in-Ok-Bad-clause-ok
returns-in-Ok-Bad-clause-ok g c =
    let origin = c.args.self.now.ledger.now.origin in
    let bad0 : IsBadAt c.args.self.now.season c.args.self.now.airport (lines_of c.args.lines.now) c.in-Ok-Bad.line = rw c.in-Ok-Bad.field-0-is at c.in-Ok-Bad.ensures.received in
    let bad : IsBadAt origin.start.declaration.season origin.start.declaration.airport (lines_of c.args.lines.now) c.in-Ok-Bad.line = rw (c.requires.ready.2, c.requires.ready.3) at bad0 in
    if_ok c.bad_reply.result
    (λ text is. bad_answered (ledger_caller (g.B.Beside.found origin.beside) origin.start c.args.self.now.caller) (lines_of c.args.lines.now) c.in-Ok-Bad.line text.items (g.B.Beside.read c.args.pass.now.own) bad is)
    c.bad_reply.ensures.text

pub returns-in-Ok-Bad-clause-seen : goal.returns-in-Ok-Bad-clause-seen
returns-in-Ok-Bad-clause-seen g c = seen_same (IsLedgerHistory c.args.self.now.ledger.now.origin.start) (g.B.Beside.read c.args.pass.now.seen)

pub returns-in-Err-clause-seen : goal.returns-in-Err-clause-seen
returns-in-Err-clause-seen g c = seen_same (IsLedgerHistory c.args.self.now.ledger.now.origin.start) (g.B.Beside.read c.args.pass.now.seen)
