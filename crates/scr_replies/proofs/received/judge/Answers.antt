use Rattle.std.proofs.Common.{sym, ◌∙◌, subst}
use Rattle.season_days.specs.Term.{Term}
use Rattle.slot_text.specs.Lines.{lines_of}
use Rattle.scr_reader.specs.Printed.{ItemsFit}
use Rattle.scr_replies.proofs.ReceivedLemmas.{can_ask, few_items}
use Rattle.scr_replies.proofs.received.judge.Goals as goal

pub returns-in-None-clause-asks : goal.returns-in-None-clause-asks
returns-in-None-clause-asks c = λ d same.
    let message = c.args.message in
    can_ask d message.items
    (subst (λ (season : Term). ItemsFit season message.items) (c.in-None.ensures.0 ∙ sym same) (c.read_lines_fit.ensures.message c.args.bytes.now message c.requires.read))
    (c.read_items_can_be_asked.ensures.message c.args.bytes.now message c.requires.read).items

pub returns-in-None-clause-few : goal.returns-in-None-clause-few
returns-in-None-clause-few c =
    let message = c.args.message in
    few_items (lines_of c.args.bytes.now) message ((c.one_run.ensures.read c.args.bytes.now message c.requires.lines).0 c.requires.read)
