use Rattle.std.proofs.Common.{◌≡◌, List, take, ap, sym, ◌∙◌, arith}
use Rattle.std.proofs.lemmas.List.{take_all}
use Rattle.scr_reader.specs.declared.message.Message.{Message}
use Rattle.series_model.specs.Submissions.{item_count}
use Rattle.series_model.proofs.UnitLemmas.{items_more, units_counted}
use Rattle.series_model.proofs.message_units.count_units.Goals as goal

pub loop-message-preserved : goal.loop-message-preserved
loop-message-preserved c =
    let more = items_more c.args.messages.now c.loop-message.message-index c.message-item.result c.items.result.now c.loop-message-test.true c.message-item.is c.items.ensures in
    omega (arith, more.0, c.loop-message.invariant)

pub returns : goal.returns
returns c =
    let whole : take c.loop-message.message-index c.args.messages.now ≡ c.args.messages.now = take_all c.loop-message.message-index c.args.messages.now (omega (arith, c.loop-message-test.false)) in
    c.loop-message.invariant ∙ ap (λ (ms : List Message). item_count ms) whole ∙ sym (units_counted c.args.messages.now c.requires.each)
