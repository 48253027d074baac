use Rattle.std.proofs.Common.{◌≡◌, ◌++◌, [], sym, ◌∙◌, rules}
use Rattle.std.proofs.lemmas.List.Elements.{All-get_or}
use Rattle.slot_text.specs.Ended.{ended}
use Rattle.scr_reader.specs.Printed.{header_lines}
use Rattle.usage_watch.specs.NextTexts.{IsHistoric}
use Rattle.usage_watch.proofs.TextLemmas.{lines_text, text_is, text_more, text_end, no_text, some_lines}
use Rattle.usage_watch.proofs.printing.print_next.Goals as goal

pub print_item-requires : goal.print_item-requires
print_item-requires c = (All-get_or (IsHistoric c.args.header.now.season) c.args.lines.now c.loop-line.line-index _ c.loop-line-test.true c.requires).fits

pub loop-line-preserved : goal.loop-line-preserved
loop-line-preserved c =
    let header = c.args.header.now in
    let lines = c.args.lines.now in
    rw c.in_ok-print_item.ensures.ok (text_more header.season lines c.loop-line.line-index _ c.loop-line.text.items (ended (header_lines header) ++ lines_text header.season lines) c.loop-line-test.true c.loop-line.invariant)

pub returns : goal.returns
returns c =
    let header = c.args.header.now in
    let lines = c.args.lines.now in
    let whole = ended (header_lines header) ++ lines_text header.season lines in
    let at_end = text_end header.season lines c.loop-line.line-index c.loop-line.text.items whole c.loop-line-test.false c.loop-line.invariant in
    rw c.in_ok-push.ensures.items (text_is header lines c.loop-line.text.items (some_lines lines c.is_empty.result c.is_empty.ensures c.if-is_empty.false) at_end)

pub returns-then-is_empty : goal.returns-then-is_empty
returns-then-is_empty c =
    let none : c.new-text.result.items ≡ [] = search rules in
    no_text c.args.header.now c.args.lines.now c.new-text.result.items none (sym c.is_empty.ensures ∙ c.if-is_empty.true)
