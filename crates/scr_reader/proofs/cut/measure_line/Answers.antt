use Rattle.std.proofs.Common.{◌≡◌, sym, ap, ◌∙◌}
use Rattle.slot_text.specs.Lines.{after_line}
use Rattle.scr_reader.proofs.PlaceLemmas.{after_at}
use Rattle.scr_reader.proofs.cut.measure_line.Goals as goal

pub returns-clause-behind : goal.returns-clause-behind
returns-clause-behind c =
    let e : c.rest.result.now ≡ after_line c.args.text.now = c.rest.ensures ∙ c.next_line-line.ensures.rest ∙ ap after_line c.new-rest.ensures in
    sym (after_at c.args.text.now c.rest.result.now e) ∙ e
