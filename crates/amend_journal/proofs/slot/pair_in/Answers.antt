use Rattle.std.proofs.Common.{get_or, ◌≡◌, ◌≤◌, ℕ, List, length, Some, ap, ◌∙◌, arith}
use Rattle.scr_reader.specs.Printed.{item_text}
use Rattle.amend_journal.specs.declared.asked.Asked.{Asked as AskedValue}
use Rattle.amend_journal.proofs.FormatLemmas.{same_asked, slot_filled}
use Rattle.amend_journal.proofs.slot.pair_in.Goals as goal

pub returns-in_default-clause-only : goal.returns-in_default-clause-only
returns-in_default-clause-only c asked spells =
    let season = c.args.season.now in
    let text = item_text season asked.ask in
    let few : length text ≤ 253 = omega (arith, c.printed_items.ensures.short season asked.ask spells.fit.fits) in
    let is = c.split_at.ensures.front ∙ spells.is ∙ slot_filled season asked in
    let one = c.in_default.ensures.only asked.caller text few is in
    cc one

pub returns-in-Some-2-clause-only : goal.returns-in-Some-2-clause-only
returns-in-Some-2-clause-only c asked spells =
    let season = c.args.season.now in
    let text = item_text season asked.ask in
    let few : length text ≤ 253 = omega (arith, c.printed_items.ensures.short season asked.ask spells.fit.fits) in
    let is = c.split_at.ensures.front ∙ spells.is ∙ slot_filled season asked in
    let one = c.in-Some.ensures.only asked.caller text few is in
    let spelled : c.in-Some.text.now ≡ text = cc one in
    let read = c.in_ok-ask.ensures.only asked.ask (record { fit = spells.fit; spelled = spelled }) in
    let ask : c.in-Some-2.ask ≡ asked.ask = cc (read, c.in-Some-2.is) in
    ap (λ (a : AskedValue). Some a) (same_asked (record { caller = get_or c.split_at.result.0.now 0 0; ask = c.in-Some-2.ask }) asked (ap (λ (l : List ℕ). get_or l 0 0) is) ask)

pub returns-in-None-clause-only : goal.returns-in-None-clause-only
returns-in-None-clause-only c asked spells =
    let season = c.args.season.now in
    let text = item_text season asked.ask in
    let few : length text ≤ 253 = omega (arith, c.printed_items.ensures.short season asked.ask spells.fit.fits) in
    let is = c.split_at.ensures.front ∙ spells.is ∙ slot_filled season asked in
    let one = c.in-Some.ensures.only asked.caller text few is in
    let spelled : c.in-Some.text.now ≡ text = cc one in
    let read = c.in_ok-ask.ensures.only asked.ask (record { fit = spells.fit; spelled = spelled }) in
    cc (read, c.in-None.is)
