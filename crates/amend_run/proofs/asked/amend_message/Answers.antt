use Rattle.std.proofs.Common.{◌≡◌, ◌++◌, List, sym, ap, subst, arith, length, length-append}
use Rattle.std.proofs.lemmas.Result.{on_ok_weaker}
use Rattle.slot_text.specs.Lines.{lines_of}
use Rattle.season_days.specs.declared.declaration.Declaration.{Declaration}
use Rattle.holding_book.specs.Books.{SlotBook}
use Rattle.holding_book.specs.declared.answer.Entry.{Entry}
use Rattle.scr_replies.specs.declared.received.Received.{Received}
use Rattle.scr_replies.specs.Received.{IsReceived, IsGoodMessage, IsBadAt, CanAskAll, received_items}
use Rattle.amend_run.specs.Private.Due.{due_entries}
use Rattle.amend_run.proofs.DueLemmas.{due_growth, due_count, good_step, bad_step, all_ok}
use Rattle.amend_run.proofs.asked.amend_message.Goals as goal

pub answer_message-requires-clause-can : goal.answer_message-requires-clause-can
answer_message-requires-clause-can c =
    let d = c.args.book.now.book.declaration in
    subst (λ (r : Received). CanAskAll d r) c.in-Good.is
    (c.in_ok-received.ensures.asks d (ap (λ (e : Declaration). e.season) (sym c.declaration-declaration.ensures.value)))

pub returns-in-Good-clause-step : goal.returns-in-Good-clause-step
returns-in-Good-clause-step c =
    let b = c.args.book.now.book in
    let lines = lines_of c.args.bytes.now in
    let message = c.in-Good.message in
    let received : IsReceived b.declaration.season b.declaration.airport lines c.in_ok-received.received =
    subst (λ (d : Declaration). IsReceived d.season d.airport lines c.in_ok-received.received) c.declaration-declaration.ensures.value c.in_ok-received.ensures.received in
    let good : IsGoodMessage b.declaration.season b.declaration.airport lines message =
    subst (λ (r : Received). IsReceived b.declaration.season b.declaration.airport lines r) c.in-Good.is received in
    let can =
    subst (λ (r : Received). CanAskAll b.declaration r) c.in-Good.is
    (c.in_ok-received.ensures.asks b.declaration (ap (λ (e : Declaration). e.season) (sym c.declaration-declaration.ensures.value))) in
    all_ok c.answer_message.result c.answer_message.ensures.text c.answer_message.ensures.entries c.answer_message.ensures.book (λ wrote entered changed.
    good_step b lines message c.args.out.now.items c.answer_message.new.out.items c.args.history.now.items c.answer_message.new.history.items c.answer_message.new.book.book good can wrote entered changed)

pub returns-in-Good-clause-few : goal.returns-in-Good-clause-few
returns-in-Good-clause-few c =
    let b = c.args.book.now.book in
    let items = c.in-Good.message.items in
    let past = c.args.history.now.items in
    all_ok c.answer_message.result c.answer_message.ensures.text c.answer_message.ensures.entries c.answer_message.ensures.book (λ wrote entered changed.
    omega (
      arith,
      ap (λ (h : List Entry). length h) entered,
      length-append past (due_entries b items),
      due_count b items,
      c.in_ok-received.ensures.few,
      ap (λ (r : Received). length (received_items r)) c.in-Good.is,
    ))

pub returns-in-Good-clause-grown : goal.returns-in-Good-clause-grown
returns-in-Good-clause-grown c =
    let b = c.args.book.now.book in
    let items = c.in-Good.message.items in
    let past = c.args.history.now.items in
    all_ok c.answer_message.result c.answer_message.ensures.text c.answer_message.ensures.entries c.answer_message.ensures.book (λ wrote entered changed.
    omega (
      arith,
      ap (λ (h : List Entry). length h) entered,
      length-append past (due_entries b items),
      due_count b items,
      ap (λ (s : SlotBook). length s.holdings) changed,
      due_growth b items c.next_books.ensures.few,
    ))

pub returns-in-Bad-clause-step : goal.returns-in-Bad-clause-step
returns-in-Bad-clause-step c =
    let b = c.args.book.now.book in
    let lines = lines_of c.args.bytes.now in
    let received : IsReceived b.declaration.season b.declaration.airport lines c.in_ok-received.received =
    subst (λ (d : Declaration). IsReceived d.season d.airport lines c.in_ok-received.received) c.declaration-declaration.ensures.value c.in_ok-received.ensures.received in
    let bad : IsBadAt b.declaration.season b.declaration.airport lines c.in-Bad.line =
    subst (λ (r : Received). IsReceived b.declaration.season b.declaration.airport lines r) c.in-Bad.is received in
    on_ok_weaker c.put_bad.result (bad_step b lines c.in-Bad.line c.args.out.now.items c.put_bad.new.out.items c.args.history.now.items bad) c.put_bad.ensures
