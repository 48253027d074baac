use Rattle.std.proofs.Common.{◌≡◌, ◌∙◌, ◌++◌, ◌∷◌, [], refl}
use Rattle.holding_book.specs.Asks.{reply}
use Rattle.slot_ledger.specs.Starts.{new_entry}
use Rattle.slot_ledger.proofs.ReadLemmas.{marked_read}
use Rattle.slot_ledger.proofs.ReplayLemmas.{replayed_more}
use Rattle.slot_ledger.proofs.TurnLemmas.{keep_refused}
use Rattle.slot_ledger.proofs.shared.Shared.enter.Goals as goal

pub returns-in-Err-clause-fault : goal.returns-in-Err-clause-fault
returns-in-Err-clause-fault g c =
    let items = c.reserve.new.self.items in
    let same = marked_read g.B.Beside.read g.B.Beside.number c.laws.ensures.parts c.args.caller (g.B.Beside.told c.self.inside.beside items) (g.B.Beside.told c.keep.new.self items) (c.in-Err.ensures.marks items) ∙ c.laws.ensures.told items in
    let kept : items ≡ c.self.inside.history.items = c.in_ok-reserve.ensures.items in
    let room = rw (← c.self.view_is) at c.in_ok-open.ensures.room in
    rw (← c.self.view_is) (keep_refused g.B.Beside.read g.B.Beside.done g.B.Beside.number c.laws.ensures.parts c.laws.ensures.entries g.B.Beside.broken _ c.self.inside.start.most (g.B.Beside.told c.keep.new.self items) c.in-Err.fault (c.in-Err.ensures.fault items) (λ memory. rw (same, kept) room))

pub invariant_of-self-2 : goal.invariant_of-self-2
invariant_of-self-2 g c =
    let before = c.self.inside in
    let ask = c.args.ask.now in
    let entry = new_entry c.args.caller ask (reply before.book.book ask) in
    let items : c.push_reserved.new.self.items ≡ before.history.items ++ entry ∷ [] = rw (c.push_reserved.ensures.items, c.in_ok-reserve.ensures.items, c.in_ok-ready.ensures.entry) refl in
    let next_is = c.apply_with-given.ensures.book in
    let room = rw (← c.self.view_is) at c.in_ok-open.ensures.room in
    let can = rw (← c.self.view_is) at c.requires.ask in
    let more = replayed_more c.next_books.ensures.declaration c.next_books.ensures.few c.one_more.ensures.replay c.one_more.ensures.legal before.start before.book c.apply_with-given.new.self before.history.items entry c.self.invariant.0 room can refl (rw (← c.in_ok-ready.ensures.stays) next_is) in
    rw items (more, c.in-Ok.ensures.kept before.history.items entry.answer c.self.invariant.1, rw c.in-Ok.ensures.start c.self.invariant.2)
