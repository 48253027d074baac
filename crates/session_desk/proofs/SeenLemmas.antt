-- What was seen goes on, over several steps and by an ask.
use Rattle.std.proofs.Common.{List, [], ◌∷◌, ◌++◌, sym, ap, ◌∙◌, append_assoc, append-nil}
use Rattle.turn_lock.specs.Seats.{SeatView}
use Rattle.scr_reader.specs.declared.line.Item.{Item}
use Rattle.holding_book.specs.declared.answer.Answer.{Answer}
use Rattle.holding_book.specs.declared.answer.Entry.{Entry}
use Rattle.slot_ledger.specs.declared.shared.Start.{Start}
use Rattle.slot_ledger.specs.Starts.{first_book, new_entry}
use Rattle.slot_ledger.specs.Passes.{HasEntered, HasSeenMore, IsStillPass}
use Rattle.session_desk.specs.Seen.{SeenGoesOn, IsLedgerHistory}

module _ {E : Type 0} (Legal : List E → Type 0) where
  pub seen_same : (h : List E) → SeenGoesOn Legal h h
  seen_same h = record { begins = ([], sym (append-nil h)); legal = λ l. l }

  pub seen_on : (a b c : List E) → SeenGoesOn Legal a b → SeenGoesOn Legal b c → SeenGoesOn Legal a c
  seen_on a b c f g = record {
    begins = (f.begins.0 ++ g.begins.0, g.begins.1 ∙ ap (λ (l : List E). l ++ g.begins.0) f.begins.1 ∙ append_assoc a f.begins.0 g.begins.0);
    legal = λ l. g.legal (f.legal l);
  }

module _ {O : Type 0} (start : Start) (before after : SeatView O Entry) where
  -- an ask was entered
  pub seen_entered : (ask : Item) (answer : Answer) → IsStillPass (first_book start) start.most before after → HasEntered ask answer before after → SeenGoesOn (IsLedgerHistory start) before.seen after.seen
  seen_entered ask answer still entered =
      let last : List Entry = new_entry before.number ask answer ∷ [] in
      record {
        begins = (entered.goes_on.0 ++ last, entered.seen ∙ ap (λ (l : List Entry). l ++ last) entered.goes_on.1 ∙ append_assoc before.seen entered.goes_on.0 last);
        legal = λ l. (still.legal, still.few);
      }

  -- or was refused
  pub seen_others : IsStillPass (first_book start) start.most before after → HasSeenMore before after → SeenGoesOn (IsLedgerHistory start) before.seen after.seen
  seen_others still more = record { begins = (more.goes_on.0, more.goes_on.1); legal = λ l. (still.legal, still.few) }
