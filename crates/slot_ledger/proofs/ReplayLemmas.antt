-- A history that leads to a book, and one entry more.
use Rattle.std.proofs.Common.{◌≡◌, ◌+◌, ◌*◌, ◌<◌, ◌≤◌, List, [], ◌∷◌, ◌++◌, length, sym, ap, ◌∙◌, arith, length-append}
use Rattle.std.proofs.lemmas.List.Elements.{All-push}
use Rattle.scr_reader.specs.declared.line.Item.{Item}
use Rattle.holding_book.specs.declared.answer.Entry.{Entry}
use Rattle.holding_book.specs.Asks.{CanAsk, reply, next}
use Rattle.holding_book.specs.Books.{BookView, SlotBook}
use Rattle.holding_book.specs.Histories.{replay, IsLegal}
use Rattle.slot_ledger.specs.declared.shared.Start.{Start}
use Rattle.slot_ledger.specs.Shared.{IsReplayed}
use Rattle.slot_ledger.specs.Starts.{first_book}

module _ (declared : (b : SlotBook) (ask : Item) → (next b ask).declaration ≡ b.declaration)
    (grows : (b : SlotBook) (ask : Item) → length (next b ask).holdings ≤ length b.holdings + 3)
    (replays : (b : SlotBook) (history : List Entry) (entry : Entry) → replay b (history ++ entry ∷ []) ≡ next (replay b history) entry.ask)
    (legals : (b : SlotBook) (history : List Entry) (entry : Entry) → IsLegal b history → entry.answer ≡ reply (replay b history) entry.ask → IsLegal b (history ++ entry ∷ [])) where
  pub replayed_more : (start : Start) (book after : BookView) (history : List Entry) (entry : Entry) → IsReplayed start book history → length history < start.most → CanAsk start.declaration entry.ask
      → entry.answer ≡ reply book.book entry.ask → after.book ≡ next book.book entry.ask → IsReplayed start after (history ++ entry ∷ [])
  replayed_more start book after history entry was room can answer is =
      let longer : length (history ++ entry ∷ []) ≡ length history + 1 = length-append history (entry ∷ []) in
      let holdings : length after.book.holdings ≤ length book.book.holdings + 3 = rw is (grows book.book entry.ask) in
      let grown : length book.book.holdings ≤ length start.holdings + 3 * length history = was.grown in
      record {
        replayed = is ∙ ap (λ (b : SlotBook). next b entry.ask) was.replayed ∙ sym (replays (first_book start) history entry);
        legal = legals (first_book start) history entry was.legal (answer ∙ ap (λ (b : SlotBook). reply b entry.ask) was.replayed);
        few = omega (arith, longer, room);
        bounded = was.bounded;
        small = was.small;
        grown = omega (arith, longer, holdings, grown);
        declared = ap (λ (b : SlotBook). b.declaration) is ∙ declared book.book entry.ask ∙ was.declared;
        asked = All-push (λ (e : Entry). CanAsk start.declaration e.ask) history entry was.asked can;
      }
