-- Histories that grow at their end.
use Rattle.std.proofs.Common.{◌≡◌, List, [], ◌∷◌, ◌++◌, refl, sym, ◌∙◌, subst}
use Rattle.std.specs.Prelude.{All}
use Rattle.std.proofs.lemmas.List.Elements.{All-head, All-tail}
use Rattle.season_days.specs.declared.declaration.Declaration.{Declaration}
use Rattle.scr_reader.specs.declared.line.Item.{Item}
use Rattle.holding_book.specs.declared.answer.Entry.{Entry}
use Rattle.holding_book.specs.Books.{SlotBook, IsBook}
use Rattle.holding_book.specs.Asks.{reply, next, CanAsk}
use Rattle.holding_book.specs.Histories.{replay, IsLegal}
use Rattle.holding_book.proofs.GrowthLemmas.{next-declaration}

pub replay-more : (b : SlotBook) (history : List Entry) (entry : Entry) → replay b (history ++ entry ∷ []) ≡ next (replay b history) entry.ask
replay-more b [] entry = refl
replay-more b (first ∷ history) entry = replay-more (next b first.ask) history entry

pub IsLegal-more : (b : SlotBook) (history : List Entry) (entry : Entry) → IsLegal b history → entry.answer ≡ reply (replay b history) entry.ask → IsLegal b (history ++ entry ∷ [])
IsLegal-more b [] entry legal due = (due, tt)
IsLegal-more b (first ∷ history) entry legal due = (legal.0, IsLegal-more (next b first.ask) history entry legal.1 due)

pub replay-declaration : (b : SlotBook) (history : List Entry) → (replay b history).declaration ≡ b.declaration
replay-declaration b [] = refl
replay-declaration b (entry ∷ later) = replay-declaration (next b entry.ask) later ∙ next-declaration b entry.ask

abbrev KeepsBook : Type 0
KeepsBook = (b : SlotBook) (ask : Item) → IsBook b → CanAsk b.declaration ask → IsBook (next b ask)

pub replay-book : KeepsBook → (b : SlotBook) (history : List Entry) → IsBook b → All (λ (entry : Entry). CanAsk b.declaration entry.ask) history → IsBook (replay b history)
replay-book keeps b [] is all = is
replay-book keeps b (entry ∷ later) is all =
    let can = All-head (λ (e : Entry). CanAsk b.declaration e.ask) entry later all in
    let rest = All-tail (λ (e : Entry). CanAsk b.declaration e.ask) entry later all in
    replay-book keeps (next b entry.ask) later (keeps b entry.ask is can)
    (subst (λ (d : Declaration). All (λ (e : Entry). CanAsk d e.ask) later) (sym (next-declaration b entry.ask)) rest)
