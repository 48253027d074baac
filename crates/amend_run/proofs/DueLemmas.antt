-- The answers that are due to items: as entries of a history, and as lines.
use Rattle.std.proofs.Common.{◌≡◌, ℕ, suc, ◌+◌, ◌*◌, ◌<◌, ◌≤◌, inl, inr, refl, sym, ◌∙◌, ap, subst, arith, List, [], ◌∷◌, ◌++◌, length, map, get_or, drop, drop-cons, append_assoc}
use Rattle.std.specs.Prelude.{All, Result, Ok, Err, OnOk}
use Rattle.std.proofs.lemmas.List.{append-nil}
use Rattle.std.proofs.lemmas.List.Elements.{All-nil, All-cons, All-head, All-tail}
use Rattle.season_days.specs.declared.declaration.Declaration.{Declaration}
use Rattle.scr_reader.specs.declared.line.Item.{Item}
use Rattle.scr_reader.specs.declared.message.Placed.{Placed}
use Rattle.scr_reader.specs.declared.message.Message.{Message}
use Rattle.holding_book.specs.declared.answer.Answer.{Answer}
use Rattle.holding_book.specs.declared.answer.Entry.{Entry}
use Rattle.holding_book.specs.Books.{SlotBook, IsBook}
use Rattle.holding_book.specs.Asks.{CanAsk, reply, next}
use Rattle.holding_book.specs.Histories.{replay, IsLegal}
use Rattle.holding_book.specs.Replied.{HasAnswerLines}
use Rattle.scr_replies.specs.Replies.{AreAnswerLines, reply_text, bad_text}
use Rattle.scr_replies.specs.Received.{IsGoodMessage, IsBadAt}
use Rattle.amend_run.specs.Private.Due.{due_answers, book_after, due_entry, due_entries, IsMessageStep}

-- ---- laws of books

abbrev pub KeepsBook : Type 0
KeepsBook = (b : SlotBook) (ask : Item) → IsBook b → CanAsk b.declaration ask → IsBook (next b ask)

abbrev pub KeepsDeclaration : Type 0
KeepsDeclaration = (b : SlotBook) (ask : Item) → (next b ask).declaration ≡ b.declaration

abbrev pub AddsFew : Type 0
AddsFew = (b : SlotBook) (ask : Item) → length (next b ask).holdings ≤ length b.holdings + 3

abbrev pub HaveLines : Type 0
HaveLines = (b : SlotBook) (ask : Item) → IsBook b → CanAsk b.declaration ask → HasAnswerLines b.declaration.season ask (reply b ask)

abbrev pub CanAskItem : Declaration → Placed → Type 0
CanAskItem d placed = CanAsk d placed.item

abbrev pub CanAskEntry : Declaration → Entry → Type 0
CanAskEntry d entry = CanAsk d entry.ask

-- ---- the lines of the answers

pub later_can : (b : SlotBook) (placed : Placed) (items : List Placed) → KeepsDeclaration → All (CanAskItem b.declaration) (placed ∷ items) → All (CanAskItem (next b placed.item).declaration) items
later_can b placed items same can =
    subst (λ (d : Declaration). All (CanAskItem d) items) (sym (same b placed.item)) (All-tail (CanAskItem b.declaration) placed items can)

pub due_lines : (b : SlotBook) (items : List Placed) → HaveLines → KeepsBook → KeepsDeclaration → IsBook b → All (CanAskItem b.declaration) items → AreAnswerLines b.declaration.season items (due_answers b items)
due_lines b [] lines keeps same is can = tt
due_lines b (placed ∷ items) lines keeps same is can =
    let here = All-head (CanAskItem b.declaration) placed items can in
    let after = next b placed.item in (
      lines b placed.item is here,
      subst (λ (d : Declaration). AreAnswerLines d.season items (due_answers after items)) (same b placed.item)
          (due_lines after items lines keeps same (keeps b placed.item is here) (later_can b placed items same can)),
    )

pub due_growth : (b : SlotBook) (items : List Placed) → AddsFew → length (book_after b items).holdings ≤ length b.holdings + 3 * length items
due_growth b [] few = omega arith
due_growth b (placed ∷ items) few = omega (arith, few b placed.item, due_growth (next b placed.item) items few)

-- ---- one answer more

pub answers_next : (b after : SlotBook) (items rest : List Placed) (placed : Placed) (before : List Answer) (answer : Answer) → items ≡ placed ∷ rest → answer ≡ reply b placed.item → after ≡ next b placed.item →
    (before ++ answer ∷ []) ++ due_answers after rest ≡ before ++ due_answers b items
answers_next b after items rest placed before answer is due changed =
    rw (is, due, changed) (append_assoc before (reply b placed.item ∷ []) (due_answers (next b placed.item) rest))

pub after_next : (b after : SlotBook) (items rest : List Placed) (placed : Placed) → items ≡ placed ∷ rest → after ≡ next b placed.item → book_after after rest ≡ book_after b items
after_next b after items rest placed is changed = rw (is, changed) refl

pub here : {X : Type 0} (xs : List X) (i : ℕ) (x : X) → i < length xs → x ≡ get_or xs i x → drop i xs ≡ x ∷ drop (i + 1) xs
here {X} xs i x lt is =
    let next : suc i ≡ i + 1 = omega arith in
    drop-cons xs i x lt ∙ ap (λ (y : X). y ∷ drop (suc i) xs) (sym is) ∙ ap (λ (k : ℕ). x ∷ drop k xs) next

-- ---- the entries

due_legal : (b : SlotBook) (items : List Placed) → IsLegal b (due_entries b items)
due_legal b [] = tt
due_legal b (placed ∷ items) = (refl, due_legal (next b placed.item) items)

due_can : (d : Declaration) (b : SlotBook) (items : List Placed) → All (CanAskItem d) items → All (CanAskEntry d) (due_entries b items)
due_can d b [] can = All-nil (CanAskEntry d)
due_can d b (placed ∷ items) can =
    All-cons (CanAskEntry d) (due_entry b placed) (due_entries (next b placed.item) items)
    (All-head (CanAskItem d) placed items can)
    (due_can d (next b placed.item) items (All-tail (CanAskItem d) placed items can))

due_callers : (b : SlotBook) (items : List Placed) → All (λ (entry : Entry). entry.caller ≡ 0) (due_entries b items)
due_callers b [] = All-nil (λ (entry : Entry). entry.caller ≡ 0)
due_callers b (placed ∷ items) =
    All-cons (λ (entry : Entry). entry.caller ≡ 0) (due_entry b placed) (due_entries (next b placed.item) items) refl (due_callers (next b placed.item) items)

due_asks : (b : SlotBook) (items : List Placed) → map (λ (entry : Entry). entry.ask) (due_entries b items) ≡ map (λ (placed : Placed). placed.item) items
due_asks b [] = refl
due_asks b (placed ∷ items) = ap (λ (asks : List Item). placed.item ∷ asks) (due_asks (next b placed.item) items)

due_answered : (b : SlotBook) (items : List Placed) → map (λ (entry : Entry). entry.answer) (due_entries b items) ≡ due_answers b items
due_answered b [] = refl
due_answered b (placed ∷ items) = ap (λ (answers : List Answer). reply b placed.item ∷ answers) (due_answered (next b placed.item) items)

due_book : (b : SlotBook) (items : List Placed) → book_after b items ≡ replay b (due_entries b items)
due_book b [] = refl
due_book b (placed ∷ items) = due_book (next b placed.item) items

pub due_count : (b : SlotBook) (items : List Placed) → length (due_entries b items) ≡ length items
due_count b [] = refl
due_count b (placed ∷ items) = ap (λ (n : ℕ). suc n) (due_count (next b placed.item) items)

pub entries_next : (b after : SlotBook) (items rest : List Placed) (placed : Placed) (before : List Entry) → items ≡ placed ∷ rest → after ≡ next b placed.item →
    (before ++ due_entry b placed ∷ []) ++ due_entries after rest ≡ before ++ due_entries b items
entries_next b after items rest placed before is changed =
    rw (is, changed) (append_assoc before (due_entry b placed ∷ []) (due_entries (next b placed.item) rest))

-- ---- what three facts show where a call succeeds

pub all_ok : {X F A B C D : Type 0} (r : Result X F) → OnOk r A → OnOk r B → OnOk r C → (A → B → C → D) → OnOk r D
all_ok (Ok x) a b c then = then a b c
all_ok (Err e) a b c then = tt

-- ---- the step of one message

pub good_step : (b : SlotBook) (lines : List (List ℕ)) (message : Message) (before written : List ℕ) (past history : List Entry) (after : SlotBook) →
    IsGoodMessage b.declaration.season b.declaration.airport lines message → All (CanAskItem b.declaration) message.items →
    written ≡ before ++ reply_text message (due_answers b message.items) → history ≡ past ++ due_entries b message.items → after ≡ book_after b message.items →
    IsMessageStep b lines before written past history after
good_step b lines message before written past history after good can wrote entered changed = record {
  own = due_entries b message.items;
  text = reply_text message (due_answers b message.items);
  legal = due_legal b message.items;
  can = due_can b.declaration b message.items can;
  answered = inl (record {
    message = message;
    good = good;
    own = record { callers = due_callers b message.items; asks_are = due_asks b message.items };
    text_is = ap (reply_text message) (sym (due_answered b message.items));
  });
  book = changed ∙ due_book b message.items;
  written_is = wrote;
  history_is = entered;
}

pub bad_step : (b : SlotBook) (lines : List (List ℕ)) (line : ℕ) (before written : List ℕ) (history : List Entry) →
    IsBadAt b.declaration.season b.declaration.airport lines line → written ≡ before ++ bad_text line →
    IsMessageStep b lines before written history history b
bad_step b lines line before written history bad wrote = record {
  own = [];
  text = bad_text line;
  legal = tt;
  can = All-nil (CanAskEntry b.declaration);
  answered = inr (record { line = line; bad = bad; none = refl; text_is = refl });
  book = refl;
  written_is = wrote;
  history_is = sym (append-nil history);
}
