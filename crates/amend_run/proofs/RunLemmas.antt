-- Runs of messages, one message more in front, and the history that they make.
use Rattle.std.proofs.Common.{◌≡◌, ℕ, suc, ◌+◌, ◌<◌, ◌≤◌, refl, sym, ◌∙◌, ap, subst, arith, List, [], ◌∷◌, ◌++◌, length, map, get_or, drop, drop-cons, length-append, append_assoc}
use Rattle.std.specs.Prelude.{All}
use Rattle.std.proofs.Math.ListN.{drop_of_length-le}
use Rattle.std.proofs.lemmas.List.{append-nil}
use Rattle.std.proofs.lemmas.List.Elements.{All-nil, All-append, All-head, All-tail}
use Rattle.season_days.specs.declared.declaration.Declaration.{Declaration}
use Rattle.holding_book.specs.declared.answer.Entry.{Entry}
use Rattle.holding_book.specs.Books.{SlotBook, IsBook}
use Rattle.holding_book.specs.Asks.{next}
use Rattle.holding_book.specs.Histories.{replay, IsLegal}
use Rattle.scr_reader.specs.Streams.{piece_lines, messages_at_end}
use Rattle.scr_reader.specs.declared.message.Piece.{Piece}
use Rattle.amend_run.specs.declared.run.Amended.{Amended}
use Rattle.amend_run.specs.Amended.{AreAnsweredMessages, FitsThroughout, IsAmended}
use Rattle.amend_run.specs.Private.Due.{IsMessageStep, IsRun, line_total}
use Rattle.amend_run.proofs.DueLemmas.{KeepsBook, KeepsDeclaration, CanAskEntry}

abbrev pub ReplayKeeps : Type 0
ReplayKeeps = (b : SlotBook) (history : List Entry) → (replay b history).declaration ≡ b.declaration

legal_append : (b : SlotBook) (own later : List Entry) → IsLegal b own → IsLegal (replay b own) later → IsLegal b (own ++ later)
legal_append b [] later one other = other
legal_append b (entry ∷ own) later one other = (one.0, legal_append (next b entry.ask) own later one.1 other)

replay_append : (b : SlotBook) (own later : List Entry) → replay b (own ++ later) ≡ replay (replay b own) later
replay_append b [] later = refl
replay_append b (entry ∷ own) later = replay_append (next b entry.ask) own later

pub run_none : (b : SlotBook) → IsRun b [] [] [] b
run_none b = record {
  texts = [];
  legal = tt;
  can = All-nil (CanAskEntry b.declaration);
  answered = refl;
  book = refl;
  text_is = refl;
}

run_more : (b after last : SlotBook) (lines : List (List ℕ)) (messages : List (List (List ℕ))) (before written rest : List ℕ) (past history later : List Entry) →
    ReplayKeeps → (step : IsMessageStep b lines before written past history after) → IsRun after messages rest later last → IsRun b (lines ∷ messages) (step.text ++ rest) (step.own ++ later) last
run_more b after last lines messages before written rest past history later keeps step then =
    let run : IsRun (replay b step.own) messages rest later last = subst (λ (s : SlotBook). IsRun s messages rest later last) step.book then in
    let same : (replay b step.own).declaration ≡ b.declaration = keeps b step.own in
    record {
      texts = step.text ∷ run.texts;
      legal = legal_append b step.own later step.legal run.legal;
      can = All-append (CanAskEntry b.declaration) step.own later step.can (subst (λ (d : Declaration). All (CanAskEntry d) later) same run.can);
      answered = (step.own, later, refl, step.answered, subst (λ (d : Declaration). AreAnsweredMessages d.season d.airport 0 messages later run.texts) same run.answered);
      book = run.book ∙ sym (replay_append b step.own later);
      text_is = ap (λ (t : List ℕ). step.text ++ t) run.text_is;
    }

-- with any run of the messages that are left, what came so far is a run of all
abbrev pub RunsOn : SlotBook → List (List (List ℕ)) → SlotBook → List (List (List ℕ)) → List ℕ → List Entry → Type 0
RunsOn start whole b messages text history =
    (rest : List ℕ) (later : List Entry) (last : SlotBook) → IsRun b messages rest later last → IsRun start whole (text ++ rest) (history ++ later) last

pub run_on : (start : SlotBook) (whole : List (List (List ℕ))) (b after : SlotBook) (lines : List (List ℕ)) (messages : List (List (List ℕ))) (before written : List ℕ) (past history : List Entry) →
    ReplayKeeps → RunsOn start whole b (lines ∷ messages) before past → IsMessageStep b lines before written past history after → RunsOn start whole after messages written history
run_on start whole b after lines messages before written past history keeps on step = λ rest later last run.
    let all : IsRun start whole (before ++ (step.text ++ rest)) (past ++ (step.own ++ later)) last =
    on (step.text ++ rest) (step.own ++ later) last (run_more b after last lines messages before written rest past history later keeps step run) in
    let text : before ++ (step.text ++ rest) ≡ written ++ rest = sym (append_assoc before step.text rest) ∙ ap (λ (t : List ℕ). t ++ rest) (sym step.written_is) in
    let entries : past ++ (step.own ++ later) ≡ history ++ later = sym (append_assoc past step.own later) ∙ ap (λ (h : List Entry). h ++ later) (sym step.history_is) in
    subst (λ (h : List Entry). IsRun start whole (written ++ rest) h last) entries (subst (λ (t : List ℕ). IsRun start whole t (past ++ (step.own ++ later)) last) text all)

pub fits_throughout : (b : SlotBook) (history : List Entry) → KeepsBook → KeepsDeclaration → IsBook b → All (CanAskEntry b.declaration) history → FitsThroughout b history
fits_throughout b [] keeps same is can = is.fits
fits_throughout b (entry ∷ later) keeps same is can = (
  is.fits,
  fits_throughout (next b entry.ask) later keeps same
      (keeps b entry.ask is (All-head (CanAskEntry b.declaration) entry later can))
      (subst (λ (d : Declaration). All (CanAskEntry d) later) (sym (same b entry.ask)) (All-tail (CanAskEntry b.declaration) entry later can)),
)

-- ---- messages by their pieces

abbrev pub lines_of_pieces : List ℕ → List Piece → List (List (List ℕ))
lines_of_pieces asks pieces = map (piece_lines asks) pieces

piece_at : (asks : List ℕ) (pieces : List Piece) (i : ℕ) (d : Piece) → i < length pieces →
    lines_of_pieces asks (drop i pieces) ≡ piece_lines asks (get_or pieces i d) ∷ lines_of_pieces asks (drop (i + 1) pieces)
piece_at asks pieces i d lt =
    let next : suc i ≡ i + 1 = omega arith in
    ap (lines_of_pieces asks) (drop-cons pieces i d lt ∙ ap (λ (k : ℕ). get_or pieces i d ∷ drop k pieces) next)

pub piece_on : (start : SlotBook) (asks : List ℕ) (pieces : List Piece) (i : ℕ) (d : Piece) (b after : SlotBook) (before written : List ℕ) (past history : List Entry) →
    ReplayKeeps → i < length pieces → RunsOn start (lines_of_pieces asks pieces) b (lines_of_pieces asks (drop i pieces)) before past →
    IsMessageStep b (piece_lines asks (get_or pieces i d)) before written past history after →
    RunsOn start (lines_of_pieces asks pieces) after (lines_of_pieces asks (drop (i + 1) pieces)) written history
piece_on start asks pieces i d b after before written past history keeps lt on step =
    run_on start (lines_of_pieces asks pieces) b after (piece_lines asks (get_or pieces i d)) (lines_of_pieces asks (drop (i + 1) pieces)) before written past history keeps
    (subst (λ (messages : List (List (List ℕ))). RunsOn start (lines_of_pieces asks pieces) b messages before past) (piece_at asks pieces i d lt) on)
    step

pub piece_few : (asks : List ℕ) (pieces : List Piece) (i : ℕ) (d : Piece) (n k most : ℕ) → i < length pieces →
    n + line_total (lines_of_pieces asks (drop i pieces)) ≤ most → k ≤ n + length (piece_lines asks (get_or pieces i d)) →
    k + line_total (lines_of_pieces asks (drop (i + 1) pieces)) ≤ most
piece_few asks pieces i d n k most lt few own =
    omega (arith, few, own, ap line_total (piece_at asks pieces i d lt))

pub run_end : (start : SlotBook) (asks : List ℕ) (pieces : List Piece) (i : ℕ) (b : SlotBook) (text : List ℕ) (history : List Entry) → length pieces ≤ i →
    RunsOn start (lines_of_pieces asks pieces) b (lines_of_pieces asks (drop i pieces)) text history → IsRun start (lines_of_pieces asks pieces) text history b
run_end start asks pieces i b text history past on =
    let none : drop i pieces ≡ [] = drop_of_length-le pieces past in
    let left : IsRun b (lines_of_pieces asks (drop i pieces)) [] [] b = subst (λ (left : List Piece). IsRun b (lines_of_pieces asks left) [] [] b) (sym none) (run_none b) in
    let all : IsRun start (lines_of_pieces asks pieces) (text ++ []) (history ++ []) b = on [] [] b left in
    subst (λ (t : List ℕ). IsRun start (lines_of_pieces asks pieces) t history b) (append-nil text)
    (subst (λ (h : List Entry). IsRun start (lines_of_pieces asks pieces) (text ++ []) h b) (append-nil history) all)

-- ---- all messages of a text

pub amended_of : (start : SlotBook) (asks : List ℕ) (messages : List (List (List ℕ))) (amended : Amended) → KeepsBook → KeepsDeclaration → IsBook start →
    messages ≡ messages_at_end asks → IsRun start messages amended.text.items amended.history.items amended.book.book → IsAmended start asks amended
amended_of start asks messages amended keeps same is are run = record {
  texts = run.texts;
  asked = record {
    legal = run.legal;
    answered = subst (λ (ms : List (List (List ℕ))). AreAnsweredMessages start.declaration.season start.declaration.airport 0 ms amended.history.items run.texts) are run.answered;
  };
  can = run.can;
  fits = fits_throughout start amended.history.items keeps same is run.can;
  book = run.book;
  text = run.text_is;
}
