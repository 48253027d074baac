-- The lines that wait, one entry after the other.
use Rattle.std.proofs.Common.{inl, ◌≡◌, ℕ, suc, ◌+◌, ◌<◌, ◌≤◌, Result, Ok, Err, refl, sym, ◌∙◌, ap, subst, arith, Bool, true, false, List, [], ◌∷◌, ◌++◌, length, length-append, get_or, drop, drop-cons}
use Rattle.std.specs.Prelude.{All, Option, Some, None, IfSome, if◌then◌else◌}
use Rattle.std.proofs.lemmas.Bool.{lt-ltb, le-ltb}
use Rattle.std.proofs.lemmas.List.Elements.{All-push}
use Rattle.std.proofs.Math.ListN.{drop_of_length-le}
use Rattle.slot_text.specs.Reads.{GivesOr}
use Rattle.season_days.specs.declared.declaration.Declaration.{Declaration}
use Rattle.scr_reader.specs.Printed.{LineFits, ItemFits}
use Rattle.scr_reader.specs.declared.line.Line.{Line}
use Rattle.scr_reader.specs.declared.line.Code.{Code}
use Rattle.scr_reader.specs.declared.line.Code.TheVariants.{N, B, F, C, R, L, D, A, Z, K, H, O, U, W, X}
use Rattle.scr_reader.specs.declared.line.Item.{Item}
use Rattle.scr_reader.specs.declared.line.Item.TheVariants.{One, Pair, Query}
use Rattle.choice_problem.specs.declared.problems.TheConstants.{MOST_UNITS}
use Rattle.holding_book.specs.declared.answer.Answer.{Answer}
use Rattle.holding_book.specs.declared.answer.Answer.TheVariants as answers
use Rattle.holding_book.specs.declared.answer.Entry.{Entry}
use Rattle.holding_book.specs.Books.{SlotBook}
use Rattle.holding_book.specs.Asks.{CanAsk}
use Rattle.holding_book.specs.Hints.{asked_line_by, new_line}
use Rattle.wait_list.specs.Waiting.{unmet_by, unmet_line, may_wait, with_line, waiting_after, waiting_lines, waiting_answer}
use Rattle.wait_list.specs.declared.fault.WaitFault.{WaitFault}
use Rattle.wait_list.specs.declared.fault.WaitFault.TheVariants.{TooMany, Memory as NoMemory}

-- ---- the line of an unmet ask has a spelling

asked-fits : (P : Line → Type 0) (line : Line) (code : Code) → P line → IfSome (asked_line_by line code) P
asked-fits P line N h = h
asked-fits P line B h = h
asked-fits P line F h = tt
asked-fits P line C h = tt
asked-fits P line R h = tt
asked-fits P line L h = tt
asked-fits P line D h = tt
asked-fits P line A h = tt
asked-fits P line Z h = tt
asked-fits P line K h = tt
asked-fits P line H h = tt
asked-fits P line O h = tt
asked-fits P line U h = tt
asked-fits P line W h = tt
asked-fits P line X h = tt

new-fits : (d : Declaration) (ask : Item) → ItemFits d.season ask → IfSome (new_line ask) (LineFits d.season)
new-fits d (One line) h = asked-fits (LineFits d.season) line line.code h
new-fits d (Pair historic request) h = tt
new-fits d (Query flight) h = tt

by-fits : (P : Line → Type 0) (answer : Answer) (o : Option Line) → IfSome o P → IfSome (unmet_by answer o) P
by-fits P answers.K o h = tt
by-fits P answers.KChanged o h = tt
by-fits P (answers.Offer line) o h = tt
by-fits P answers.Held o h = tt
by-fits P answers.U o h = h
by-fits P answers.X o h = tt
by-fits P answers.W o h = tt
by-fits P (answers.Listed holdings) o h = tt

unmet-fits : (d : Declaration) (entry : Entry) → CanAsk d entry.ask → IfSome (unmet_line entry) (LineFits d.season)
unmet-fits d entry can = by-fits (LineFits d.season) entry.answer (new_line entry.ask) (new-fits d entry.ask can.spelled)

-- ---- one line more, or none

kept-few : (waiting : List Line) (line : Line) (may : Bool) → length (if may then waiting ++ line ∷ [] else waiting) ≤ length waiting + 1
kept-few waiting line true = omega (arith, length-append waiting (line ∷ []))
kept-few waiting line false = omega arith

kept-all : (P : Line → Type 0) (waiting : List Line) (line : Line) (may : Bool) → All P waiting → P line → All P (if may then waiting ++ line ∷ [] else waiting)
kept-all P waiting line true all h = All-push P waiting line all h
kept-all P waiting line false all h = all

pub with-few : (b : SlotBook) (waiting : List Line) (o : Option Line) → length (with_line b waiting o) ≤ length waiting + 1
with-few b waiting None = omega arith
with-few b waiting (Some line) = kept-few waiting line (may_wait b waiting line)

with-all : (P : Line → Type 0) (b : SlotBook) (waiting : List Line) (o : Option Line) → All P waiting → IfSome o P → All P (with_line b waiting o)
with-all P b waiting None all h = all
with-all P b waiting (Some line) all h = kept-all P waiting line (may_wait b waiting line) all h

pub with-spelled : (d : Declaration) (b : SlotBook) (waiting : List Line) (entry : Entry) → CanAsk d entry.ask → All (LineFits d.season) waiting → All (LineFits d.season) (with_line b waiting (unmet_line entry))
with-spelled d b waiting entry can all = with-all (LineFits d.season) b waiting (unmet_line entry) all (unmet-fits d entry can)

-- ---- along a history

pub after-next : (b : SlotBook) (waiting : List Line) (history : List Entry) (i : ℕ) (entry : Entry) → i < length history →
    waiting_after b waiting (drop i history) ≡ waiting_after b (with_line b waiting (unmet_line (get_or history i entry))) (drop (i + 1) history)
after-next b waiting history i entry lt =
    let next : suc i ≡ i + 1 = omega arith in
    ap (waiting_after b waiting) (drop-cons history i entry lt) ∙ ap (λ (k : ℕ). waiting_after b (with_line b waiting (unmet_line (get_or history i entry))) (drop k history)) next

pub after-end : (b : SlotBook) (waiting : List Line) (history : List Entry) (i : ℕ) → length history ≤ i → waiting_after b waiting (drop i history) ≡ waiting
after-end b waiting history i past = ap (waiting_after b waiting) (drop_of_length-le history past)

pub waiting-begin : (b : SlotBook) (history : List Entry) → waiting_after b [] history ≡ waiting_lines b history
unfolding waiting_lines
waiting-begin b history = refl

module _ (b : SlotBook) (history : List Entry) (i : ℕ) (entry : Entry) (old new : List Line)
    (is : new ≡ with_line b old (unmet_line (get_or history i entry))) where
  pub after-on : i < length history → waiting_after b old (drop i history) ≡ waiting_lines b history → waiting_after b new (drop (i + 1) history) ≡ waiting_lines b history
  after-on lt so_far = ap (λ (lines : List Line). waiting_after b lines (drop (i + 1) history)) is ∙ sym (after-next b old history i entry lt) ∙ so_far

  pub few-on : length old ≤ i → length new ≤ i + 1
  few-on few = omega (arith, ap (λ (lines : List Line). length lines) is, with-few b old (unmet_line (get_or history i entry)), few)

  pub spelled-on : i < length history → All (λ (e : Entry). CanAsk b.declaration e.ask) history → All (LineFits b.declaration.season) old → All (LineFits b.declaration.season) new
  spelled-on lt can all = subst (λ (lines : List Line). All (LineFits b.declaration.season) lines) (sym is) (with-spelled b.declaration b old (get_or history i entry) (can i entry lt) all)

-- ---- how many there are

pub waits-ok : (lines waiting : List Line) → waiting ≡ lines → length waiting ≤ MOST_UNITS → let r : Result (List Line) WaitFault = Ok waiting in GivesOr NoMemory r (waiting_answer lines)
waits-ok lines waiting is few =
    let short : length lines ≤ MOST_UNITS = omega (arith, few, ap (λ (l : List Line). length l) is) in
    let all : waiting_answer lines ≡ Ok lines = rw (le-ltb MOST_UNITS (length lines) short) refl in
    inl (ap (λ (l : List Line). Ok l) is ∙ sym all)

pub waits-many : (lines waiting : List Line) (n : ℕ) → waiting ≡ lines → n ≡ length waiting → MOST_UNITS < n → let r : Result (List Line) WaitFault = Err (TooMany n) in GivesOr NoMemory r (waiting_answer lines)
waits-many lines waiting n is count many =
    let same : n ≡ length lines = count ∙ ap (λ (l : List Line). length l) is in
    let long : MOST_UNITS < length lines = omega (arith, same, many) in
    let all : waiting_answer lines ≡ Err (TooMany (length lines)) = rw (lt-ltb MOST_UNITS (length lines) long) refl in
    inl (ap (λ (k : ℕ). Err (TooMany k)) same ∙ sym all)
