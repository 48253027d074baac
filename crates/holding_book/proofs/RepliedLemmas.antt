-- The answer that is due is one that its ask can have, and its lines have a spelling.
use Rattle.std.proofs.Common.{◌≡◌, ◌==◌, true, false, cond, List, [], ◌∷◌, ◌++◌, refl, sym, subst, Option, Some, None}
use Rattle.std.specs.Prelude.{All, filter}
use Rattle.std.proofs.lemmas.List.Elements.{All-nil, All-cons, All-filter, All-contains, All-head, All-tail}
use Rattle.season_days.specs.declared.declaration.Declaration.{Declaration}
use Rattle.scr_reader.specs.Printed.{LineFits}
use Rattle.scr_reader.specs.declared.line.Line.{Line}
use Rattle.scr_reader.specs.declared.line.Flight.{Flight}
use Rattle.scr_reader.specs.declared.line.Code.{Code}
use Rattle.scr_reader.specs.declared.line.Code.TheVariants.{N, B, D, Z, A, F, C, R, L, K, H, O, U, W, X}
use Rattle.scr_reader.specs.declared.line.Item.{Item}
use Rattle.scr_reader.specs.declared.line.Item.TheVariants.{One, Pair, Query}
use Rattle.series_model.specs.declared.times.Times.{Times}
use Rattle.series_model.specs.Displacement.{cost_at}
use Rattle.series_model.specs.Options.{shifts_of}
use Rattle.series_model.specs.TimedLines.{line_at, line_movements}
use Rattle.holding_book.specs.declared.holding.Holding.{Holding}
use Rattle.holding_book.specs.declared.holding.State.TheVariants.{Confirmed, Offered}
use Rattle.holding_book.specs.declared.answer.Entry.{Entry}
use Rattle.holding_book.specs.declared.answer.Answer.{Answer}
use Rattle.holding_book.specs.declared.answer.Answer.TheVariants.{K as granted, KChanged as changed, Offer as offer, Held as held, W as not_processed}
use Rattle.holding_book.specs.Lines.{has_flight, matches, replace_first}
use Rattle.holding_book.specs.Books.{SlotBook, IsBook, season_of, confirmed, offered, clashes_with, fits_beside, best_times}
use Rattle.holding_book.specs.Asks.{AskOutcome, stays, offer_outcome, new_outcome, released, release_by, change_by, accept, accept_by, listing, line_outcome, outcome, reply, next, CanAsk}
use Rattle.holding_book.specs.Replied.{IsLineAnswer, IsPairAnswer, IsQueryAnswer, IsAnswerTo, HasAnswerLines}
use Rattle.holding_book.specs.Histories.{IsLegal}
use Rattle.holding_book.proofs.NextLemmas.{IsFitting, best_fits}
use Rattle.holding_book.proofs.BookLemmas.{SpelledShifts}
use Rattle.holding_book.proofs.GrowthLemmas.{next-declaration}

module _ (shifts : SpelledShifts) (b : SlotBook) (all : All (λ (holding : Holding). LineFits (season_of b) holding.line) b.holdings) where
  abbrev ToLine : AskOutcome → Type 0
  ToLine o = IsLineAnswer (season_of b) o.answer

  abbrev ToPair : AskOutcome → Type 0
  ToPair o = IsPairAnswer o.answer

  to_offer : (line : Line) → LineFits (season_of b) line → (best : Option Times) → ((t : Times) → best ≡ Some t → IsFitting b line t) → ToLine (offer_outcome b line best)
  to_offer line fit None is = tt
  to_offer line fit (Some times) is =
      let found = is times refl in
      elim (cost_at b.declaration line times == 0) as (λ v. ToLine (cond v (record { answer = granted; holdings = b.holdings ++ confirmed line ∷ [] }) (record { answer = offer (line_at line times); holdings = b.holdings ++ offered (line_at line times) ∷ [] }))) [
        | true ↦ tt
        | false ↦ All-contains (λ t. LineFits (season_of b) (line_at line t)) (shifts_of b.declaration line) times (shifts b.declaration line fit) found.shift
      ]

  to_new : (line : Line) → LineFits (season_of b) line → ToLine (new_outcome b line)
  to_new line fit =
      elim (clashes_with (season_of b) line b.holdings) as (λ v. ToLine (cond v (stays b not_processed) (offer_outcome b line (best_times b line)))) [
        | true ↦ tt
        | false ↦ to_offer line fit (best_times b line) (best_fits b line)
      ]

  to_release : (left : Option (List Holding)) → ToLine (release_by b left)
  to_release None = tt
  to_release (Some left) = tt

  to_accept : (left : Option (List Holding)) → ToLine (accept_by b left)
  to_accept None = tt
  to_accept (Some left) = tt

  to_change : (request : Line) (left : Option (List Holding)) → ToPair (change_by b request left)
  to_change request None = tt
  to_change request (Some left) =
      elim (clashes_with (season_of b) request left) as (λ v. ToPair (cond v (stays b not_processed) (cond (fits_beside b.declaration left (line_movements (season_of b) request)) (record { answer = changed; holdings = left ++ confirmed request ∷ [] }) (stays b held)))) [
        | true ↦ tt
        | false ↦ elim (fits_beside b.declaration left (line_movements (season_of b) request)) as (λ v. ToPair (cond v (record { answer = changed; holdings = left ++ confirmed request ∷ [] }) (stays b held))) [
          | true ↦ tt
          | false ↦ tt
        ]
      ]

  to_listing : (holdings : List Holding) → All (λ (holding : Holding). LineFits (season_of b) holding.line) holdings → IsQueryAnswer (season_of b) (listing b holdings)
  to_listing [] fit = tt
  to_listing (holding ∷ holdings) fit = fit

  to_query : (flight : Flight) → IsQueryAnswer (season_of b) (listing b (filter (λ (holding : Holding). has_flight flight holding.line) b.holdings))
  to_query flight = to_listing _ (All-filter (λ (holding : Holding). has_flight flight holding.line) (λ (holding : Holding). LineFits (season_of b) holding.line) b.holdings all)

  to_line : (line : Line) → LineFits (season_of b) line → (code : Code) → ToLine (line_outcome b line code)
  to_line line fit N = to_new line fit
  to_line line fit B = to_new line fit
  to_line line fit D = to_release (released b Confirmed line)
  to_line line fit Z = to_release (released b Offered line)
  to_line line fit A = to_accept (replace_first (matches (season_of b) Offered line) (accept b line) b.holdings)
  to_line line fit F = tt
  to_line line fit C = tt
  to_line line fit R = tt
  to_line line fit L = tt
  to_line line fit K = tt
  to_line line fit H = tt
  to_line line fit O = tt
  to_line line fit U = tt
  to_line line fit W = tt
  to_line line fit X = tt

  to_ask : (ask : Item) → CanAsk b.declaration ask → IsAnswerTo (season_of b) ask (outcome b ask).answer
  to_ask (One line) can = to_line line can.spelled line.code
  to_ask (Pair historic request) can = to_change request (released b Confirmed historic)
  to_ask (Query flight) can = to_query flight

pub reply_lines : SpelledShifts → (b : SlotBook) (ask : Item) → IsBook b → CanAsk b.declaration ask → HasAnswerLines b.declaration.season ask (reply b ask)
unfolding reply
reply_lines shifts b ask is can = record { asked = can.spelled; answered = to_ask shifts b is.lines ask can }

-- ---- of a history

abbrev KeepsBook : Type 0
KeepsBook = (b : SlotBook) (ask : Item) → IsBook b → CanAsk b.declaration ask → IsBook (next b ask)

abbrev CanAskAll : Declaration → List Entry → Type 0
CanAskAll d history = All (λ (entry : Entry). CanAsk d entry.ask) history

abbrev HaveLines : Declaration → List Entry → Type 0
HaveLines d history = All (λ (entry : Entry). HasAnswerLines d.season entry.ask entry.answer) history

pub legal_lines : SpelledShifts → KeepsBook → (b : SlotBook) (history : List Entry) → IsBook b → IsLegal b history → CanAskAll b.declaration history → HaveLines b.declaration history
legal_lines shifts keeps b [] is legal can = All-nil (λ (entry : Entry). HasAnswerLines b.declaration.season entry.ask entry.answer)
legal_lines shifts keeps b (entry ∷ later) is legal can =
    let first = All-head (λ (e : Entry). CanAsk b.declaration e.ask) entry later can in
    let rest = All-tail (λ (e : Entry). CanAsk b.declaration e.ask) entry later can in
    let same = next-declaration b entry.ask in
    let after = legal_lines shifts keeps (next b entry.ask) later (keeps b entry.ask is first) legal.1 (subst (λ (d : Declaration). CanAskAll d later) (sym same) rest) in
    All-cons (λ (e : Entry). HasAnswerLines b.declaration.season e.ask e.answer) entry later
    (subst (λ (answer : Answer). HasAnswerLines b.declaration.season entry.ask answer) (sym legal.0) (reply_lines shifts b entry.ask is first))
    (subst (λ (d : Declaration). HaveLines d later) same after)
