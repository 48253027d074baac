-- Each line of a book still has a spelling after each row of the table.
use Rattle.std.proofs.Common.{◌≡◌, ◌==◌, Bool, true, false, cond, List, [], ◌∷◌, ◌++◌, refl, arith, Option, Some, None}
use Rattle.std.specs.Prelude.{All}
use Rattle.std.specs.Option.{option_map}
use Rattle.std.proofs.lemmas.List.Elements.{All-nil, All-cons, All-map, All-append, All-weaker, All-contains, All-head, All-tail}
use Rattle.season_days.specs.Term.{Term}
use Rattle.season_days.specs.Periods.{cut_of, cut_periods, IsPartOf}
use Rattle.season_days.specs.declared.day.Period.{Period}
use Rattle.season_days.specs.declared.declaration.Declaration.{Declaration}
use Rattle.scr_reader.specs.Printed.{LineFits, StopsFit}
use Rattle.scr_reader.specs.declared.line.Line.{Line}
use Rattle.scr_reader.specs.declared.line.Stop.{Stop}
use Rattle.scr_reader.specs.declared.line.Code.{Code}
use Rattle.scr_reader.specs.declared.line.Code.TheVariants.{N, B, D, Z, A, F, C, R, L, K, H, O, U, W, X}
use Rattle.scr_reader.specs.declared.line.Item.{Item}
use Rattle.scr_reader.specs.declared.line.Item.TheVariants.{One, Pair, Query}
use Rattle.series_model.specs.declared.times.Times.{Times}
use Rattle.series_model.specs.Displacement.{cost_at}
use Rattle.series_model.specs.Options.{shifts_of}
use Rattle.series_model.specs.TimedLines.{line_at, line_movements}
use Rattle.holding_book.specs.declared.holding.Holding.{Holding}
use Rattle.holding_book.specs.declared.holding.State.{State}
use Rattle.holding_book.specs.declared.holding.State.TheVariants.{Confirmed, Offered}
use Rattle.holding_book.specs.declared.answer.Answer.TheVariants.{K as granted, KChanged as changed, Offer as offer, Held as held, W as not_processed}
use Rattle.holding_book.specs.Lines.{matches, in_period, cut_holding, replace_first}
use Rattle.holding_book.specs.Books.{SlotBook, IsBook, season_of, confirmed, offered, clashes_with, fits_beside, best_times}
use Rattle.holding_book.specs.Asks.{AskOutcome, stays, offer_outcome, new_outcome, released, release_by, change_by, accept, accept_by, line_outcome, outcome, next, CanAsk}
use Rattle.holding_book.proofs.LoadLemmas.{CutCounts, MovementLoads}
use Rattle.holding_book.proofs.NextLemmas.{TimedMovements, FreeShift, IsFitting, best_fits, next_fits}

-- ---- laws of the crates below

-- each part of a cut lies within the held period
abbrev pub CutParts : Type 0
CutParts = (season : Term) (held asked : Period) → All (IsPartOf season held) (cut_periods (cut_of season held asked))

-- a line at each of its shifts has a spelling
abbrev pub SpelledShifts : Type 0
SpelledShifts = (d : Declaration) (line : Line) → LineFits d.season line → All (λ times. LineFits d.season (line_at line times)) (shifts_of d line)

-- ---- a line in another period

abbrev in_line : Line → Period → Line
in_line line period = record line { period = period }

same_stops : (line : Line) (period : Period) (a g : Option Stop) → StopsFit line a g → StopsFit (in_line line period) a g
same_stops line period None None fit = fit
same_stops line period (Some coming) None fit = fit
same_stops line period None (Some going) fit = fit
same_stops line period (Some coming) (Some going) fit = fit

module _ (season : Term) where
  abbrev pub IsSpelled : Holding → Type 0
  IsSpelled holding = LineFits season holding.line

  in_part : (holding : Holding) (part : Period) → IsSpelled holding → IsPartOf season holding.line.period part → IsSpelled (in_period holding part)
  in_part holding part fit is = record {
    stops = same_stops holding.line part holding.line.arrival holding.line.departure fit.stops;
    first = omega (arith, is.ordered, is.last, fit.last);
    last = omega (arith, is.last, fit.last);
    ordered = is.ordered;
    week = is.week fit.week;
    dated = is.dated;
    seats = fit.seats;
    craft = fit.craft;
  }

  -- in the period of another line that has a spelling
  pub in_asked : (holding : Holding) (line : Line) → IsSpelled holding → LineFits season line → IsSpelled (confirmed (in_line holding.line line.period))
  in_asked holding line fit asked = record {
    stops = same_stops holding.line line.period holding.line.arrival holding.line.departure fit.stops;
    first = asked.first;
    last = asked.last;
    ordered = asked.ordered;
    week = asked.week;
    dated = asked.dated;
    seats = fit.seats;
    craft = fit.craft;
  }

  module _ (parts : CutParts) where
    cut_spelled : (period : Period) (holding : Holding) → IsSpelled holding → All IsSpelled (cut_holding season period holding)
    cut_spelled period holding fit =
        let within = parts season holding.line.period period in
        All-map IsSpelled (in_period holding) (cut_periods (cut_of season holding.line.period period)) (All-weaker (IsPartOf season holding.line.period) (λ part. IsSpelled (in_period holding part)) (λ part is. in_part holding part fit is) _ within)

    abbrev AllOf : Option (List Holding) → Type 0
    AllOf None = Unit {0}
    AllOf (Some holdings) = All IsSpelled holdings

    behind : (holding : Holding) (rest : Option (List Holding)) → IsSpelled holding → AllOf rest → AllOf (option_map (λ holdings. holding ∷ holdings) rest)
    behind holding None fit all = tt
    behind holding (Some rest) fit all = All-cons IsSpelled holding rest fit all

    replaced_spelled : (test : Holding → Bool) (others : Holding → List Holding) → ((holding : Holding) → IsSpelled holding → All IsSpelled (others holding)) → (holdings : List Holding) → All IsSpelled holdings → AllOf (replace_first test others holdings)
    replaced_spelled test others each [] all = tt
    replaced_spelled test others each (holding ∷ holdings) all =
        let fit = All-head IsSpelled holding holdings all in
        let rest = All-tail IsSpelled holding holdings all in
        elim (test holding) as (λ b. AllOf (cond b (Some (others holding ++ holdings)) (option_map (λ rest. holding ∷ rest) (replace_first test others holdings)))) [
          | true ↦ All-append IsSpelled (others holding) holdings (each holding fit) rest
          | false ↦ behind holding (replace_first test others holdings) fit (replaced_spelled test others each holdings rest)
        ]

    accept_spelled : (line : Line) → LineFits season line → (holding : Holding) → IsSpelled holding → All IsSpelled (cut_holding season line.period holding ++ confirmed (in_line holding.line line.period) ∷ [])
    accept_spelled line asked holding fit =
        All-append IsSpelled (cut_holding season line.period holding) (confirmed (in_line holding.line line.period) ∷ []) (cut_spelled line.period holding fit)
        (All-cons IsSpelled (confirmed (in_line holding.line line.period)) [] (in_asked holding line fit asked) (All-nil IsSpelled))

-- ---- the rows

module _ (parts : CutParts) (shifts : SpelledShifts) (b : SlotBook) (all : All (IsSpelled (season_of b)) b.holdings) where
  abbrev Spells : AskOutcome → Type 0
  Spells o = All (IsSpelled (season_of b)) o.holdings

  one_more : (holdings : List Holding) (holding : Holding) → All (IsSpelled (season_of b)) holdings → LineFits (season_of b) holding.line → All (IsSpelled (season_of b)) (holdings ++ holding ∷ [])
  one_more holdings holding all fit = All-append (IsSpelled (season_of b)) holdings (holding ∷ []) all (All-cons (IsSpelled (season_of b)) holding [] fit (All-nil (IsSpelled (season_of b))))

  offer_spelled : (line : Line) → LineFits (season_of b) line → (best : Option Times) → ((t : Times) → best ≡ Some t → IsFitting b line t) → Spells (offer_outcome b line best)
  offer_spelled line fit None is = all
  offer_spelled line fit (Some times) is =
      let found = is times refl in
      elim (cost_at b.declaration line times == 0) as (λ v. Spells (cond v (record { answer = granted; holdings = b.holdings ++ confirmed line ∷ [] }) (record { answer = offer (line_at line times); holdings = b.holdings ++ offered (line_at line times) ∷ [] }))) [
        | true ↦ one_more b.holdings (confirmed line) all fit
        | false ↦ one_more b.holdings (offered (line_at line times)) all (All-contains (λ t. LineFits (season_of b) (line_at line t)) (shifts_of b.declaration line) times (shifts b.declaration line fit) found.shift)
      ]

  new_spelled : (line : Line) → LineFits (season_of b) line → Spells (new_outcome b line)
  new_spelled line fit =
      elim (clashes_with (season_of b) line b.holdings) as (λ v. Spells (cond v (stays b not_processed) (offer_outcome b line (best_times b line)))) [
        | true ↦ all
        | false ↦ offer_spelled line fit (best_times b line) (best_fits b line)
      ]

  released_spelled : (state : State) (line : Line) → AllOf (season_of b) parts (released b state line)
  released_spelled state line = replaced_spelled (season_of b) parts (matches (season_of b) state line) (cut_holding (season_of b) line.period) (cut_spelled (season_of b) parts line.period) b.holdings all

  release_spelled : (left : Option (List Holding)) → AllOf (season_of b) parts left → Spells (release_by b left)
  release_spelled None left_all = all
  release_spelled (Some left) left_all = left_all

  accept_by_spelled : (left : Option (List Holding)) → AllOf (season_of b) parts left → Spells (accept_by b left)
  accept_by_spelled None left_all = all
  accept_by_spelled (Some left) left_all = left_all

  change_spelled : (request : Line) → LineFits (season_of b) request → (left : Option (List Holding)) → AllOf (season_of b) parts left → Spells (change_by b request left)
  change_spelled request fit None left_all = all
  change_spelled request fit (Some left) left_all =
      elim (clashes_with (season_of b) request left) as (λ v. Spells (cond v (stays b not_processed) (cond (fits_beside b.declaration left (line_movements (season_of b) request)) (record { answer = changed; holdings = left ++ confirmed request ∷ [] }) (stays b held)))) [
        | true ↦ all
        | false ↦ elim (fits_beside b.declaration left (line_movements (season_of b) request)) as (λ v. Spells (cond v (record { answer = changed; holdings = left ++ confirmed request ∷ [] }) (stays b held))) [
          | true ↦ one_more left (confirmed request) left_all fit
          | false ↦ all
        ]
      ]

  line_spelled : (line : Line) → LineFits (season_of b) line → (code : Code) → Spells (line_outcome b line code)
  line_spelled line fit N = new_spelled line fit
  line_spelled line fit B = new_spelled line fit
  line_spelled line fit D = release_spelled (released b Confirmed line) (released_spelled Confirmed line)
  line_spelled line fit Z = release_spelled (released b Offered line) (released_spelled Offered line)
  line_spelled line fit A = accept_by_spelled (replace_first (matches (season_of b) Offered line) (accept b line) b.holdings) (replaced_spelled (season_of b) parts (matches (season_of b) Offered line) (accept b line) (accept_spelled (season_of b) parts line fit) b.holdings all)
  line_spelled line fit F = all
  line_spelled line fit C = all
  line_spelled line fit R = all
  line_spelled line fit L = all
  line_spelled line fit K = all
  line_spelled line fit H = all
  line_spelled line fit O = all
  line_spelled line fit U = all
  line_spelled line fit W = all
  line_spelled line fit X = all

  outcome_spelled : (ask : Item) → CanAsk b.declaration ask → Spells (outcome b ask)
  outcome_spelled (One line) can = line_spelled line can.spelled line.code
  outcome_spelled (Pair historic request) can = change_spelled request can.spelled.1 (released b Confirmed historic) (released_spelled Confirmed historic)
  outcome_spelled (Query flight) can = all

  next_spelled : (ask : Item) → CanAsk b.declaration ask → All (IsSpelled (season_of b)) (next b ask).holdings
  unfolding next
  next_spelled ask can = outcome_spelled ask can

pub next_book : CutCounts → MovementLoads → TimedMovements → FreeShift → CutParts → SpelledShifts → (b : SlotBook) (ask : Item) → IsBook b → CanAsk b.declaration ask → IsBook (next b ask)
unfolding next
next_book counts loads timed free parts shifts b ask is can = record {
  declared = is.declared;
  lines = next_spelled parts shifts b is.lines ask can;
  fits = next_fits counts loads timed free b is.fits ask can;
}
