-- Amendments: what a coordinator answers to an ask, and the book after it. Each is the first row of
-- one table that applies.
use Rattle.std.specs.Prelude.{◌==◌, if◌then◌else◌, List, [], ◌∷◌, ◌++◌, filter, Option, Some, None}
use Rattle.season_days.specs.declared.declaration.Declaration.{Declaration}
use Rattle.scr_reader.specs.Printed.{ItemFits}
use Rattle.scr_reader.specs.declared.line.Flight.{Flight}
use Rattle.scr_reader.specs.declared.line.Line.{Line}
use Rattle.scr_reader.specs.declared.line.Code.{Code}
use Rattle.scr_reader.specs.declared.line.Code.TheVariants.{N, B, D, Z, A}
use Rattle.scr_reader.specs.declared.line.Item.{Item}
use Rattle.scr_reader.specs.declared.line.Item.TheVariants.{One, Pair, Query}
use Rattle.series_model.specs.declared.times.Times.{Times}
use Rattle.series_model.specs.Displacement.{cost_at}
use Rattle.series_model.specs.Submissions.{ItemPairs}
use Rattle.series_model.specs.TimedLines.{line_at, line_movements}
use Rattle.holding_book.specs.declared.holding.Holding.{Holding}
use Rattle.holding_book.specs.declared.holding.State.{State}
use Rattle.holding_book.specs.declared.holding.State.TheVariants.{Confirmed, Offered}
use Rattle.holding_book.specs.declared.answer.Answer.{Answer}
use Rattle.holding_book.specs.declared.answer.Answer.TheVariants.{K as granted, KChanged as changed, Offer as offer, Held as held, U as refused, X as cancelled, W as not_processed, Listed as listed}
use Rattle.holding_book.specs.Lines.{matches, in_period, cut_holding, replace_first, has_flight}
use Rattle.holding_book.specs.Books.{SlotBook, season_of, with_holdings, confirmed, offered, clashes_with, fits_beside, best_times}

-- the answer, and the holdings after it
pub record AskOutcome : Type 0 where
  pub answer : Answer
  pub holdings : List Holding

-- the book stays as it is
abbrev pub stays : SlotBook → Answer → AskOutcome
stays b answer = record { answer = answer; holdings = b.holdings }

-- ---- N and B: the requested times, else the cheapest shift that fits, which is held as an offer

abbrev pub offer_outcome : SlotBook → Line → Option Times → AskOutcome
offer_outcome b line None = stays b refused
offer_outcome b line (Some times) =
    if cost_at b.declaration line times == 0
    then record { answer = granted; holdings = b.holdings ++ confirmed line ∷ [] }
    else record {
      answer = offer (line_at line times);
      holdings = b.holdings ++ offered (line_at line times) ∷ [];
    }

abbrev pub new_outcome : SlotBook → Line → AskOutcome
new_outcome b line =
    if clashes_with (season_of b) line b.holdings then stays b not_processed
    else offer_outcome b line (best_times b line)

-- ---- the first match is replaced by what is left of it without the line's dates

abbrev pub released : SlotBook → State → Line → Option (List Holding)
released b state line =
    replace_first (matches (season_of b) state line) (cut_holding (season_of b) line.period)
    b.holdings

-- D of a confirmed holding, and Z of an offered one
abbrev pub release_by : SlotBook → Option (List Holding) → AskOutcome
release_by b None = stays b not_processed
release_by b (Some left) = record { answer = cancelled; holdings = left }

abbrev pub release_outcome : SlotBook → State → Line → AskOutcome
release_outcome b state line = release_by b (released b state line)

-- C with R or L: the request takes the place of the historic line's dates, where it fits
abbrev pub change_by : SlotBook → Line → Option (List Holding) → AskOutcome
change_by b request None = stays b not_processed
change_by b request (Some left) =
    if clashes_with (season_of b) request left then stays b not_processed
    else (if fits_beside b.declaration left (line_movements (season_of b) request)
    then record { answer = changed; holdings = left ++ confirmed request ∷ [] }
    else stays b held)

abbrev pub change_outcome : SlotBook → Line → Line → AskOutcome
change_outcome b historic request = change_by b request (released b Confirmed historic)

-- A: of the first offered match the line's dates are confirmed, and the rest is left as it is
abbrev pub accept : SlotBook → Line → Holding → List Holding
accept b line holding =
    cut_holding (season_of b) line.period holding
    ++ confirmed (in_period holding line.period).line ∷ []

abbrev pub accept_by : SlotBook → Option (List Holding) → AskOutcome
accept_by b None = stays b not_processed
accept_by b (Some holdings) = record { answer = granted; holdings = holdings }

abbrev pub accept_outcome : SlotBook → Line → AskOutcome
accept_outcome b line =
    accept_by b (replace_first (matches (season_of b) Offered line) (accept b line) b.holdings)

-- ---- Q: the holdings that have the flight

abbrev pub listing : SlotBook → List Holding → Answer
listing b [] = not_processed
listing b (holding ∷ holdings) = listed (holding ∷ holdings)

abbrev pub query_outcome : SlotBook → Flight → AskOutcome
query_outcome b flight =
    stays b (listing b (filter (λ holding. has_flight flight holding.line) b.holdings))

-- ---- the table

abbrev pub line_outcome : SlotBook → Line → Code → AskOutcome
line_outcome b line N = new_outcome b line
line_outcome b line B = new_outcome b line
line_outcome b line D = release_outcome b Confirmed line
line_outcome b line Z = release_outcome b Offered line
line_outcome b line A = accept_outcome b line
line_outcome b line code = stays b not_processed

abbrev pub outcome : SlotBook → Item → AskOutcome
outcome b (One line) = line_outcome b line line.code
outcome b (Pair historic request) = change_outcome b historic request
outcome b (Query flight) = query_outcome b flight

unfoldable pub reply : SlotBook → Item → Answer
reply b ask = (outcome b ask).answer

unfoldable pub next : SlotBook → Item → SlotBook
next b ask = with_holdings b (outcome b ask).holdings

-- ---- what can be asked of a book: lines with a spelling in its season, a pair as a message has it

pub record CanAsk (d : Declaration) (ask : Item) : Type 0 where
  pub spelled : ItemFits d.season ask
  pub paired : ItemPairs ask
