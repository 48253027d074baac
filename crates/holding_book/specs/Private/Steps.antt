-- What is made ready for an ask: its answer, and the change of the book, if there is one.
use Rattle.std.specs.Prelude.{◌≡◌, ℕ, suc, Bool, if◌then◌else◌, List, [], ◌∷◌, ◌++◌, take, drop, Option, Some, None}
use Rattle.std.specs.Option.{ForSome, option_map}
use Rattle.scr_reader.specs.declared.line.Flight.{Flight}
use Rattle.scr_reader.specs.declared.line.Stop.{Stop}
use Rattle.scr_reader.specs.declared.line.Line.{Line}
use Rattle.holding_book.specs.declared.holding.Holding.{Holding}
use Rattle.holding_book.specs.declared.change.Listed.{Listed}
use Rattle.holding_book.specs.declared.change.Change.{Change}
use Rattle.holding_book.specs.declared.step.AskStep.{AskStep}
use Rattle.holding_book.specs.Lines.{has_flight}
use Rattle.holding_book.specs.Books.{SlotBook, places_of}
use Rattle.holding_book.specs.Private.Changes.{IsEdit}
use Rattle.holding_book.specs.Asks.{AskOutcome}
use Rattle.holding_book.specs.Private.Loads.{LoadsView}
use Rattle.season_days.specs.declared.declaration.Declaration.{Declaration}

-- a book of these holdings
abbrev pub book_with : Declaration → List Holding → SlotBook
book_with d holdings = record { declaration = d; holdings = holdings }

abbrev pub held_book : LoadsView → List Holding → SlotBook
held_book loads holdings = book_with loads.declaration holdings

-- the place of the first holding that passes a test
abbrev pub first_place : (Holding → Bool) → List Holding → Option ℕ
first_place test [] = None
first_place test (holding ∷ holdings) =
    if test holding then Some 0 else option_map (λ n. suc n) (first_place test holdings)

-- the holding at a place replaced by others
abbrev pub replaced_at : ℕ → List Holding → List Holding → List Holding
replaced_at n others holdings = take n holdings ++ (others ++ drop (suc n) holdings)

-- the holding has the flights of a line
abbrev pub HasFlightsOf : Line → Holding → Type 0
HasFlightsOf line holding =
    (flight : Flight) → has_flight flight holding.line ≡ has_flight flight line

-- the flight of a stop, if there is one, with its places
abbrev pub ListsStop : List Holding → Option Stop → Option Listed → Type 0
ListsStop holdings None listed = listed ≡ None
ListsStop holdings (Some stop) None = ⊥
ListsStop holdings (Some stop) (Some listed) =
    (listed.flight ≡ stop.flight) × (listed.places.items ≡ places_of stop.flight holdings)

pub record IsListing (holdings : List Holding) (stop : Option Stop) (listed : Option Listed) :
    Type 0 where
  pub lists : ListsStop holdings stop listed

-- a right change that gives these holdings
pub record GivesHoldings (b : SlotBook) (holdings : List Holding) (change : Change) : Type 0 where
  pub edit : IsEdit b change
  pub holdings_are : change.holdings.items ≡ holdings

pub record IsAskStep (b : SlotBook) (o : AskOutcome) (step : AskStep) : Type 0 where
  pub answer_is : step.answer ≡ o.answer
  pub some : ForSome step.change (GivesHoldings b o.holdings)
  pub none : step.change ≡ None → o.holdings ≡ b.holdings
