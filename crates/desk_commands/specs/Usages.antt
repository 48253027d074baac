-- The usage watch: which series of a book keep precedence, and their lines in the next season.
use Rattle.std.specs.Prelude.{◌≡◌, ℕ, List, [], ◌∷◌, ◌++◌, codes}
use Rattle.std.specs.Fmt.{decimal}
use Rattle.slot_text.specs.declared.station.Station.{Station}
use Rattle.season_days.specs.Term.{Term}
use Rattle.season_days.specs.Seasons.{same_season_next_year}
use Rattle.scr_reader.specs.Messages.{ReadsAll}
use Rattle.scr_reader.specs.declared.header.Header.{Header}
use Rattle.scr_reader.specs.declared.line.Line.{Line}
use Rattle.scr_reader.specs.declared.message.Message.{Message}
use Rattle.series_model.specs.Submissions.{SubmissionView}
use Rattle.holding_book.specs.Books.{SlotBook}
use Rattle.usage_watch.specs.declared.operated.Operated.{Operated}
use Rattle.usage_watch.specs.NextLines.{confirmed_lines, series_in, kept_in, next_lines}
use Rattle.usage_watch.specs.NextTexts.{next_messages, next_text}

-- how many series there are, and how many of them keep precedence
abbrev pub usage_line : ℕ → ℕ → List ℕ
usage_line series kept =
    codes "SERIES " ++ (decimal series ++ (codes " KEPT " ++ (decimal kept ++ (10 ∷ []))))

-- the next season's message has the date and the airport of the first request message; where there
-- is none, no slot is held, and no message is written
abbrev pub dated_as : Term → Station → List Message → Header
dated_as next airport [] = record { season = next; day = 1; month = 1; airport = airport }
dated_as next airport (message ∷ messages) = record {
  season = next;
  day = message.day;
  month = message.month;
  airport = message.airport;
}

abbrev pub next_header : SubmissionView → Header
next_header s =
    dated_as (same_season_next_year s.declaration.season) s.declaration.airport s.messages

-- the historic lines of the next season, of the confirmed holdings of a book in its order
abbrev pub kept_lines : SlotBook → List Operated → List Line
kept_lines book reports =
    next_lines book.declaration.season (same_season_next_year book.declaration.season) reports
    (confirmed_lines book.holdings)

-- What is written is the text of exactly the historic lines of the next season, and it is read as
-- one message of these lines, or as none; what is printed is the number of all series, and of those
-- with precedence.
pub record IsWatched (s : SubmissionView) (start : SlotBook) (reports : List Operated)
    (next text : List ℕ) : Type 0 where
  pub written : next ≡ next_text (next_header s) (kept_lines start reports)
  pub read_again : ReadsAll next (next_messages (next_header s) (kept_lines start reports))
  pub printed : text
      ≡ usage_line (series_in start.declaration.season (confirmed_lines start.holdings))
      (kept_in start.declaration.season reports (confirmed_lines start.holdings))
