-- The historic lines of the next equivalent season, and the counts of series.
use Rattle.std.specs.Prelude.{ℕ, zero, suc, ◌+◌, ◌-◌, ◌^◌, Bool, min, if◌then◌else◌, List, [], ◌∷◌, Option, Some}
use Rattle.std.specs.List.{cons_option}
use Rattle.std.specs.Option.{option_map}
use Rattle.season_days.specs.Term.{Term}
use Rattle.season_days.specs.Seasons.{date_count}
use Rattle.season_days.specs.Periods.{if_dated}
use Rattle.season_days.specs.declared.day.Period.{Period}
use Rattle.scr_reader.specs.declared.line.Line.{Line}
use Rattle.scr_reader.specs.declared.line.Code.TheVariants.{F}
use Rattle.holding_book.specs.declared.holding.Holding.{Holding}
use Rattle.holding_book.specs.declared.holding.State.TheVariants.{Confirmed}
use Rattle.holding_book.specs.Lines.{is_state}
use Rattle.usage_watch.specs.declared.operated.Operated.{Operated}
use Rattle.usage_watch.specs.Precedence.{is_series, has_precedence}

-- ---- weekdays that pass a test, of the first so many from Monday on

-- how many
abbrev pub count_to : (ℕ → Bool) → ℕ → ℕ
count_to test zero = 0
count_to test (suc n) = count_to test n + (if test (suc n) then 1 else 0)

-- as a set, whose bit 0 is Monday
abbrev pub days_to : (ℕ → Bool) → ℕ → ℕ
days_to test zero = 0
days_to test (suc n) = days_to test n + (if test (suc n) then 2 ^ n else 0)

-- ---- one line

abbrev pub series_of : Term → Line → ℕ
series_of season line = count_to (is_series season line) 7

abbrev pub kept_of : Term → List Operated → Line → ℕ
kept_of season reports line = count_to (has_precedence season reports line) 7

-- the weekdays whose series have precedence
abbrev pub kept_days : Term → List Operated → Line → ℕ
kept_days season reports line = days_to (has_precedence season reports line) 7

-- These weekdays, from the same day of the next season on, and to the same last day or the last of
-- that season, whichever comes first. Each season begins on a Sunday, so days keep their weekdays.
abbrev pub next_period : Term → Period → ℕ → Period
next_period next period days = record {
  first = period.first;
  last = record { 0 = min period.last.0 (date_count next - 1) };
  days = days;
}

-- the line with code F in that period, if it has a date
abbrev pub in_next : Term → Line → ℕ → Option Line
in_next next line days =
    option_map (λ period. record line { code = F; period = period })
    (if_dated next (Some (next_period next line.period days)))

abbrev pub next_line : Term → Term → List Operated → Line → Option Line
next_line season next reports line = in_next next line (kept_days season reports line)

-- ---- all lines

-- the lines of the confirmed holdings
abbrev pub confirmed_lines : List Holding → List Line
confirmed_lines [] = []
confirmed_lines (holding ∷ holdings) =
    if is_state Confirmed holding.state then holding.line ∷ confirmed_lines holdings
    else confirmed_lines holdings

abbrev pub series_in : Term → List Line → ℕ
series_in season [] = 0
series_in season (line ∷ lines) = series_of season line + series_in season lines

abbrev pub kept_in : Term → List Operated → List Line → ℕ
kept_in season reports [] = 0
kept_in season reports (line ∷ lines) =
    kept_of season reports line + kept_in season reports lines

abbrev pub next_lines : Term → Term → List Operated → List Line → List Line
next_lines season next reports [] = []
next_lines season next reports (line ∷ lines) =
    cons_option (next_line season next reports line) (next_lines season next reports lines)
