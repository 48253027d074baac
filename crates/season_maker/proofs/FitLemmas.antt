-- The lines that are requested have a spelling, can be asked, and are numbered.
use Rattle.std.proofs.Common.{◌≡◌, ℕ, zero, suc, ◌+◌, ◌%◌, ◌<◌, ◌≤◌, Bool, true, false, codes, refl, sym, arith}
use Rattle.std.specs.Prelude.{◌==◌, if◌then◌else◌}
use Rattle.slot_text.specs.Stations.{IsStation}
use Rattle.scr_reader.specs.declared.line.Line.{Line}
use Rattle.scr_reader.specs.declared.line.Code.TheVariants.{N, B, F}
use Rattle.scr_reader.specs.declared.line.Item.TheVariants.{One}
use Rattle.season_days.specs.declared.declaration.TheConstants.{MINUTES_OF_DAY}
use Rattle.scr_reader.specs.Printed.{StopFits, LineFits, ItemsFit}
use Rattle.scr_reader.specs.Again.{IsAskedItem, AreAsked, AreNumbered, IsReadAgain}
use Rattle.scr_reader.specs.declared.line.Code.{Code}
use Rattle.season_maker.specs.Generated.{summer_2025, airline_xy, airline_xz, stop_of, arrival_line, turnaround_line, minute_drawn, unit_line, placed_lines, generated_message}
use Rattle.season_maker.proofs.DayLemmas.{days, some_date}

letters : IsStation (codes "JFK")
letters = ((omega arith, omega arith), (omega arith, omega arith), (omega arith, omega arith))

xy_stop : (unit minute : ℕ) → unit < 9000 → minute < MINUTES_OF_DAY → StopFits (stop_of airline_xy unit minute)
xy_stop unit minute few in_day = record {
  flight = record { airline = refl; number = omega arith; suffix = tt };
  minute = in_day;
  stations = letters;
  service = refl;
}

xz_stop : (unit minute : ℕ) → unit < 9000 → minute < MINUTES_OF_DAY → StopFits (stop_of airline_xz unit minute)
xz_stop unit minute few in_day = record {
  flight = record { airline = refl; number = omega arith; suffix = tt };
  minute = in_day;
  stations = letters;
  service = refl;
}

pub arrival_fits : (code : Code) (unit minute : ℕ) → unit < 9000 → minute < MINUTES_OF_DAY → LineFits summer_2025 (arrival_line code unit minute)
arrival_fits code unit minute few in_day = record {
  stops = (xy_stop unit minute few in_day, refl);
  first = rw days (omega arith);
  last = rw days (omega arith);
  ordered = omega arith;
  week = omega arith;
  dated = some_date;
  seats = omega arith;
  craft = refl;
}

pub turnaround_fits : (unit arrival departure : ℕ) → unit < 9000 → arrival ≤ departure → departure < MINUTES_OF_DAY → LineFits summer_2025 (turnaround_line unit arrival departure)
turnaround_fits unit arrival departure few ordered in_day = record {
  stops = (xy_stop unit arrival few (omega arith), xz_stop unit departure few in_day, omega arith, omega arith);
  first = rw days (omega arith);
  last = rw days (omega arith);
  ordered = omega arith;
  week = omega arith;
  dated = some_date;
  seats = omega arith;
  craft = refl;
}

-- ---- every unit's line

-- what holds in both cases
by_cases : (P : Line → Type 0) (test : Bool) (one other : Line) → P one → P other → P (if test then one else other)
by_cases P true one other is is_other = is
by_cases P false one other is is_other = is_other

pub unit_fits : (number unit : ℕ) → unit < 9000 → LineFits summer_2025 (unit_line number unit)
unit_fits number unit few =
    let P = λ (line : Line). LineFits summer_2025 line in
    by_cases P (unit % 4 == 0) _ _ (arrival_fits F unit _ few (omega arith))
    (by_cases P (unit % 4 == 1) _ _ (arrival_fits N unit _ few (omega arith))
    (by_cases P (unit % 4 == 2) _ _ (arrival_fits B unit _ few (omega arith))
    (turnaround_fits unit (minute_drawn number unit) _ few (omega arith) (omega arith))))

pub unit_asked : (number unit : ℕ) → IsAskedItem (One (unit_line number unit))
unit_asked number unit =
    let P = λ (line : Line). IsAskedItem (One line) in
    by_cases P (unit % 4 == 0) _ _ (refl, (λ e. cc), (λ e. cc), (λ e. cc))
    (by_cases P (unit % 4 == 1) _ _ (refl, (λ e. cc), (λ e. cc), (λ e. cc))
    (by_cases P (unit % 4 == 2) _ _ (refl, (λ e. cc), (λ e. cc), (λ e. cc))
    (refl, (λ e. cc), (λ e. cc), (λ e. cc))))

-- ---- all of them

all_fit : (number first count : ℕ) → first + count ≤ 9000 → ItemsFit summer_2025 (placed_lines number first count)
unfolding placed_lines
all_fit number first zero few = tt
all_fit number first (suc count) few = (unit_fits number first (omega arith), all_fit number (suc first) count (omega arith))

all_asked : (number first count : ℕ) → AreAsked (placed_lines number first count)
unfolding placed_lines
all_asked number first zero = tt
all_asked number first (suc count) = (unit_asked number first, all_asked number (suc first) count)

all_numbered : (number first count line : ℕ) → line ≡ 5 + first → AreNumbered line (placed_lines number first count)
unfolding placed_lines
all_numbered number first zero line e = tt
all_numbered number first (suc count) line e = (sym e, all_numbered number (suc first) count (line + 1) (omega arith))

pub read_again : (number units : ℕ) → units ≤ 4096 → IsReadAgain 1 (generated_message number units)
read_again number units few = record {
  line = refl;
  season = omega arith;
  date = record { month_from = omega arith; month_to = omega arith; day_from = omega arith; day_to = omega arith };
  airport = ((omega arith, omega arith), (omega arith, omega arith), (omega arith, omega arith));
  fit = all_fit number 0 units (omega arith);
  asked = all_asked number 0 units;
  numbered = all_numbered number 0 units (1 + 4) refl;
}
