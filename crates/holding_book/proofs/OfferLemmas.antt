-- What the line at the cheapest times tells of them.
use Rattle.std.proofs.Common.{◌≡◌, ℕ, ◌+◌, ◌*◌, ◌/◌, ◌%◌, ◌<◌, eqb, cond, [], ◌∷◌, ◌++◌, refl, sym, ap, ◌∙◌, subst, arith, Option, Some, None}
use Rattle.std.specs.Prelude.{All}
use Rattle.std.specs.Option.{option_map}
use Rattle.std.proofs.lemmas.List.Elements.{All-contains}
use Rattle.season_days.specs.declared.declaration.Declaration.{Declaration}
use Rattle.scr_reader.specs.Printed.{LineFits}
use Rattle.scr_reader.specs.declared.line.Line.{Line}
use Rattle.scr_reader.specs.declared.line.Stop.{Stop}
use Rattle.series_model.specs.declared.times.Times.{Times}
use Rattle.series_model.specs.declared.times.Times.TheVariants.{Refused, At}
use Rattle.series_model.specs.Displacement.{stop_change, line_dates, cost_at}
use Rattle.series_model.specs.Options.{relative_minute, line_times, shifts_of, TimesFit}
use Rattle.series_model.specs.TimedLines.{stop_at, line_at}
use Rattle.holding_book.specs.declared.answer.Answer.TheVariants.{K as granted, Offer as offer, U as refused}
use Rattle.holding_book.specs.Books.{SlotBook, season_of, confirmed, offered, best_times}
use Rattle.holding_book.specs.Asks.{AskOutcome, stays, offer_outcome}
use Rattle.holding_book.specs.Hints.{best_line}
use Rattle.holding_book.proofs.BookLemmas.{SpelledShifts}
use Rattle.holding_book.proofs.NextLemmas.{best_fits}

-- no shift is refused, and an arrival is on its date
abbrev pub ShiftTimes : Type 0
ShiftTimes = (d : Declaration) (line : Line) → LineFits d.season line → All (TimesFit None) (shifts_of d line)

same_arrival : (stop : Option Stop) (minute : ℕ) → minute < 1440 → stop_change 0 stop (relative_minute 0 (stop_at stop minute)) ≡ stop_change 0 stop minute
same_arrival None minute lt = refl
same_arrival (Some stop) minute lt =
    let e : 1440 * 0 + minute % 1440 ≡ minute = omega (arith, lt) in
    ap (stop_change 0 (Some stop)) e

same_departure : (nights : ℕ) (stop : Option Stop) (minute : ℕ) → stop_change nights stop (relative_minute (minute / 1440) (stop_at stop minute)) ≡ stop_change nights stop minute
same_departure nights None minute = refl
same_departure nights (Some stop) minute =
    let e : 1440 * (minute / 1440) + minute % 1440 ≡ minute = omega arith in
    ap (stop_change nights (Some stop)) e

-- the line at the times of a shift costs what the shift does
same_cost : (d : Declaration) (line : Line) (times : Times) → TimesFit None times → cost_at d line (line_times (line_at line times)) ≡ cost_at d line times
same_cost d line Refused fit = cc
same_cost d line (At arrival departure) fit =
    ap (λ (k : ℕ). line_dates d.season line * (k + stop_change line.nights line.departure (relative_minute (departure / 1440) (stop_at line.departure departure)))) (same_arrival line.arrival arrival fit.0)
    ∙ ap (λ (k : ℕ). line_dates d.season line * (stop_change 0 line.arrival arrival + k)) (same_departure line.nights line.departure departure)

mapped-none : (f : Times → Line) (times : Option Times) → option_map f times ≡ None → times ≡ None
mapped-none f None e = refl
mapped-none f (Some t) e = cc

-- the times of which a line is made
abbrev pub IsFrom : (Times → Line) → Line → Option Times → Type 0
IsFrom f line None = ⊥
IsFrom f line (Some times) = line ≡ f times

mapped-some : (f : Times → Line) (line : Line) (times : Option Times) → Some line ≡ option_map f times → IsFrom f line times
mapped-some f line None e = cc
mapped-some f line (Some t) e = cc

pub best-none : (b : SlotBook) (line : Line) → best_line b line ≡ None → offer_outcome b line (best_times b line) ≡ stays b refused
best-none b line e = ap (offer_outcome b line) (mapped-none (line_at line) (best_times b line) e)

module _ (shifts : ShiftTimes) (spelled : SpelledShifts) (b : SlotBook) (line found : Line) (fit : LineFits (season_of b) line) (best : Some found ≡ best_line b line) where
  of_shift : (P : Times → Type 0) → All P (shifts_of b.declaration line) → (times : Times) → best_times b line ≡ Some times → P times
  of_shift P all times e = All-contains P (shifts_of b.declaration line) times all (best_fits b line times e).shift

  -- it has a spelling
  pub found_spelled : LineFits (season_of b) found
  found_spelled = go (best_times b line) refl (mapped-some (line_at line) found (best_times b line) best)
    where
      go : (times : Option Times) → best_times b line ≡ times → IsFrom (line_at line) found times → LineFits (season_of b) found
      go None e is = absurd is
      go (Some t) e is = subst (λ (l : Line). LineFits (season_of b) l) (sym is) (of_shift (λ s. LineFits (season_of b) (line_at line s)) (spelled b.declaration line fit) t e)

  abbrev Granted : AskOutcome
  Granted = record { answer = granted; holdings = b.holdings ++ confirmed line ∷ [] }

  abbrev Offered : AskOutcome
  Offered = record { answer = offer found; holdings = b.holdings ++ offered found ∷ [] }

  -- the row, by the cost of the line that was found
  pub offered_by_cost : offer_outcome b line (best_times b line) ≡ cond (eqb (cost_at b.declaration line (line_times found)) 0) Granted Offered
  offered_by_cost = go (best_times b line) refl (mapped-some (line_at line) found (best_times b line) best)
    where
      go : (times : Option Times) → best_times b line ≡ times → IsFrom (line_at line) found times → offer_outcome b line times ≡ cond (eqb (cost_at b.declaration line (line_times found)) 0) Granted Offered
      go None e is = absurd is
      go (Some t) e is =
          let cost : cost_at b.declaration line (line_times found) ≡ cost_at b.declaration line t = ap (λ (l : Line). cost_at b.declaration line (line_times l)) is ∙ same_cost b.declaration line t (of_shift (TimesFit None) (shifts b.declaration line fit) t e) in
          rw (cost, is) refl
