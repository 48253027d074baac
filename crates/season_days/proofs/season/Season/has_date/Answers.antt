use Rattle.std.proofs.Common.{sym, ◌∙◌, arith}
use Rattle.std.proofs.lemmas.Bool.{false≢true}
use Rattle.season_days.proofs.CutLemmas.{date_in, in_dates}
use Rattle.season_days.proofs.season.Season.has_date.Goals.{then-day-period-via-then-day-period, then-day-period-via-else-day-period+then-period-day}
use Rattle.season_days.proofs.season.Season.has_date.Goals as goal

pub returns : goal.returns
returns c =
    let season = c.args.self.now in
    let period = c.args.period in
    let day = c.args.day.0 in
    (λ is. date_in season period day (omega arith, omega arith, sym c.is_on.ensures ∙ is), λ has. c.is_on.ensures ∙ (in_dates season period day has).2)

pub returns-then-day-period : goal.returns-then-day-period
returns-then-day-period c = (
  λ never. absurd (false≢true never),
  λ has.
      let m = in_dates c.args.self.now c.args.period c.args.day.0 has in
      absurd (elim c.then-day-period.branch [
        | then-day-period-via-then-day-period w ↦ omega (arith, m.0, w.if-day-period.true)
        | then-day-period-via-else-day-period+then-period-day w ↦ omega (arith, m.1, w.if-period-day.true)
      ]),
)
