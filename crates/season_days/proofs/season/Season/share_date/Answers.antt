use Rattle.std.proofs.Common.{arith}
use Rattle.std.specs.Prelude.{bit_and}
use Rattle.season_days.specs.declared.day.Period.{Period}
use Rattle.season_days.specs.Seasons.{dates_of}
use Rattle.season_days.proofs.CutLemmas.{date_in, in_dates, something_in, one_of, on_both, both_on}
use Rattle.season_days.proofs.AnswerLemmas.{shared_answer}
use Rattle.season_days.proofs.season.Season.share_date.Goals as goal

pub returns-clause-exact : goal.returns-clause-exact
returns-clause-exact c =
    let season = c.args.self.now in
    let one = c.args.one in
    let other = c.args.other in
    let both : Period = record { first = record { 0 = c.max.result }; last = record { 0 = c.min.result }; days = bit_and one.days other.days } in (
      λ is.
          let found = one_of (dates_of season both) (c.has_dates.ensures.0 is) in
          let m = in_dates season both found.0 found.1 in
          let on = both_on season one.days other.days found.0 m.2 in
          (found.0, date_in season one found.0 (omega (arith, m.0, c.max.ensures), omega (arith, m.1, c.min.ensures), on.0), date_in season other found.0 (omega (arith, m.0, c.max.ensures), omega (arith, m.1, c.min.ensures), on.1)),
      λ shared.
          let a = in_dates season one shared.0 shared.1 in
          let b = in_dates season other shared.0 shared.2 in
          c.has_dates.ensures.1 (something_in _ shared.0 (date_in season both shared.0 (omega (arith, a.0, b.0, c.max.ensures), omega (arith, a.1, b.1, c.min.ensures), on_both season one.days other.days shared.0 a.2 b.2))),
    )

pub returns-clause-value : goal.returns-clause-value
returns-clause-value c = shared_answer c.args.self.now c.args.one c.args.other _ (returns-clause-exact c)
