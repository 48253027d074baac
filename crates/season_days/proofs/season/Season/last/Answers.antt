use Rattle.std.proofs.Common.{arith, ◌-◌}
use Rattle.std.proofs.lemmas.Result.{IfOk-at_ok}
use Rattle.std.proofs.lemmas.Int.{ints}
use Rattle.jiff_core.proofs.DateLemmas.{min-lt-epoch_day}
use Rattle.jiff_core.specs.Date.{epoch_day}
use Rattle.season_days.specs.Seasons.{date_count}
use Rattle.season_days.proofs.SeasonLemmas.{saturday_before, date_count-after, date_count_large}
use Rattle.season_days.proofs.CivilLemmas.{date_is}
use Rattle.season_days.proofs.season.Season.last.Goals as goal

pub unwrap-requires : goal.unwrap-requires
unwrap-requires c = c.yesterday.ensures.succeeds.1 (min-lt-epoch_day c.after.result (λ h. omega (arith, ints, c.after.ensures.year, h.0)))

pub returns-clause-saturday : goal.returns-clause-saturday
returns-clause-saturday c =
    let before = IfOk-at_ok _ c.unwrap.ensures c.yesterday.ensures.value in
    saturday_before c.args.self.now (epoch_day c.unwrap.result) (omega (arith, ints, before, c.after.ensures.number))

pub returns-clause-date : goal.returns-clause-date
returns-clause-date c =
    let before = IfOk-at_ok _ c.unwrap.ensures c.yesterday.ensures.value in
    let count = date_count-after c.args.self.now in
    date_is c.args.self.now (date_count c.args.self.now - 1) c.unwrap.result c.after.ensures.century (omega arith)
    (omega (arith, ints, before, c.after.ensures.number, count, date_count_large c.args.self.now))
