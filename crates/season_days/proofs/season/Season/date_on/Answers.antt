use Rattle.std.proofs.Common.{sym, ◌<◌, arith}
use Rattle.std.proofs.lemmas.Int.{ints}
use Rattle.std.proofs.lemmas.Result.{IfOk-at_ok}
use Rattle.season_days.proofs.CivilLemmas.{in_calendar, date_is, day_named}
use Rattle.season_days.proofs.season.Season.date_on.Goals as goal

pub unwrap-requires : goal.unwrap-requires
unwrap-requires c =
    let small : c.args.self.now.year < 100 = omega (arith, ints, c.first.ensures.year, c.first.ensures.century) in
    let number = c.first.ensures.number in
    c.checked_add.ensures.succeeds.1 (in_calendar c.args.self.now c.args.day.0 _ small c.requires.day (omega (arith, ints, number, c.from.ensures)))

pub returns-clause-date : goal.returns-clause-date
returns-clause-date c =
    let small : c.args.self.now.year < 100 = omega (arith, ints, c.first.ensures.year, c.first.ensures.century) in
    let number = c.first.ensures.number in
    let value = IfOk-at_ok _ c.unwrap.ensures c.checked_add.ensures.value in
    date_is c.args.self.now c.args.day.0 c.unwrap.result small (omega (arith, c.requires.day)) (omega (arith, ints, number, value, c.from.ensures))

pub returns-clause-named : goal.returns-clause-named
returns-clause-named c =
    let small : c.args.self.now.year < 100 = omega (arith, ints, c.first.ensures.year, c.first.ensures.century) in
    let date = returns-clause-date c in
    day_named c.args.self.now c.unwrap.result.month c.unwrap.result.day c.args.day.0 small c.requires.day (sym date.1) (sym date.2)
