use Rattle.std.proofs.Common.{ℕ, ◌+◌, List, length, sym, ap, arith}
use Rattle.season_days.specs.Seasons.{is_on}
use Rattle.season_days.proofs.CountLemmas.{date_end}
use Rattle.season_days.proofs.SeasonLemmas.{date_count_small}
use Rattle.season_days.proofs.CountLemmas.{by_weeks}
use Rattle.season_days.proofs.season.Season.count_dates.Goals as goal

pub returns-then-end-first-clause-count : goal.returns-then-end-first-clause-count
returns-then-end-first-clause-count c =
    let period = c.args.period in
    sym (ap (λ (days : List ℕ). length days) (date_end (is_on c.args.self.now period.days) period.first.0 (period.last.0 + 1) (omega arith)))

pub overflow_add-result : goal.overflow_add-result
overflow_add-result c =
    let few = (by_weeks c.args.self.now c.args.period c.count_days-week.result c.count_days-rest.result (omega arith) c.requires.last c.count_days-week.ensures.count c.count_days-rest.ensures.count).1 in
    omega (arith, few)

pub returns-clause-count : goal.returns-clause-count
returns-clause-count c =
    (by_weeks c.args.self.now c.args.period c.count_days-week.result c.count_days-rest.result (omega arith) c.requires.last c.count_days-week.ensures.count c.count_days-rest.ensures.count).0

pub returns-clause-few : goal.returns-clause-few
returns-clause-few c =
    (by_weeks c.args.self.now c.args.period c.count_days-week.result c.count_days-rest.result (omega arith) c.requires.last c.count_days-week.ensures.count c.count_days-rest.ensures.count).1

pub overflow_add-end : goal.overflow_add-end
overflow_add-end c = omega (arith, date_count_small c.args.self.now, c.requires.last)

pub overflow_add-first : goal.overflow_add-first
overflow_add-first c = omega (arith, date_count_small c.args.self.now, c.requires.last, c.if-end-first.false)

pub overflow_add-first-2 : goal.overflow_add-first-2
overflow_add-first-2 c = omega (arith, date_count_small c.args.self.now, c.requires.last, c.if-end-first.false)
