use Rattle.std.proofs.Common.{◌≡◌, arith, ◌∙◌}
use Rattle.std.proofs.lemmas.Int.{ints}
use Rattle.std.proofs.lemmas.Result.{IfOk-at_ok}
use Rattle.season_days.proofs.SeasonLemmas.{found_last_sunday, last_sunday_at}
use Rattle.season_days.proofs.season.last_sunday.Goals as goal

pub returns-clause-year : goal.returns-clause-year
returns-clause-year c =
    let found = found_last_sunday c.constrain.result c.unwrap.result (IfOk-at_ok _ c.unwrap.ensures c.nth_weekday_of_month.ensures.value) in
    let year : c.constrain.result.year ≡ c.args.year = omega (arith, ints, c.constrain.ensures.year) in
    found.0 ∙ year

pub returns-clause-month : goal.returns-clause-month
returns-clause-month c =
    let found = found_last_sunday c.constrain.result c.unwrap.result (IfOk-at_ok _ c.unwrap.ensures c.nth_weekday_of_month.ensures.value) in
    let month : c.constrain.result.month ≡ c.args.month = c.constrain.ensures.month in
    found.1 ∙ month

pub returns-clause-sunday : goal.returns-clause-sunday
returns-clause-sunday c = (found_last_sunday c.constrain.result c.unwrap.result (IfOk-at_ok _ c.unwrap.ensures c.nth_weekday_of_month.ensures.value)).2

pub returns-clause-number : goal.returns-clause-number
returns-clause-number c =
    let found = found_last_sunday c.constrain.result c.unwrap.result (IfOk-at_ok _ c.unwrap.ensures c.nth_weekday_of_month.ensures.value) in
    let year : c.constrain.result.year ≡ c.args.year = omega (arith, ints, c.constrain.ensures.year) in
    let month : c.constrain.result.month ≡ c.args.month = c.constrain.ensures.month in
    last_sunday_at c.args.year c.args.month c.unwrap.result (found.0 ∙ year) (found.1 ∙ month) found.2
