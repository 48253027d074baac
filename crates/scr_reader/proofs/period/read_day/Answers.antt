use Rattle.std.proofs.Common.{◌≡◌, ◌∙◌}
use Rattle.std.proofs.lemmas.Option.{none-some, same_Some}
use Rattle.scr_reader.proofs.DayLemmas.{in_range, spelled, day_again, front_is}
use Rattle.scr_reader.proofs.period.read_day.Goals as goal

pub returns-clause-found : goal.returns-clause-found
returns-clause-found c =
    rw c.ok.ensures.value (spelled c.args.season.now c.args.text.now c.split_at.result.0.now c.split_at.result.1.now c.in_ok-month.month c.in_ok-day.day c.day_of.result c.split_at.ensures.front c.split_at.ensures.back c.in_ok-day.ensures.found.1 c.in_ok-month.ensures.found.2 c.day_of.ensures.found)

pub returns-in_err-day-clause-only : goal.returns-in_err-day-clause-only
returns-in_err-day-clause-only c = λ day is.
    let range = in_range c.args.season.now is.0 is.1 is.2.0 in
    let front = front_is c.args.text.now is.0 is.1 is.3 in
    absurd (none-some is.1 (c.in_err-day.ensures.only is.1 range.2 (c.split_at.ensures.front ∙ front.0)))

pub returns-in_err-month-clause-only : goal.returns-in_err-month-clause-only
returns-in_err-month-clause-only c = λ day is.
    let range = in_range c.args.season.now is.0 is.1 is.2.0 in
    let front = front_is c.args.text.now is.0 is.1 is.3 in
    absurd (none-some is.0 (c.in_err-month.ensures.only is.0 range.0 range.1 (c.split_at.ensures.back ∙ front.1)))

pub returns-clause-only : goal.returns-clause-only
returns-clause-only c = λ day is.
    let range = in_range c.args.season.now is.0 is.1 is.2.0 in
    let front = front_is c.args.text.now is.0 is.1 is.3 in
    let of_month : c.in_ok-day.day ≡ is.1 = same_Some _ _ (c.in_ok-day.ensures.only is.1 range.2 (c.split_at.ensures.front ∙ front.0)) in
    let month : c.in_ok-month.month ≡ is.0 = same_Some _ _ (c.in_ok-month.ensures.only is.0 range.0 range.1 (c.split_at.ensures.back ∙ front.1)) in
    rw c.ok.ensures.value (day_again day c.day_of.result (c.day_of.ensures.only day (rw (month, of_month) is.2)))
