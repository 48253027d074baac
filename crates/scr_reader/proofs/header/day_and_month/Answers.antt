use Rattle.std.proofs.Common.{◌≡◌, ◌≤◌, ◌∙◌, arith, pos, refl}
use Rattle.std.proofs.lemmas.Option.{none-some, same_Some}
use Rattle.jiff_core.specs.Calendar.{days_in_month}
use Rattle.scr_reader.proofs.DayLemmas.{few_days, front_is}
use Rattle.scr_reader.proofs.header.day_and_month.Goals as goal

pub returns-in_err-day-clause-only : goal.returns-in_err-day-clause-only
returns-in_err-day-clause-only c = λ day month is e. absurd (none-some day (c.in_err-day.ensures.only day (few_days month day is) (c.split_at.ensures.front ∙ (front_is c.args.text.now month day e).0)))

pub returns-in_err-month-clause-only : goal.returns-in_err-month-clause-only
returns-in_err-month-clause-only c = λ day month is e. absurd (none-some month (c.in_err-month.ensures.only month is.month_from is.month_to (c.split_at.ensures.back ∙ (front_is c.args.text.now month day e).1)))

pub returns-then-day-eq0-clause-only : goal.returns-then-day-eq0-clause-only
returns-then-day-eq0-clause-only c = λ day month is e.
    let same : c.in_ok-day.day ≡ day = same_Some _ _ (c.in_ok-day.ensures.only day (few_days month day is) (c.split_at.ensures.front ∙ (front_is c.args.text.now month day e).0)) in
    absurd (omega (arith, same, is.day_from, c.if-day-eq0.true))

pub returns-then-day-days_of-clause-only : goal.returns-then-day-days_of-clause-only
returns-then-day-days_of-clause-only c = λ day month is e.
    let same : c.in_ok-day.day ≡ day = same_Some _ _ (c.in_ok-day.ensures.only day (few_days month day is) (c.split_at.ensures.front ∙ (front_is c.args.text.now month day e).0)) in
    let also : c.in_ok-month.month ≡ month = same_Some _ _ (c.in_ok-month.ensures.only month is.month_from is.month_to (c.split_at.ensures.back ∙ (front_is c.args.text.now month day e).1)) in
    absurd (let most : day ≤ days_in_month (pos 2000) c.in_ok-month.month = rw also is.day_to in omega (arith, same, most, c.days_of.ensures, c.if-day-days_of.true))

pub returns-clause-only : goal.returns-clause-only
returns-clause-only c = λ day month is e.
    let same : c.in_ok-day.day ≡ day = same_Some _ _ (c.in_ok-day.ensures.only day (few_days month day is) (c.split_at.ensures.front ∙ (front_is c.args.text.now month day e).0)) in
    let also : c.in_ok-month.month ≡ month = same_Some _ _ (c.in_ok-month.ensures.only month is.month_from is.month_to (c.split_at.ensures.back ∙ (front_is c.args.text.now month day e).1)) in
    rw (same, also) refl
