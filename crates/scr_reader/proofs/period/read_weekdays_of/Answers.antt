use Rattle.std.proofs.Common.{◌≡◌, sym, ap, ◌∙◌, refl}
use Rattle.std.proofs.lemmas.Bool.{false≢true}
use Rattle.std.proofs.lemmas.Option.{none-some, same_Some}
use Rattle.season_days.specs.Seasons.{dates_of}
use Rattle.season_days.specs.declared.day.Period.{Period}
use Rattle.scr_reader.proofs.period.read_weekdays_of.Goals as goal

pub returns-in_err-days-clause-only : goal.returns-in_err-days-clause-only
returns-in_err-days-clause-only c = λ period f l is dated. absurd (none-some _ (c.in_err-days.ensures.only period.days is))

pub returns-then-has_dates-clause-only : goal.returns-then-has_dates-clause-only
returns-then-has_dates-clause-only c = λ period f l is dated.
    let d : c.in_ok-days.days ≡ period.days = same_Some _ _ (c.in_ok-days.ensures.only period.days is) in
    rw (d, ← f, ← l) refl

pub returns-else-has_dates-clause-only : goal.returns-else-has_dates-clause-only
returns-else-has_dates-clause-only c = λ period f l is dated.
    let d : c.in_ok-days.days ≡ period.days = same_Some _ _ (c.in_ok-days.ensures.only period.days is) in
    let found : Period = record { first = c.args.first; last = c.args.last; days = c.in_ok-days.days } in
    let same : found ≡ period = rw (d, ← f, ← l) refl in
    absurd (false≢true (c.if-has_dates.ensures.1 (λ none. dated (ap (dates_of c.args.season.now) (sym same) ∙ none))))
