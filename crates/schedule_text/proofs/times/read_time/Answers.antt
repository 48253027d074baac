use Rattle.std.proofs.Common.{◌≡◌, ◌/◌, ◌%◌, take, drop, ap, ◌∙◌, arith}
use Rattle.std.proofs.lemmas.Option.{none-some, same_Some}
use Rattle.schedule_text.proofs.times.read_time.Goals as goal

pub returns-in_err-minute-clause-only : goal.returns-in_err-minute-clause-only
returns-in_err-minute-clause-only c = λ minute lt e. absurd (none-some _ (c.in_err-minute.ensures.only (minute % 60) (omega arith) (c.split_at.ensures.back ∙ ap (drop 2) e)))

pub returns-then-hour-ge-HOURS_OF_DAY-clause-only : goal.returns-then-hour-ge-HOURS_OF_DAY-clause-only
returns-then-hour-ge-HOURS_OF_DAY-clause-only c = λ minute lt e.
    let hour : c.in_ok-hour.hour ≡ minute / 60 = same_Some _ _ (c.in_ok-hour.ensures.only (minute / 60) (omega arith) (c.split_at.ensures.front ∙ ap (take 2) e)) in
    absurd (omega arith)

pub returns-then-minute-ge-MINUTES_OF_HOUR-clause-only : goal.returns-then-minute-ge-MINUTES_OF_HOUR-clause-only
returns-then-minute-ge-MINUTES_OF_HOUR-clause-only c = λ minute lt e.
    let found : c.in_ok-minute.minute ≡ minute % 60 = same_Some _ _ (c.in_ok-minute.ensures.only (minute % 60) (omega arith) (c.split_at.ensures.back ∙ ap (drop 2) e)) in
    absurd (omega arith)
