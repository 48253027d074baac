use Rattle.std.proofs.Common.{ℕ, ◌+◌, ◌&&◌, ◌==◌, Bool, length, arith}
use Rattle.season_days.specs.Seasons.{is_on, weekday_on}
use Rattle.usage_watch.specs.Precedence.{is_operated, series_dates, operated_dates}
use Rattle.usage_watch.proofs.TallyLemmas.{dates_more, operated_more, dates_end, operated_end, counted_within, counted_few, counted_to}
use Rattle.usage_watch.proofs.tally.Tally.of.Goals as goal

pub overflow_add-end : goal.overflow_add-end
overflow_add-end c = let short = (c.lengths.ensures.bounds c.args.reported.now.season).1 in omega (arith, short)

pub loop-day-preserved : goal.loop-day-preserved
loop-day-preserved c =
    let season = c.args.reported.now.season in
    let line = c.args.line.now in
    let test : ℕ → Bool = is_on season line.period.days in
    let on : ℕ → Bool = λ day. weekday_on season day == c.args.weekday in
    let done : ℕ → Bool = is_operated season c.args.reported.now.reports line in
    let day = c.loop-day.day in
    record {
      dates = rw c.count.ensures.dates (dates_more test on done c.listed_days.ensures.passes c.listed_days.ensures.fails c.loop-day.tally.dates day (line.period.last.0 + 1) (length (series_dates season line c.args.weekday)) c.loop-day-test.true c.loop-day.invariant.dates);
      operated = rw c.count.ensures.operated (operated_more test on done c.listed_days.ensures.passes c.listed_days.ensures.fails c.loop-day.tally.operated day (line.period.last.0 + 1) (length (operated_dates season c.args.reported.now.reports line c.args.weekday)) c.loop-day-test.true c.loop-day.invariant.operated);
      few = rw c.count.ensures.dates (counted_few (test day && on day) c.loop-day.tally.dates day c.loop-day.invariant.few);
      most = rw c.count.ensures.dates (counted_to (test day && on day) c.loop-day.tally.dates day (line.period.last.0 + 1) c.loop-day.invariant.few c.loop-day-test.true);
      within = rw (c.count.ensures.dates, c.count.ensures.operated) (counted_within (test day && on day) (done day) c.loop-day.tally.operated c.loop-day.tally.dates c.loop-day.invariant.within);
    }

pub returns-clause-dates : goal.returns-clause-dates
returns-clause-dates c =
    let season = c.args.reported.now.season in
    let line = c.args.line.now in
    dates_end (is_on season line.period.days) (λ day. weekday_on season day == c.args.weekday) (is_operated season c.args.reported.now.reports line) c.listed_days.ensures.ends c.loop-day.tally.dates c.loop-day.day (line.period.last.0 + 1) (length (series_dates season line c.args.weekday)) c.loop-day-test.false c.loop-day.invariant.dates

pub returns-clause-operated : goal.returns-clause-operated
returns-clause-operated c =
    let season = c.args.reported.now.season in
    let line = c.args.line.now in
    operated_end (is_on season line.period.days) (λ day. weekday_on season day == c.args.weekday) (is_operated season c.args.reported.now.reports line) c.listed_days.ensures.ends c.loop-day.tally.operated c.loop-day.day (line.period.last.0 + 1) (length (operated_dates season c.args.reported.now.reports line c.args.weekday)) c.loop-day-test.false c.loop-day.invariant.operated

pub returns-clause-few : goal.returns-clause-few
returns-clause-few c =
    let short = (c.lengths.ensures.bounds c.args.reported.now.season).1 in
    omega (arith, short, c.loop-day.invariant.most, c.requires)
