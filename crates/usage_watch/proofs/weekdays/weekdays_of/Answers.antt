use Rattle.std.proofs.Common.{◌≡◌, ℕ, ◌+◌, length, sym, ap, ◌∙◌, arith, nat_lt}
use Rattle.usage_watch.specs.Precedence.{is_series, has_precedence, is_enough, operated_dates}
use Rattle.usage_watch.proofs.WeekdayLemmas.{count_more, days_more, count_few, days_in_byte, few_more}
use Rattle.usage_watch.proofs.weekdays.weekdays_of.Goals as goal

pub loop-weekday-preserved : goal.loop-weekday-preserved
loop-weekday-preserved c =
    let season = c.args.reported.now.season in
    let reports = c.args.reported.now.reports in
    let line = c.args.line.now in
    let n = c.loop-weekday.weekday in
    let series : c.is_series.result ≡ is_series season line (n + 1) = c.is_series.ensures ∙ ap (λ (k : ℕ). nat_lt 0 k) c.of-tally.ensures.dates in
    let kept : c.has_precedence-kept.result ≡ has_precedence season reports line (n + 1) = c.has_precedence-kept.ensures ∙ ap (λ (k : ℕ). is_enough k c.of-tally.result.dates) c.of-tally.ensures.operated ∙ ap (λ (k : ℕ). is_enough (length (operated_dates season reports line (n + 1))) k) c.of-tally.ensures.dates in
    record {
      series = rw (c.one_if.ensures, series, c.loop-weekday.invariant.series) (sym (count_more (is_series season line) n));
      kept = rw (c.one_if-in-loop-weekday.ensures, kept, c.loop-weekday.invariant.kept) (sym (count_more (has_precedence season reports line) n));
      days = rw (c.bit_if.ensures, kept, c.loop-weekday.invariant.days) (sym (days_more (has_precedence season reports line) n));
    }

pub overflow_add-found : goal.overflow_add-found
overflow_add-found c =
    let few = few_more (is_series c.args.reported.now.season c.args.line.now) c.loop-weekday.weekday c.is_series.result c.loop-weekday-test.true in
    omega (arith, few, c.one_if.ensures, c.loop-weekday.invariant.series)

pub overflow_add-found-in-loop-weekday : goal.overflow_add-found-in-loop-weekday
overflow_add-found-in-loop-weekday c =
    let few = few_more (has_precedence c.args.reported.now.season c.args.reported.now.reports c.args.line.now) c.loop-weekday.weekday c.has_precedence-kept.result c.loop-weekday-test.true in
    omega (arith, few, c.one_if-in-loop-weekday.ensures, c.loop-weekday.invariant.kept)

pub overflow_add-found-in-loop-weekday-2 : goal.overflow_add-found-in-loop-weekday-2
overflow_add-found-in-loop-weekday-2 c =
    let few = days_in_byte (has_precedence c.args.reported.now.season c.args.reported.now.reports c.args.line.now) c.loop-weekday.weekday c.has_precedence-kept.result c.loop-weekday-test.true in
    omega (arith, few, c.bit_if.ensures, c.loop-weekday.invariant.days)

pub returns-clause-series_few : goal.returns-clause-series_few
returns-clause-series_few c =
    let few = count_few (is_series c.args.reported.now.season c.args.line.now) c.loop-weekday.weekday in
    omega (arith, few, c.loop-weekday.invariant.series)

pub returns-clause-kept_few : goal.returns-clause-kept_few
returns-clause-kept_few c =
    let few = count_few (has_precedence c.args.reported.now.season c.args.reported.now.reports c.args.line.now) c.loop-weekday.weekday in
    omega (arith, few, c.loop-weekday.invariant.kept)
