use Rattle.std.proofs.Common.{◌||◌, ◌∷◌, [], false, Bool, ℕ, length, get_or, ap, arith, List}
use Rattle.std.proofs.lemmas.List.{length-append}
use Rattle.season_days.specs.Periods.{is_date_of}
use Rattle.usage_watch.proofs.MarkLemmas.{mark_more}
use Rattle.usage_watch.proofs.marks.with_dates.Goals as goal

pub loop-day-preserved : goal.loop-day-preserved
loop-day-preserved c =
    let f : ℕ → Bool = λ day. get_or c.args.marks.now day false || is_date_of c.args.season.now c.args.period day in
    let old = c.loop-day.with.items in
    let b = c.is_mark_or_date.result in
    record {
      count = omega (arith, ap (λ (xs : List Bool). length xs) c.in_ok-push.ensures.items, length-append old (b ∷ []), c.loop-day.invariant.count);
      marked = λ day lt. rw c.in_ok-push.ensures.items (mark_more old c.loop-day.day b f c.loop-day.invariant.count c.is_mark_or_date.ensures c.loop-day.invariant.marked day lt);
    }
