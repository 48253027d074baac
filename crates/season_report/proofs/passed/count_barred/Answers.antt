use Rattle.std.proofs.Common.{ℕ, ◌+◌, ◌<◌, Bool, sym, subst, arith}
use Rattle.std.specs.List.{list_any}
use Rattle.season_days.specs.Term.{Term}
use Rattle.season_days.specs.Seasons.{date_count, is_on}
use Rattle.series_model.specs.Movements.{movements_on}
use Rattle.season_report.specs.Reasons.{is_held_by}
use Rattle.season_report.specs.Private.{resources_above}
use Rattle.season_report.proofs.MovementLemmas.{passing_none, counted_more, one_at_most}
use Rattle.season_report.proofs.passed.count_barred.Goals as goal

pub overflow_add-end : goal.overflow_add-end
overflow_add-end c = omega (arith, c.requires.line.last, c.lengths.ensures.bounds c.args.season.now)

pub loop-date-init : goal.loop-date-init
loop-date-init c = record { counted = omega arith; small = omega arith }

pub is_barred_date-barred-requires-clause-date : goal.is_barred_date-barred-requires-clause-date
is_barred_date-barred-requires-clause-date c =
    let below : c.loop-date.date < date_count c.args.season.now = omega (arith, c.loop-date-test.true, c.requires.line.last) in
    subst (λ (season : Term). c.loop-date.date < date_count season) (sym c.requires.season) below

pub overflow_add-count : goal.overflow_add-count
overflow_add-count c =
    let below : c.loop-date.date < date_count c.args.season.now = omega (arith, c.loop-date-test.true, c.requires.line.last) in
    omega (arith, below, c.lengths.ensures.bounds c.args.season.now, c.loop-date.invariant.small, one_at_most c.is_barred_date-barred.result c.from-count.result c.from-count.ensures)

pub loop-date-preserved : goal.loop-date-preserved
loop-date-preserved c =
    let test : ℕ → Bool = λ (date : ℕ). list_any (is_held_by c.args.windows.now (resources_above c.args.counts.now c.args.limits.now)) (movements_on c.args.windows.now.season c.args.line.now c.args.arrival c.args.departure date) in
    record {
      counted = counted_more test (is_on c.args.season.now c.args.line.now.period.days) c.loop-date.date (c.args.line.now.period.last.0 + 1) c.loop-date.count c.from-count.result _ c.is_barred_date-barred.result c.loop-date-test.true c.is_barred_date-barred.ensures c.from-count.ensures c.loop-date.invariant.counted;
      small = omega (arith, c.loop-date.invariant.small, one_at_most c.is_barred_date-barred.result c.from-count.result c.from-count.ensures);
    }

pub returns : goal.returns
returns c =
    let test : ℕ → Bool = λ (date : ℕ). list_any (is_held_by c.args.windows.now (resources_above c.args.counts.now c.args.limits.now)) (movements_on c.args.windows.now.season c.args.line.now c.args.arrival c.args.departure date) in
    omega (arith, c.loop-date.invariant.counted, passing_none test (is_on c.args.season.now c.args.line.now.period.days) c.loop-date.date (c.args.line.now.period.last.0 + 1) c.loop-date-test.false)
