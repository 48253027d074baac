use Rattle.std.proofs.Common.{ℕ, ◌-◌, Bool, length, sym, ◌∙◌, arith}
use Rattle.std.specs.List.{filter}
use Rattle.season_days.specs.Seasons.{is_on, days_from}
use Rattle.season_days.proofs.CountLemmas.{count_on, count_off, count_end}
use Rattle.season_days.proofs.season.Season.count_days.Goals as goal
use Rattle.season_days.proofs.season.Season.count_days.Goals.{then-is_on, else-is_on}

pub loop-day-preserved : goal.loop-day-preserved
loop-day-preserved c =
    let test : ℕ → Bool = is_on c.args.self.now c.args.days in
    let all = length (filter test (days_from c.args.first (c.args.end - c.args.first))) in
    elim c.if-is_on.branch [
      | then-is_on w ↦ record {
        counted = rw w.count-is (count_on test c.loop-day.count c.loop-day.day c.args.end all c.loop-day-test.true (sym c.is_on.ensures ∙ w.if-is_on.true) c.loop-day.invariant.counted);
        few = omega (arith, w.count-is, c.loop-day.invariant.few, c.loop-day.auto.day);
        most = omega (arith, w.count-is, c.loop-day.invariant.few, c.loop-day.auto.day, c.loop-day-test.true);
      }
      | else-is_on w ↦ record {
        counted = rw w.count-is (count_off test c.loop-day.count c.loop-day.day c.args.end all c.loop-day-test.true (sym c.is_on.ensures ∙ w.if-is_on.false) c.loop-day.invariant.counted);
        few = omega (arith, w.count-is, c.loop-day.invariant.few);
        most = omega (arith, w.count-is, c.loop-day.invariant.most);
      }
    ]

pub returns-clause-count : goal.returns-clause-count
returns-clause-count c =
    count_end (is_on c.args.self.now c.args.days) c.loop-day.count c.loop-day.day c.args.end (length (filter (is_on c.args.self.now c.args.days) (days_from c.args.first (c.args.end - c.args.first)))) c.loop-day-test.false c.loop-day.invariant.counted
