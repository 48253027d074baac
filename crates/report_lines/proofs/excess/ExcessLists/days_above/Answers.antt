use Rattle.std.proofs.Common.{◌≡◌, ℕ, ◌+◌, ◌*◌, refl, subst, arith, rules}
use Rattle.std.specs.List.{range_with_len}
use Rattle.report_lines.specs.Private.{IsAbove}
use Rattle.report_lines.proofs.AboveLemmas.{above_more, small_more, small_few}
use Rattle.report_lines.proofs.excess.ExcessLists.days_above.Goals as goal

pub loop-day-init : goal.loop-day-init
loop-day-init c = record { small = record { counted = tt; within = tt }; found = λ e are. refl }

pub with_day-found-requires-clause-few : goal.with_day-found-requires-clause-few
with_day-found-requires-clause-few c = small_few c.loop-day.found c.loop-day.day c.args.days c.loop-day.invariant.small (omega (arith, c.loop-day-test.true, c.requires.few))

pub loop-day-preserved : goal.loop-day-preserved
loop-day-preserved c =
    let day = c.loop-day.day in
    let x = c.args.self in
    let r = c.args.first + day * c.args.starts + c.args.start in
    record {
      small = small_more x c.loop-day.found c.with_day-found.result day r day c.args.days c.loop-day-test.true c.with_day-found.ensures c.loop-day.invariant.small;
      found = λ e are. above_more e x (λ (d : ℕ). c.args.first + d * c.args.starts + c.args.start) day r c.loop-day.found c.with_day-found.result are refl (c.requires.there day c.loop-day-test.true) c.with_day-found.ensures (c.loop-day.invariant.found e are);
    }

pub returns-clause-day : goal.returns-clause-day
returns-clause-day c = c.loop-day.invariant.small.within

pub returns-clause-found : goal.returns-clause-found
returns-clause-found c = λ e are.
    let end : c.loop-day.day ≡ c.args.days = search rules in
    subst (λ (n : ℕ). IsAbove e (λ (d : ℕ). c.args.first + d * c.args.starts + c.args.start) (range_with_len 0 n) c.loop-day.found) end (c.loop-day.invariant.found e are)
