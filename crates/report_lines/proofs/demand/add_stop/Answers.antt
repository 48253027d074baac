use Rattle.std.proofs.Common.{ℕ, arith, subst, sym}
use Rattle.choice_problem.specs.Strips.{part_uses, IsPartInRange}
use Rattle.series_model.specs.Movements.{stop_load}
use Rattle.report_lines.proofs.DemandLemmas.{stop_some, stop_none, grows_as, grows_none}
use Rattle.report_lines.proofs.demand.add_stop.Goals as goal

pub add_uses-requires-clause-there : goal.add_uses-requires-clause-there
add_uses-requires-clause-there c = subst (λ (n : ℕ). IsPartInRange n c.in_ok-part-in-Some.part) (sym c.requires.count) c.in_ok-part-in-Some.ensures.range

pub add_uses-requires-clause-room : goal.add_uses-requires-clause-room
add_uses-requires-clause-room c = λ r lt. omega (arith, c.requires.room r lt, c.in_ok-part-in-Some.ensures.few_uses r)

pub returns-in_ok-part-in-Some-clause-added : goal.returns-in_ok-part-in-Some-clause-added
returns-in_ok-part-in-Some-clause-added c =
    grows_as c.args.loads.now c.add_uses.new.counts (part_uses c.in_ok-part-in-Some.part) (stop_load c.args.windows.now c.args.kind c.args.stop c.args.minute c.args.period)
    (λ r. stop_some c.args.windows.now c.args.kind c.args.stop _ c.args.minute c.args.period (part_uses c.in_ok-part-in-Some.part r) r c.in-Some.is (c.in_ok-part-in-Some.ensures.uses r)) c.add_uses.ensures

pub returns-in_ok-part-in-Some-clause-few : goal.returns-in_ok-part-in-Some-clause-few
returns-in_ok-part-in-Some-clause-few c = λ r.
    let same = stop_some c.args.windows.now c.args.kind c.args.stop _ c.args.minute c.args.period (part_uses c.in_ok-part-in-Some.part r) r c.in-Some.is (c.in_ok-part-in-Some.ensures.uses r) in
    omega (arith, same, c.in_ok-part-in-Some.ensures.few_uses r)

pub returns-in-None-clause-added : goal.returns-in-None-clause-added
returns-in-None-clause-added c = grows_none c.args.loads.now (stop_load c.args.windows.now c.args.kind c.args.stop c.args.minute c.args.period) (λ r. stop_none c.args.windows.now c.args.kind c.args.stop c.args.minute c.args.period r c.in-None.is)

pub returns-in-None-clause-few : goal.returns-in-None-clause-few
returns-in-None-clause-few c = λ r. omega (arith, stop_none c.args.windows.now c.args.kind c.args.stop c.args.minute c.args.period r c.in-None.is)
