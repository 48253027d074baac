use Rattle.std.proofs.Common.{◌<◌, sym, subst, Option}
use Rattle.std.specs.Prelude.{IfSome}
use Rattle.choice_problem.specs.Problems.{resource_count}
use Rattle.season_report.specs.declared.barred.Barred.{Barred}
use Rattle.season_report.proofs.FoundLemmas.{found_there}
use Rattle.season_report.proofs.rows.cheaper_of.Goals as goal

pub returns-clause-cheaper : goal.returns-clause-cheaper
returns-clause-cheaper c = cc (c.alt_cost-cost.ensures.value, c.bar_of-barred.ensures.reason)

pub returns-clause-there : goal.returns-clause-there
returns-clause-there c =
    subst (λ (o : Option Barred). IfSome o (λ barred. barred.resource < resource_count c.args.tried.problem.now)) (sym c.bar_of-barred.ensures.reason)
    (found_there c.args.tried c.args.place c.args.line.now c.args.times c.args.alt c.args.others.now)
