use Rattle.std.proofs.Common.{List, take, subst, arith}
use Rattle.std.proofs.lemmas.List.{take_all}
use Rattle.season_days.specs.declared.declaration.Kind.TheVariants.{Arr, Dep}
use Rattle.usage_watch.specs.declared.operated.Operated.{Operated}
use Rattle.usage_watch.specs.Private.Marks.{AreMarked}
use Rattle.usage_watch.proofs.MarkLemmas.{reports_more}
use Rattle.usage_watch.proofs.reported.Marks.of.Goals as goal

pub loop-report-preserved : goal.loop-report-preserved
loop-report-preserved c =
    let reports = c.args.reports.now in
    let i = c.loop-report.report-index in
    record {
      arrivals = reports_more (λ (l : List Operated). AreMarked c.args.season.now l Arr c.add.new.self.arrivals) reports i _ c.loop-report-test.true (c.in_ok-add.ensures.arrivals (take i reports) c.loop-report.invariant.arrivals);
      departures = reports_more (λ (l : List Operated). AreMarked c.args.season.now l Dep c.add.new.self.departures) reports i _ c.loop-report-test.true (c.in_ok-add.ensures.departures (take i reports) c.loop-report.invariant.departures);
    }

pub returns-clause-arrivals : goal.returns-clause-arrivals
returns-clause-arrivals c = subst (λ (l : List Operated). AreMarked c.args.season.now l Arr c.loop-report.marks.arrivals) (take_all c.loop-report.report-index c.args.reports.now (omega arith)) c.loop-report.invariant.arrivals

pub returns-clause-departures : goal.returns-clause-departures
returns-clause-departures c = subst (λ (l : List Operated). AreMarked c.args.season.now l Dep c.loop-report.marks.departures) (take_all c.loop-report.report-index c.args.reports.now (omega arith)) c.loop-report.invariant.departures
