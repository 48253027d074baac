use Rattle.std.proofs.Common.{take}
use Rattle.season_days.specs.declared.declaration.Kind.TheVariants.{Arr, Dep}
use Rattle.usage_watch.specs.Private.Marks.{AreMarked}
use Rattle.usage_watch.proofs.reported.Marks.of.Given as goal

abbrev pub invariant-loop-report : goal.invariant-loop-report
invariant-loop-report l = record {
  arrivals : AreMarked l.season (take l.report-index l.reports) Arr l.marks.arrivals;
  departures : AreMarked l.season (take l.report-index l.reports) Dep l.marks.departures;
}
