use Rattle.std.proofs.Common.{ap}
use Rattle.std.proofs.lemmas.Result.{on_ok_weaker}
use Rattle.season_days.specs.declared.declaration.Kind.TheVariants.{Arr, Dep}
use Rattle.usage_watch.specs.Precedence.{is_kind}
use Rattle.usage_watch.proofs.MarkLemmas.{marked_more, marked_same}
use Rattle.usage_watch.proofs.reported.Marks.add.Goals as goal

pub returns-in-Arr-clause-arrivals : goal.returns-in-Arr-clause-arrivals
returns-in-Arr-clause-arrivals c = on_ok_weaker c.mark.result (λ put. λ reports are. marked_more c.args.season.now reports Arr c.args.report c.args.self.now.arrivals c.mark.new.self (ap (is_kind Arr) c.in-Arr.is) put are) c.mark.ensures

pub returns-in-Arr-clause-departures : goal.returns-in-Arr-clause-departures
returns-in-Arr-clause-departures c = on_ok_weaker c.mark.result (λ put. λ reports are. marked_same c.args.season.now reports Dep c.args.report c.args.self.now.departures (ap (is_kind Dep) c.in-Arr.is) are) c.mark.ensures

pub returns-in-Dep-clause-arrivals : goal.returns-in-Dep-clause-arrivals
returns-in-Dep-clause-arrivals c = on_ok_weaker c.mark-in-Dep.result (λ put. λ reports are. marked_same c.args.season.now reports Arr c.args.report c.args.self.now.arrivals (ap (is_kind Arr) c.in-Dep.is) are) c.mark-in-Dep.ensures

pub returns-in-Dep-clause-departures : goal.returns-in-Dep-clause-departures
returns-in-Dep-clause-departures c = on_ok_weaker c.mark-in-Dep.result (λ put. λ reports are. marked_more c.args.season.now reports Dep c.args.report c.args.self.now.departures c.mark-in-Dep.new.self (ap (is_kind Dep) c.in-Dep.is) put are) c.mark-in-Dep.ensures

pub returns-in-Tot-clause-arrivals : goal.returns-in-Tot-clause-arrivals
returns-in-Tot-clause-arrivals c = λ reports are. marked_same c.args.season.now reports Arr c.args.report c.args.self.now.arrivals (ap (is_kind Arr) c.in-Tot.is) are

pub returns-in-Tot-clause-departures : goal.returns-in-Tot-clause-departures
returns-in-Tot-clause-departures c = λ reports are. marked_same c.args.season.now reports Dep c.args.report c.args.self.now.departures (ap (is_kind Dep) c.in-Tot.is) are
