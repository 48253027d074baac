use Rattle.std.proofs.Common.{◌∙◌, sym, ap, subst, length, List, ℤ, pos}
use Rattle.std.proofs.lemmas.List.{length-map}
use Rattle.capacity_windows.specs.Windows.{IsCapacity, declared_resources}
use Rattle.season_report.specs.Reasons.{barred_dates}
use Rattle.season_report.specs.Private.{resources_above}
use Rattle.season_report.proofs.FoundLemmas.{reason_none, reason_some}
use Rattle.season_report.proofs.rows.barred_by.Goals as goal

pub barred_dates-dates-requires-clause-windows : goal.barred_dates-dates-requires-clause-windows
barred_dates-dates-requires-clause-windows c = c.requires.settled.windows

pub barred_dates-dates-requires-clause-keeps : goal.barred_dates-dates-requires-clause-keeps
barred_dates-dates-requires-clause-keeps c = subst IsCapacity (sym c.requires.settled.windows) c.requires.settled.keeps.capacity

pub barred_dates-dates-requires-clause-count : goal.barred_dates-dates-requires-clause-count
barred_dates-dates-requires-clause-count c = c.requires.count ∙ c.requires.settled.resources ∙ ap declared_resources (sym c.requires.settled.windows)

pub barred_dates-dates-requires-clause-limits : goal.barred_dates-dates-requires-clause-limits
barred_dates-dates-requires-clause-limits c =
    ap (λ (zs : List ℤ). length zs) c.limits-limits.ensures.value ∙ length-map c.args.tried.problem.now.limits pos ∙ sym c.requires.count

pub returns-in-Some : goal.returns-in-Some
returns-in-Some c = λ others keeps grown.
    let t = c.args.tried in
    let counts = c.args.counts.now in
    let dates = c.barred_dates-dates.ensures ∙ ap (λ (zs : List ℤ). barred_dates t.declaration.now c.args.line.now c.args.times (resources_above counts zs)) c.limits-limits.ensures.value in
    reason_some t c.args.place c.args.line.now c.args.times c.args.alt c.in-Some.resource c.uses-uses.result c.barred_dates-dates.result others counts keeps grown c.requires.count
    c.in-Some.ensures c.uses-uses.ensures.value dates

pub returns-in-None : goal.returns-in-None
returns-in-None c = λ others keeps grown.
    reason_none c.args.tried c.args.place c.args.line.now c.args.times c.args.alt others c.args.counts.now keeps grown c.requires.count c.in-None.ensures
