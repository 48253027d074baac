use Rattle.std.proofs.Common.{rules, arith, ◌≡◌, ◌∙◌, ap, subst, pos, ◌-ℤ◌}
use Rattle.choice_problem.specs.Bounds.{bound_of}
use Rattle.price_table.specs.Totals.{TotalsView, AreSummed}
use Rattle.price_table.proofs.TotalLemmas.{summed-small, totals-bound}
use Rattle.price_table.proofs.totals.Totals.bound.Goals as goal

pub difference-requires-clause-one : goal.difference-requires-clause-one
difference-requires-clause-one c = omega (arith, summed-small c.self.inside.least.items c.self.inside.total c.self.invariant.1.0)

pub returns : goal.returns
returns c = λ p prices h.
    let s = c.self.inside in
    let t : TotalsView = c.args.self.now in
    let summed : AreSummed t.least s.total = subst (λ (v : TotalsView). AreSummed v.least s.total) c.self.view_is c.self.invariant.1.0 in
    let limits : s.limits ≡ t.limits = ap (λ (v : TotalsView). v.limits) c.self.view_is in
    let value : c.difference.result ≡ bound_of p t.ranges prices t.scale =
    c.difference.ensures ∙ ap (λ n. pos s.total -ℤ pos n) limits ∙ totals-bound p prices t s.total h summed in
    search rules
