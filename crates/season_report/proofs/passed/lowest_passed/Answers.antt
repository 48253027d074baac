use Rattle.std.proofs.Common.{ℕ, ◌+◌, ◌<◌, sym, ap, subst, Option, pos, map}
use Rattle.choice_problem.specs.declared.problems.Alt.{Alt}
use Rattle.choice_problem.specs.Problems.{chooser_at, named_uses, alt_uses}
use Rattle.season_report.specs.Private.{IsLowest}
use Rattle.season_report.proofs.LowestLemmas.{sum_lowest}
use Rattle.season_report.proofs.passed.lowest_passed.Goals as goal

pub returns : goal.returns
returns c =
    let p = c.args.problem.now in
    let m = chooser_at p c.args.unit in
    let counts = c.args.counts.now in
    let limits = map pos p.limits in
    subst (λ (o : Option ℕ). IsLowest counts limits (λ r. 0 < alt_uses p c.args.unit c.args.alt r) o) (sym c.lower.ensures)
    (sum_lowest counts limits (λ r. named_uses m c.alt-named.result.one r) (λ r. named_uses m c.alt-named.result.two r) (λ r. alt_uses p c.args.unit c.args.alt r) c.lowest_named.result c.lowest_named-2.result
    (λ r. sym (ap (λ (x : Alt). named_uses m x.one r + named_uses m x.two r) c.alt-named.ensures.value))
    c.lowest_named.ensures c.lowest_named-2.ensures)
