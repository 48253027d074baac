use Rattle.std.proofs.Common.{◌≡◌, ℕ, ◌+◌, ◌<◌, sym, subst, arith, rules, Option}
use Rattle.finite_sums.specs.Sums.{count_below}
use Rattle.choice_problem.specs.Strips.{is_in_run}
use Rattle.season_report.specs.Private.{IsLowest}
use Rattle.season_report.proofs.LowestLemmas.{run_lowest}
use Rattle.season_report.proofs.passed.lowest_in_strip.Goals as goal

pub loop-i-init : goal.loop-i-init
loop-i-init c = λ r lt is. absurd (omega (arith, is))

pub loop-i-preserved : goal.loop-i-preserved
loop-i-preserved c =
    let s = c.args.strip.now in
    let i = c.loop-i.i in
    let counts = c.args.counts.now in
    let limits = c.args.limits.now in
    subst (λ (o : Option ℕ). IsLowest counts limits (λ r. 0 < count_below (i + 1) (λ k. is_in_run s r k)) o) (sym c.lower-lowest.ensures)
    (run_lowest counts limits s i c.run-start.result.0 c.run-start.result.1 c.loop-i.lowest c.lowest_in_run.result c.run-start.ensures.start c.run-start.ensures.end c.loop-i.invariant c.lowest_in_run.ensures)

pub returns : goal.returns
returns c =
    let s = c.args.strip.now in
    let end : c.loop-i.i ≡ s.times = search rules in
    subst (λ (k : ℕ). IsLowest c.args.counts.now c.args.limits.now (λ r. 0 < count_below k (λ i. is_in_run s r i)) c.loop-i.lowest) end c.loop-i.invariant
