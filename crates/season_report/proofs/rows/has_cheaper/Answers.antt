use Rattle.std.proofs.Common.{◌≡◌, ◌≤◌, inl, inr, ℕ, subst, arith}
use Rattle.std.proofs.lemmas.Bool.{cases_lt}
use Rattle.choice_problem.specs.Problems.{alt_cost}
use Rattle.season_report.proofs.rows.has_cheaper.Goals as goal

pub loop-alt-preserved : goal.loop-alt-preserved
loop-alt-preserved c = λ k lt.
    let p = c.args.tried.problem.now in
    elim (cases_lt k c.loop-alt.alt) as (λ w. c.args.cost ≤ alt_cost p c.args.place k) [
      | inl below ↦ c.loop-alt.invariant k below
      | inr here ↦
          let same : c.loop-alt.alt ≡ k = omega arith in
          let own : c.args.cost ≤ alt_cost p c.args.place c.loop-alt.alt = omega (arith, c.alt_cost-own.ensures.value) in
          subst (λ (j : ℕ). c.args.cost ≤ alt_cost p c.args.place j) same own
    ]

pub returns : goal.returns
returns c = λ _ k lt. c.loop-alt.invariant k (omega arith)
