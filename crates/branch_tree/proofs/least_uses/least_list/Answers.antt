use Rattle.std.proofs.Common.{ℕ, ◌≤◌, arith}
use Rattle.finite_sums.specs.Sums.{least_within}
use Rattle.choice_problem.specs.Problems.{ProblemView, alt_uses}
use Rattle.finite_sums.proofs.SumLemmas.{least_within-le}
use Rattle.branch_tree.proofs.least_uses.least_list.Goals as goal

few_least : (p : ProblemView) (u low high : ℕ) → low ≤ high → ((r : ℕ) → alt_uses p u low r ≤ 434) → (r : ℕ) → least_within low high (λ a. alt_uses p u a r) ≤ 434
few_least p u low high l h = λ r. omega (arith, least_within-le low high low (λ a. alt_uses p u a r) (omega arith) l, h r)

pub returns-in_err-first-clause-few : goal.returns-in_err-first-clause-few
returns-in_err-first-clause-few c = few_least c.args.problem.now c.args.unit c.args.low c.args.high c.requires.ordered c.in_err-first.ensures.few

pub returns-in_err-list-clause-few : goal.returns-in_err-list-clause-few
returns-in_err-list-clause-few c = few_least c.args.problem.now c.args.unit c.args.low c.args.high c.requires.ordered c.in_ok-first.ensures.few

pub returns-in_err-lower_rows-clause-few : goal.returns-in_err-lower_rows-clause-few
returns-in_err-lower_rows-clause-few c = few_least c.args.problem.now c.args.unit c.args.low c.args.high c.requires.ordered c.in_ok-first.ensures.few

pub returns-clause-few : goal.returns-clause-few
returns-clause-few c = few_least c.args.problem.now c.args.unit c.args.low c.args.high c.requires.ordered c.in_ok-first.ensures.few

pub lower_rows-requires-clause-first : goal.lower_rows-requires-clause-first
lower_rows-requires-clause-first c = λ i n.
    let list = rw c.deref.ensures.value at c.in_ok-list.ensures.places in
    omega (arith, list i, c.in_ok-first.ensures.uses i n)
