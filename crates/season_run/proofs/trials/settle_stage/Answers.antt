use Rattle.std.proofs.Common.{rules, ◌≤◌, [], arith}
use Rattle.choice_problem.specs.Problems.{unit_count}
use Rattle.search_workers.specs.Outcomes.{IsSettled}
use Rattle.season_run.proofs.TrialLemmas.{small-trial, many-trial, first-trial, next-trial, found-feasible}
use Rattle.season_run.proofs.trials.settle_stage.Goals as goal

pub returns-then-budget-le-SMALL_BUDGET : goal.returns-then-budget-le-SMALL_BUDGET
returns-then-budget-le-SMALL_BUDGET g c = rw c.visited_end.ensures (
    small-trial c.args.problem.now c.args.budget c.in_ok-outcome.outcome c.requires.budget c.if-budget-le-SMALL_BUDGET.true c.in_ok-outcome.ensures.outcome c.in_ok-outcome.ensures.settled)

pub returns-then-units-gt-SMALL_BUDGET : goal.returns-then-units-gt-SMALL_BUDGET
returns-then-units-gt-SMALL_BUDGET g c =
    many-trial c.args.problem.now c.args.budget c.in_ok-end.end (omega (arith, c.if-budget-le-SMALL_BUDGET.false)) (omega (arith, c.if-units-gt-SMALL_BUDGET.true, c.units.ensures.count))
    c.in_ok-end.ensures.searches c.in_ok-end.ensures.settled

pub returns-then-is_settled : goal.returns-then-is_settled
returns-then-is_settled g c =
    let p = c.args.problem.now in
    let few : unit_count p ≤ 64 = omega (arith, c.if-units-gt-SMALL_BUDGET.false, c.units.ensures.count) in
    let settled : IsSettled c.in_ok-first.first = search rules in
    rw c.visited_end-then-is_settled.ensures (first-trial p c.args.budget c.in_ok-first.first (omega (arith, c.if-budget-le-SMALL_BUDGET.false)) few c.in_ok-first.ensures.outcome settled)

pub found_choice-start-requires : goal.found_choice-start-requires
found_choice-start-requires g c = found-feasible c.args.problem.now [] 64 c.in_ok-first.first c.in_ok-first.ensures.outcome

pub returns : goal.returns
returns g c =
    let p = c.args.problem.now in
    let few : unit_count p ≤ 64 = omega (arith, c.if-units-gt-SMALL_BUDGET.false, c.units.ensures.count) in
    let left : IsSettled c.in_ok-first.first → ⊥ = search rules in
    next-trial p c.args.budget c.in_ok-first.first c.in_ok-end-2.end (omega (arith, c.if-budget-le-SMALL_BUDGET.false)) few c.in_ok-first.ensures.outcome left
    (rw c.found_choice-start.ensures.value at c.in_ok-end-2.ensures.searches) c.in_ok-end-2.ensures.settled
