use Rattle.std.proofs.Common.{ℕ, ◌∙◌, sym, subst, arith}
use Rattle.std.specs.Prelude.{All}
use Rattle.choice_problem.specs.Problems.{ArePartsInRange}
use Rattle.cost_fixing.specs.Loops.{alts_in}
use Rattle.cost_fixing.proofs.StepLemmas.{problem-made, problem-within}
use Rattle.cost_fixing.proofs.units.problem_with.Goals as goal

pub new-requires : goal.new-requires
new-requires c =
    let units = c.in_ok-units.units.items in
    let limits = c.in_ok-limits.limits.items in
    let counts = problem-within c.args.problem.now (alts_in c.args.numbers.now) units limits c.in_ok-units.ensures.value c.in_ok-limits.ensures.value in
    record {
      few_units = omega (arith, counts.0, c.units-units.ensures.count, c.units-units.ensures.few);
      few_resources = c.in_ok-limits.ensures.few;
      limits_from = c.in_ok-limits.ensures.limits_from;
      limits_to = c.in_ok-limits.ensures.limits_to;
      in_range = subst (λ (n : ℕ). All (ArePartsInRange n) units) (sym counts.1) c.in_ok-units.ensures.there;
    }

pub returns : goal.returns
returns c =
    c.new.ensures
    ∙ problem-made c.args.problem.now (alts_in c.args.numbers.now) c.in_ok-units.units.items c.in_ok-limits.limits.items c.in_ok-units.ensures.value c.in_ok-limits.ensures.value
