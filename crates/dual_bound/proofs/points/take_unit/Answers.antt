use Rattle.std.proofs.Common.{◌≤◌, subst}
use Rattle.choice_problem.specs.Problems.{alt_uses}
use Rattle.dual_bound.specs.Ends.{AddEnds}
use Rattle.dual_bound.proofs.points.take_unit.Goals as goal

pub returns-clause-runs : goal.returns-clause-runs
returns-clause-runs c = λ prices h.
    subst (λ a. AddEnds c.args.begins.now c.args.ends.now c.add_alt.new.begins c.add_alt.new.ends (λ r. alt_uses c.args.problem.now c.args.unit a r))
    (c.first_least-least.ensures.alt prices h) c.add_alt.ensures

pub returns-clause-few : goal.returns-clause-few
returns-clause-few c = λ prices h r.
    subst (λ a. alt_uses c.args.problem.now c.args.unit a r ≤ 434) (c.first_least-least.ensures.alt prices h)
    (c.unit_alts-alts.ensures.valid.uses c.first_least-least.result.alt r c.first_least-least.ensures.there)
