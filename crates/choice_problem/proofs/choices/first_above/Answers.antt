use Rattle.std.proofs.Common.{◌∙◌, sym, length, pos, ap}
use Rattle.std.specs.Prelude.{ℤ}
use Rattle.std.proofs.lemmas.List.{length-map}
use Rattle.choice_problem.proofs.LimitLemmas.{above-there, above-passes, above-first, none-above}
use Rattle.choice_problem.proofs.choices.first_above.Goals as goal

pub first_above_limit-requires-clause-limits : goal.first_above_limit-requires-clause-limits
first_above_limit-requires-clause-limits c =
    ap length c.limits.ensures.value ∙ length-map {B = ℤ} c.args.problem.now.limits pos ∙ sym c.requires

pub returns-clause-there : goal.returns-clause-there
returns-clause-there c =
    above-there c.args.problem.now c.args.counts.now c.limits.result.now c.limits.ensures.value c.requires c.first_above_limit.result c.first_above_limit.ensures.some

pub returns-clause-above : goal.returns-clause-above
returns-clause-above c =
    above-passes c.args.problem.now c.args.counts.now c.limits.result.now c.limits.ensures.value c.requires c.first_above_limit.result c.first_above_limit.ensures.some

pub returns-clause-first : goal.returns-clause-first
returns-clause-first c =
    above-first c.args.problem.now c.args.counts.now c.limits.result.now c.limits.ensures.value c.requires c.first_above_limit.result c.first_above_limit.ensures.some

pub returns-clause-none : goal.returns-clause-none
returns-clause-none c =
    none-above c.args.problem.now c.args.counts.now c.limits.result.now c.limits.ensures.value c.requires c.first_above_limit.result c.first_above_limit.ensures.none
