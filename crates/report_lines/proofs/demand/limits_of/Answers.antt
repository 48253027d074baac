use Rattle.std.proofs.Common.{◌∙◌, arith}
use Rattle.std.proofs.lemmas.List.{take_all}
use Rattle.report_lines.proofs.demand.limits_of.Goals as goal

pub returns : goal.returns
returns c = c.loop-resource.invariant ∙ take_all c.loop-resource.resource c.args.problem.now.limits (omega (arith, c.loop-resource-test.false, c.resources-resources.ensures.count))
