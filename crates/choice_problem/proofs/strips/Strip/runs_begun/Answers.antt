use Rattle.std.proofs.Common.{◌<◌, arith, rules}
use Rattle.std.proofs.lemmas.Grind.{common_steps}
use Rattle.choice_problem.proofs.StripLemmas.{count-still, count-multiples}
use Rattle.choice_problem.proofs.strips.Strip.runs_begun.Goals as goal

pub returns-then-self-eq0 : goal.returns-then-self-eq0
returns-then-self-eq0 c = count-still c.args.self.now c.args.distance (search rules)

pub returns-then-last-self : goal.returns-then-last-self
returns-then-last-self c =
    let s = c.args.self.now in
    let moves : 0 < s.gap = search rules in
    let all = count-multiples s.times s.gap c.args.distance moves in
    grind (arith, common_steps, all)

pub returns-else-last-self : goal.returns-else-last-self
returns-else-last-self c =
    let s = c.args.self.now in
    let moves : 0 < s.gap = search rules in
    let all = count-multiples s.times s.gap c.args.distance moves in
    grind (arith, common_steps, all)
