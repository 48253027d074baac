use Rattle.choice_problem.specs.Problems.{chooser_at}
use Rattle.report_lines.proofs.LeastLemmas.{moves_named, moves_nothing}
use Rattle.report_lines.proofs.least.move_named.Goals as goal

pub returns-in_ok-move_part-in-Some : goal.returns-in_ok-move_part-in-Some
returns-in_ok-move_part-in-Some c =
    moves_named c.args.counts.now c.move_part.new.counts c.args.used.now.items c.move_part.new.used.items (chooser_at c.args.problem.now c.args.unit) c.args.part c.in-Some.n c.in-Some.is (rw c.part.ensures.value at c.in_ok-move_part-in-Some.ensures)

pub returns-in-None : goal.returns-in-None
returns-in-None c = moves_nothing c.args.counts.now c.args.used.now.items (chooser_at c.args.problem.now c.args.unit) c.args.part c.in-None.is
