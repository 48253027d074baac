use Rattle.std.proofs.Common.{◌≡◌, ℕ, ◌+◌, arith, rules, subst, refl}
use Rattle.choice_problem.specs.Loops.{run_uses}
use Rattle.report_lines.specs.Private.{MovesUses}
use Rattle.report_lines.proofs.LeastLemmas.{moves_none, moves_join, run_more, run_none}
use Rattle.report_lines.proofs.least.move_run.Goals as goal

pub loop-at-init : goal.loop-at-init
loop-at-init c = record { count = refl; moves = moves_none c.args.counts.now c.args.used.now.items (run_uses c.args.start c.args.start) (run_none c.args.start) }

pub loop-at-preserved : goal.loop-at-preserved
loop-at-preserved c =
    let start = c.args.start in
    let at = c.loop-at.at in
    let moves = moves_join c.args.counts.now c.loop-at.counts c.move_one.new.counts c.args.used.now.items c.loop-at.used.items c.move_one.new.used.items (run_uses start at) (run_uses at (at + 1)) (run_uses start (at + 1)) c.loop-at.invariant.moves c.in_ok-move_one.ensures (λ r some. run_more start at r (omega arith) some) in
    record { count = moves.count; moves = moves }

pub returns : goal.returns
returns c =
    let end : c.loop-at.at ≡ c.args.end = search rules in
    subst (λ (k : ℕ). MovesUses c.args.counts.now c.args.used.now.items c.loop-at.counts c.loop-at.used.items (run_uses c.args.start k)) end c.loop-at.invariant.moves
