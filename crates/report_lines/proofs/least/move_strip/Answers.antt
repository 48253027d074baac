use Rattle.std.proofs.Common.{◌≡◌, ℕ, ◌+◌, rules, subst, refl}
use Rattle.finite_sums.specs.Sums.{count_below}
use Rattle.choice_problem.specs.Loops.{run_uses}
use Rattle.choice_problem.specs.Strips.{is_in_run}
use Rattle.report_lines.specs.Private.{MovesUses}
use Rattle.report_lines.proofs.LeastLemmas.{moves_none, moves_join, strip_more}
use Rattle.report_lines.proofs.least.move_strip.Goals as goal

pub loop-i-init : goal.loop-i-init
loop-i-init c = record { count = refl; moves = moves_none c.args.counts.now c.args.used.now.items (λ (r : ℕ). count_below 0 (is_in_run c.args.strip.now r)) (λ r. refl) }

pub loop-i-preserved : goal.loop-i-preserved
loop-i-preserved c =
    let s = c.args.strip.now in
    let i = c.loop-i.i in
    let start = c.run-start.result.0 in
    let end = c.run-start.result.1 in
    let moves = moves_join c.args.counts.now c.loop-i.counts c.move_run.new.counts c.args.used.now.items c.loop-i.used.items c.move_run.new.used.items (λ (r : ℕ). count_below i (is_in_run s r)) (run_uses start end) (λ (r : ℕ). count_below (i + 1) (is_in_run s r)) c.loop-i.invariant.moves c.in_ok-move_run.ensures
    (λ r some. strip_more s i r start end c.run-start.ensures.start c.run-start.ensures.end some) in
    record { count = moves.count; moves = moves }

pub returns : goal.returns
returns c =
    let s = c.args.strip.now in
    let end : c.loop-i.i ≡ s.times = search rules in
    subst (λ (k : ℕ). MovesUses c.args.counts.now c.args.used.now.items c.loop-i.counts c.loop-i.used.items (λ (r : ℕ). count_below k (is_in_run s r))) end c.loop-i.invariant.moves
