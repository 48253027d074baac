use Rattle.std.proofs.Common.{◌+◌, ◌<◌, ◌≤◌, List, length, take, rules, subst, refl, ◌∙◌, []}
use Rattle.std.proofs.lemmas.List.{take_all}
use Rattle.choice_problem.specs.declared.strips.Strip.{Strip}
use Rattle.choice_problem.specs.Strips.{part_uses}
use Rattle.report_lines.specs.Private.{MovesUses}
use Rattle.report_lines.proofs.LeastLemmas.{moves_none, moves_join, part_more}
use Rattle.report_lines.proofs.least.move_part.Goals as goal

pub loop-strip-init : goal.loop-strip-init
loop-strip-init c = record { count = refl; moves = moves_none c.args.counts.now c.args.used.now.items (part_uses []) (λ r. refl) }

pub loop-strip-preserved : goal.loop-strip-preserved
loop-strip-preserved c =
    let strips = c.strips-strip-items.result.now in
    let i = c.loop-strip.strip-index in
    let lt : i < length strips = search rules in
    let moves = moves_join c.args.counts.now c.loop-strip.counts c.move_strip.new.counts c.args.used.now.items c.loop-strip.used.items c.move_strip.new.used.items (part_uses (take i strips)) _ (part_uses (take (i + 1) strips)) c.loop-strip.invariant.moves c.in_ok-move_strip.ensures
    (λ r some. part_more strips i _ r lt some) in
    record { count = moves.count; moves = moves }

pub returns : goal.returns
returns c =
    let strips = c.strips-strip-items.result.now in
    let past : length strips ≤ c.loop-strip.strip-index = search rules in
    subst (λ (xs : List Strip). MovesUses c.args.counts.now c.args.used.now.items c.loop-strip.counts c.loop-strip.used.items (part_uses xs)) (take_all c.loop-strip.strip-index strips past ∙ c.strips-strip-items.ensures) c.loop-strip.invariant.moves
