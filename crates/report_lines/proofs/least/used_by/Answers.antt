use Rattle.std.proofs.Common.{◌≡◌, length, arith, rules, ap, ◌∙◌}
use Rattle.choice_problem.specs.declared.problems.Alt.{Alt}
use Rattle.choice_problem.specs.Problems.{chooser_at, chooser_uses}
use Rattle.report_lines.proofs.LeastLemmas.{moves_both, moved_all, moved_zero, added_is}
use Rattle.report_lines.proofs.least.used_by.Goals as goal

pub add_uses-requires-clause-room : goal.add_uses-requires-clause-room
add_uses-requires-clause-room c = λ r lt. omega (arith, c.requires.zeros r lt)

pub returns-clause-used : goal.returns-clause-used
returns-clause-used c =
    let m = chooser_at c.args.problem.now c.args.unit in
    let long : length c.add_uses.new.counts ≡ length c.args.counts.now = search rules in
    let are = added_is c.args.counts.now c.add_uses.new.counts (chooser_uses m c.args.alt) c.requires.zeros c.add_uses.ensures.uses long in
    let moves = moves_both c.add_uses.new.counts c.move_named.new.counts c.move_named-2.new.counts c.new-used.result.items c.move_named.new.used.items c.move_named-2.new.used.items m c.args.alt c.alt-named.result.one c.alt-named.result.two (ap (λ (a : Alt). a.one) c.alt-named.ensures.value) (ap (λ (a : Alt). a.two) c.alt-named.ensures.value) c.in_ok-move_named.ensures c.in_ok-move_named-2.ensures in
    moved_all c.add_uses.new.counts c.move_named-2.new.counts c.new-used.result.items c.move_named-2.new.used.items (chooser_uses m c.args.alt) c.new-used.ensures.items moves are _ (long ∙ c.requires.count)

pub returns-clause-zeros : goal.returns-clause-zeros
returns-clause-zeros c =
    let m = chooser_at c.args.problem.now c.args.unit in
    let long : length c.add_uses.new.counts ≡ length c.args.counts.now = search rules in
    let are = added_is c.args.counts.now c.add_uses.new.counts (chooser_uses m c.args.alt) c.requires.zeros c.add_uses.ensures.uses long in
    let moves = moves_both c.add_uses.new.counts c.move_named.new.counts c.move_named-2.new.counts c.new-used.result.items c.move_named.new.used.items c.move_named-2.new.used.items m c.args.alt c.alt-named.result.one c.alt-named.result.two (ap (λ (a : Alt). a.one) c.alt-named.ensures.value) (ap (λ (a : Alt). a.two) c.alt-named.ensures.value) c.in_ok-move_named.ensures c.in_ok-move_named-2.ensures in
    moved_zero c.add_uses.new.counts c.move_named-2.new.counts c.new-used.result.items c.move_named-2.new.used.items (chooser_uses m c.args.alt) moves are
