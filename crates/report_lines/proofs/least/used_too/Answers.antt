use Rattle.std.proofs.Common.{◌≡◌, length, arith, rules, ap, ◌∙◌}
use Rattle.choice_problem.specs.declared.problems.Alt.{Alt}
use Rattle.choice_problem.specs.Problems.{chooser_at, chooser_uses}
use Rattle.report_lines.proofs.LeastLemmas.{added_is, kept_used, taken_zero, has_first, has_other}
use Rattle.report_lines.proofs.least.used_too.Goals as goal

pub add_uses-requires-clause-room : goal.add_uses-requires-clause-room
add_uses-requires-clause-room c = λ r lt. omega (arith, c.requires.zeros r lt)

pub take_named-requires-clause-uses : goal.take_named-requires-clause-uses
take_named-requires-clause-uses c =
    let m = chooser_at c.args.problem.now c.args.unit in
    let long : length c.add_uses.new.counts ≡ length c.args.counts.now = search rules in
    let are = added_is c.args.counts.now c.add_uses.new.counts (chooser_uses m c.args.alt) c.requires.zeros c.add_uses.ensures.uses long in
    has_first c.add_uses.new.counts m c.args.alt c.alt-named.result.one (ap (λ (a : Alt). a.one) c.alt-named.ensures.value) are

pub take_named-requires-2-clause-uses : goal.take_named-requires-2-clause-uses
take_named-requires-2-clause-uses c =
    let m = chooser_at c.args.problem.now c.args.unit in
    let long : length c.add_uses.new.counts ≡ length c.args.counts.now = search rules in
    let are = added_is c.args.counts.now c.add_uses.new.counts (chooser_uses m c.args.alt) c.requires.zeros c.add_uses.ensures.uses long in
    has_other c.add_uses.new.counts c.take_named.new.counts m c.args.alt c.alt-named.result.one c.alt-named.result.two (ap (λ (a : Alt). a.one) c.alt-named.ensures.value) (ap (λ (a : Alt). a.two) c.alt-named.ensures.value) are c.take_named.ensures.count c.take_named.ensures.taken

pub returns-clause-used : goal.returns-clause-used
returns-clause-used c =
    let m = chooser_at c.args.problem.now c.args.unit in
    let long : length c.add_uses.new.counts ≡ length c.args.counts.now = search rules in
    let are = added_is c.args.counts.now c.add_uses.new.counts (chooser_uses m c.args.alt) c.requires.zeros c.add_uses.ensures.uses long in
    kept_used c.add_uses.new.counts c.args.used.now c.in_ok-kept.kept.items (chooser_uses m c.args.alt) _ (long ∙ c.requires.count) c.in_ok-kept.ensures are

pub returns-clause-zeros : goal.returns-clause-zeros
returns-clause-zeros c =
    let m = chooser_at c.args.problem.now c.args.unit in
    let long : length c.add_uses.new.counts ≡ length c.args.counts.now = search rules in
    let are = added_is c.args.counts.now c.add_uses.new.counts (chooser_uses m c.args.alt) c.requires.zeros c.add_uses.ensures.uses long in
    taken_zero c.add_uses.new.counts c.take_named.new.counts c.take_named-2.new.counts m c.args.alt c.alt-named.result.one c.alt-named.result.two (ap (λ (a : Alt). a.one) c.alt-named.ensures.value) (ap (λ (a : Alt). a.two) c.alt-named.ensures.value) are c.take_named.ensures.count c.take_named-2.ensures.count c.take_named.ensures.taken c.take_named-2.ensures.taken
