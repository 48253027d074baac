use Rattle.std.proofs.Common.{rules, ◌≤◌, length, ◌∙◌}
use Rattle.choice_problem.specs.Problems.{chooser_at, alt_at}
use Rattle.cost_fixing.proofs.StepLemmas.{unit-made, take-push}
use Rattle.cost_fixing.proofs.units.unit_with.Goals as goal

pub loop-number-preserved : goal.loop-number-preserved
loop-number-preserved c =
    c.in_ok-push.ensures.items
    ∙ take-push (λ a. alt_at (chooser_at c.args.problem.now c.args.unit) a) c.args.numbers.now c.loop-number.number-index c.loop-number.alts.items c.alt.result c.loop-number-test.true
    c.loop-number.invariant c.alt.ensures.value

pub new-requires : goal.new-requires
new-requires c =
    let numbers = c.args.numbers.now in
    let all : length numbers ≤ c.loop-number.number-index = search rules in
    unit-made (chooser_at c.args.problem.now c.args.unit) numbers c.loop-number.number-index c.in_ok-parts.parts.items c.loop-number.alts.items
    c.unit_parts.ensures.valid c.requires.some c.requires.few c.requires.there all (c.in_ok-parts.ensures ∙ c.unit_parts.ensures.value) c.loop-number.invariant
