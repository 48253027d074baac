use Rattle.std.proofs.Common.{◌≡◌, ◌++◌, arith, length, take, drop}
use Rattle.std.proofs.lemmas.Grind.{common_steps}
use Rattle.choice_problem.specs.Problems.{resource_count}
use Rattle.dual_bound.proofs.counts.greatest_uses.Goals as goal

pub returns-clause-most : goal.returns-clause-most
returns-clause-most c =
    let counts = c.count_units.new.counts in
    let count : length c.deref_mut.result.now ≡ resource_count c.args.problem.now = grind (arith, common_steps) in
    let whole : take c.in_ok-counts.counts.len (counts ++ drop (length counts) c.in_ok-counts.counts.items) ≡ counts = grind (arith, common_steps) in
    rw whole c.in_ok-count_units.ensures
