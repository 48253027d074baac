use Rattle.std.proofs.Common.{◌≡◌, ℕ, ◌<◌, ◌≤◌, ◌+◌, ◌++◌, ◌∷◌, ◌∙◌, [], length, arith, inr}
use Rattle.std.specs.Prelude.{slice_index}
use Rattle.choice_problem.specs.Problems.{resource_count, alt_uses}
use Rattle.choice_problem.specs.Greedy.{load_before, IsGreedyAlt}
use Rattle.branch_tree.proofs.GreedyLemmas.{GreedyStops-at, IsGreedy-push, load_before-more, greedy-keeps}
use Rattle.branch_tree.proofs.greedy_start.choose_all.Goals as goal

pub place_cheapest-requires-clause-counts : goal.place_cheapest-requires-clause-counts
place_cheapest-requires-clause-counts c =
    greedy-keeps c.args.problem.now c.loop-unit.unit c.loop-unit.alts.items c.loop-unit.counts c.loop-unit.invariant.greedy
    (c.loop-unit.invariant.same_length ∙ c.requires.counts) (λ r l. c.loop-unit.invariant.counted r (omega (arith, c.loop-unit.invariant.same_length)))

pub returns-in_default-clause-no : goal.returns-in_default-clause-no
returns-in_default-clause-no c =
    let p = c.args.problem.now in
    let same : (r : ℕ) → r < resource_count p → slice_index c.loop-unit.counts r ≡ load_before p c.loop-unit.alts.items c.loop-unit.unit r =
    λ r l. c.loop-unit.invariant.counted r (omega (arith, c.requires.counts)) in
    inr (GreedyStops-at p (λ r. slice_index c.loop-unit.counts r) c.loop-unit.unit c.loop-unit.alts.items c.loop-unit.invariant.greedy
    (omega (arith, c.loop-unit-test.true, c.units-unit-end.ensures.count)) same (rw c.in_default.is at c.place_cheapest.ensures.none))

pub loop-unit-preserved : goal.loop-unit-preserved
loop-unit-preserved c =
    let p = c.args.problem.now in
    let x = c.loop-unit.alts.items in
    let n = c.loop-unit.unit in
    let a = c.in-Some.alt in
    let loads : ℕ → ℕ = λ r. slice_index c.loop-unit.counts r in
    let same : (r : ℕ) → r < resource_count p → loads r ≡ load_before p x n r =
    λ r l. c.loop-unit.invariant.counted r (omega (arith, c.requires.counts)) in
    let chosen : IsGreedyAlt p loads n a = c.in-Some.ensures.some in
    let pushed : c.push.new.self.items ≡ x ++ a ∷ [] = c.in_ok-push.ensures.items in
    let grew : (r : ℕ) → r < length c.loop-unit.counts → slice_index c.place_cheapest.new.counts r ≡ loads r + alt_uses p n a r = c.in-Some.ensures.placed in
    let few : (r : ℕ) → alt_uses p n a r ≤ 434 = c.in-Some.ensures.few in
    record {
      greedy = rw pushed (IsGreedy-push p loads n x a c.loop-unit.invariant.greedy same chosen);
      same_length = c.in-Some.ensures.length ∙ c.loop-unit.invariant.same_length;
      counted = λ r l. rw pushed
          (load_before-more p loads n x a r (slice_index c.place_cheapest.new.counts r) c.loop-unit.invariant.greedy.length
          (same r (omega (arith, c.requires.counts))) (grew r (omega (arith, c.loop-unit.invariant.same_length))));
      few = λ r l. omega (arith, grew r (omega (arith, c.loop-unit.invariant.same_length)), few r, c.loop-unit.invariant.few r l);
    }
